-- What a passed check says. Assumes nothing.
use Prim.Native.Nat.{ℕ, ◌*◌, ◌≤◌}
use mathlib.Core.Path.{◌≡◌, sym}
use mathlib.Core.Bool.{Bool, true, false, cond, ◌&&◌}
use native.Mathlib.Omega.{arith}
use Rattle.std.specs.Prelude.{Option}
use lib.Dec.{leb, eqb}
use borrow.Author.Tests.{leb-true, eqb-true}
use Rattle.answers.specs.declared.Refusal.{Refusal}
use Rattle.answers.specs.Numbers.{refusal_number}
use Rattle.answers.proofs.Answered.{refused_pos}
use Rattle.lists.proofs.Choice.{was_true}
use Rattle.settings.specs.declared.ScissorBox.{ScissorBox}
use Rattle.scissor.specs.Check.{target_fits, scissor_fits, check_of}
use Rattle.std.proofs.lemmas.Bool.{and_parts}

-- a target that passes: its sides and lengths
pub target_is : (w h c d : ℕ) → target_fits w h c d ≡ true → (w ≤ 4096) × (h ≤ 4096) × (c ≡ 4 * (w * h)) × (d ≡ w * h)
unfolding target_fits
target_is w h c d e =
    let p = and_parts (leb w 4096 && leb h 4096) (eqb c (4 * (w * h)) && eqb d (w * h)) e in
    let s = and_parts (leb w 4096) (leb h 4096) p.0 in
    let l = and_parts (eqb c (4 * (w * h))) (eqb d (w * h)) p.1 in
    (leb-true w 4096 s.0, leb-true h 4096 s.1, eqb-true c (4 * (w * h)) l.0, eqb-true d (w * h) l.1)

-- 1 and 2 both passed
pub check_passed : (w h c d : ℕ) (s : Option ScissorBox) → 0 ≡ check_of w h c d s → (target_fits w h c d ≡ true) × (scissor_fits s ≡ true)
unfolding check_of
check_passed w h c d s e =
    let a = was_true (target_fits w h c d) (sym e) (λ z. omega (arith, z)) in
    let b = was_true (scissor_fits s) a.1 (λ z. omega (arith, z)) in
    (a.0, b.0)

-- a test before another keeps what the other answers
pub through : (b : Bool) {x y k : ℕ} (z : ℕ) → (x ≡ k → y ≡ k) → cond b x z ≡ k → cond b y z ≡ k
through true z f e = f e
through false z f e = e

-- one of them refuses whatever is checked after them
pub check_refused : (w h c d : ℕ) (s : Option ScissorBox) (next : ℕ) (why : Refusal) → refusal_number why ≡ check_of w h c d s → refusal_number why ≡ cond (target_fits w h c d) (cond (scissor_fits s) next 2) 1
unfolding check_of
check_refused w h c d s next why e =
    sym (through (target_fits w h c d) 1 (through (scissor_fits s) 2 (λ z. absurd (omega (arith, refused_pos why, z)))) (sym e))
