-- An f32 is usable if it is above 0 and below the infinity. Assumes nothing.
use Prim.Native.Nat.{ℕ, zero, suc, ◌+◌, ◌*◌, ◌≤◌, ◌<◌}
use mathlib.Core.Path.{◌≡◌, refl}
use mathlib.Core.Bool.{true, false, ◌&&◌, ◌||◌}
use native.Mathlib.Nat.{zero-mul}
use native.Mathlib.Omega.{arith}
use lib.Dec.{ltb, eqb}
use lib.Ieee.{Float, nan, inf, fin, up, down, lt, le, eq, of_bits}
use borrow.Author.Tests.{lt-ltb, le-ltb, eq-eqb, ne_eqb, ltb-true, ltb-false}
use Rattle.std.proofs.lemmas.Bool.{false≢true}
use Rattle.floats.specs.Num.{zero32, inf32, finite_of}
use Rattle.coverage.specs.Coverage.{usable}

at_most_zero : (a : ℕ) → ltb 0 (a + 0) || (eqb a 0 && (false || eqb a 0)) ≡ true
at_most_zero zero = refl
at_most_zero (suc a) = rw (lt-ltb 0 (suc a + 0) (omega arith))

pub above_zero : (x : Float) → lt zero32 x ≡ true → lt x inf32 ≡ usable x
unfolding usable le lt eq of_bits finite_of
above_zero nan h = absurd (false≢true h)
above_zero (inf true) h = absurd (false≢true h)
above_zero (inf false) h = refl
above_zero (fin true m e) h = absurd (false≢true h)
above_zero (fin false m e) h =
    let l : 0 * 1 * down e < m * up e * 1 = ltb-true _ _ h in
    rw (le-ltb (m * up e * 1) (0 * 1 * down e) (omega arith), ne_eqb (m * up e * 1) (0 * 1 * down e) (omega arith))

pub not_above_zero : (x : Float) → lt zero32 x ≡ false → false ≡ usable x
unfolding usable le lt eq of_bits finite_of
not_above_zero nan h = refl
not_above_zero (inf true) h = refl
not_above_zero (inf false) h = refl
not_above_zero (fin true m e) h = rw (zero-mul (down e), at_most_zero (m * up e * 1))
not_above_zero (fin false m e) h =
    let l : m * up e * 1 ≤ 0 * 1 * down e = ltb-false _ _ h in
    rw (le-ltb (m * up e * 1) (0 * 1 * down e) (omega arith), eq-eqb (m * up e * 1) (0 * 1 * down e) (omega arith))
