-- The cut to the top level. Assumes nothing.
use Rattle.std.proofs.lemmas.Bool.{true≢false, false≢true}
use Rattle.std.proofs.Common.{◌≡◌, ℕ, ◌*◌, ◌≤◌, min, true, false, T, refl, ap, arith}
use lib.Ieee.{Float, nan, inf, fin, lt}
use Rattle.detail.specs.Steps.{steps_of, cut_of}
use Rattle.detail.proofs.Fields.{one}

pub cut_fin : (q : Float) (n top : ℕ) → lt q (inf false) ≡ true → n ≡ steps_of q → T (lt one q) → min n (256 * top) ≡ cut_of q top
unfolding lt cut_of
cut_fin nan n top e h l = absurd l
cut_fin (inf true) n top e h l = absurd l
cut_fin (inf false) n top e h l = absurd (false≢true e)
cut_fin (fin s m d) n top e h l = ap (λ (z : ℕ). min z (256 * top)) h

pub cut_inf : (q : Float) (top : ℕ) → lt q (inf false) ≡ false → T (lt one q) → 256 * top ≡ cut_of q top
unfolding lt cut_of
cut_inf nan top e l = absurd l
cut_inf (inf s) top e l = refl
cut_inf (fin s m d) top e l = absurd (true≢false e)

pub cut_le : (q : Float) (top : ℕ) → cut_of q top ≤ 256 * top
unfolding cut_of
cut_le nan top = omega arith
cut_le (inf s) top = omega arith
cut_le (fin s m e) top = omega arith
