-- n of a finite q above 1, and 0 of any other. Assumes nothing.
use Rattle.std.specs.Prelude.{ℕ, Bool, true, false, cond, Float, Option, Some, None}
use Rattle.std.specs.Option.{unwrap_or}
use Rattle.std.specs.Float.Ieee as Ieee
use Rattle.std.specs.Float.{inf, binary64}
use Rattle.detail.specs.Steps.{steps_of}
use mathlib.Core.Path.{◌≡◌, refl, ap, ◌∙◌}
use Rattle.probes.specs.Sampling.{steps_if, steps_from}

some_or : (a b : Bool) (n : ℕ) → unwrap_or (cond a (cond b (Some n) None) None) 0 ≡ cond a (cond b n 0) 0
some_or true true n = refl
some_or true false n = refl
some_or false b n = refl

pub steps_or : (q : Float) (read : Option ℕ) (n : ℕ) → n ≡ unwrap_or read 0 → read ≡ steps_if q → n ≡ steps_from q
steps_or q read n h e = h ∙ ap (λ o. unwrap_or o 0) e ∙ some_or (Ieee.lt (Ieee.of_bits binary64 0x3ff0_0000_0000_0000) q) (Ieee.lt q (inf false)) (steps_of q)
