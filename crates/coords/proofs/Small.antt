-- Which floats are small. Assumes nothing.
use mathlib.Core.Path.{◌≡◌, sym, ap, ◌∙◌}
use mathlib.Core.Bool.{Bool, true, false, cond}
use lib.Ieee.{Float, lt, neg, of_bits, binary32}
use Rattle.std.proofs.lemmas.Bool.{false≢true}
use Rattle.lists.proofs.Choice.{was_true}
use Rattle.floats.specs.Num.{zero32}
use Rattle.coords.specs.Coords.{Few, small_of}
use Rattle.coords.proofs.Quick.{minus_above}

pub small_above : (x : Float) → small_of x ≡ true → lt zero32 x ≡ true → Few x
unfolding small_of
small_above x s a =
    record {
      above = a;
      below = ap (λ (b : Bool). cond b (lt x (of_bits binary32 0x4a80_0000)) (cond (lt x zero32) (lt (neg x) (of_bits binary32 0x4a80_0000)) false)) (sym a) ∙ s;
    }

pub small_below : (x : Float) → small_of x ≡ true → lt zero32 x ≡ false → Few (neg x)
unfolding small_of
small_below x s a =
    let w = was_true (lt x zero32) (ap (λ (b : Bool). cond b (lt x (of_bits binary32 0x4a80_0000)) (cond (lt x zero32) (lt (neg x) (of_bits binary32 0x4a80_0000)) false)) (sym a) ∙ s) false≢true in
    record { above = minus_above x w.0; below = w.1 }
