use Prim.Native.Nat.{ℕ, ◌+◌}
use mathlib.Core.Path.{◌≡◌}
use Rattle.sampler.specs.Samples.{level_texel}
use Rattle.sampler.proofs.sample_chosen.Given as goal

abbrev pub invariant-loop-m : goal.invariant-loop-m
invariant-loop-m l =
    ((j : ℕ) → l.m-index ≡ j + 1 → l.upper ≡ level_texel l.store l.texture (l.chosen.level + j) l.chosen.filter l.s l.t)
    × ((j : ℕ) → l.m-index ≡ j + 2 → l.lower ≡ level_texel l.store l.texture (l.chosen.level + j) l.chosen.filter l.s l.t)
