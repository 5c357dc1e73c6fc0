use native.Mathlib.Numerals.{unary_clauses}
use Rattle.std.specs.Float.{nan}
use Rattle.std.proofs.Common.{◌≡◌, ℕ, rules, ap, ◌∙◌, get_or, ◌+◌, ◌*◌, List, Float, refl}
use Rattle.lists.specs.Lists.{tab}
use Rattle.lists.proofs.Made.{tab_from_fn}
use Rattle.mipmaps.specs.Mipmaps.{coordinates_of}
use Rattle.probes.specs.Sampling.{coordinates_from}
use Rattle.probes.proofs.probe_sampler.coordinates_from.Goals as goal

six : (l : List Float) (i : ℕ) → coordinates_of (tab 6 (λ k. get_or l (i * 6 + k) nan)) ≡ coordinates_from l i
unfolding tab
six l i = simp unary_clauses refl

pub returns : goal.returns
returns c =
    c.from.ensures
    ∙ ap coordinates_of (tab_from_fn _ _ (λ k. get_or c.args.coords.now (c.args.i * 6 + k) nan) (λ i q y k. search rules) 6 _ c.from_fn.ensures.items)
    ∙ six c.args.coords.now c.args.i
