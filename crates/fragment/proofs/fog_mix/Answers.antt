use mathlib.Core.Path.{◌≡◌}
use Rattle.std.proofs.Common.{rules}
use Rattle.floats.specs.Num.{◌⊕◌, ◌⊖◌, ◌⊗◌, one32}
use Rattle.fragment.proofs.fog_mix.Goals as goal

-- With it the edit fog_on_alpha is refused for the equation, and not where a search gives up.
pub returns : goal.returns
returns c =
    let red : c.zip-mixed.result.r ≡ c.args.f ⊗ c.args.c.r ⊕ (one32 ⊖ c.args.f) ⊗ c.args.color.r = search rules in
    let green : c.zip-mixed.result.g ≡ c.args.f ⊗ c.args.c.g ⊕ (one32 ⊖ c.args.f) ⊗ c.args.color.g = search rules in
    let blue : c.zip-mixed.result.b ≡ c.args.f ⊗ c.args.c.b ⊕ (one32 ⊖ c.args.f) ⊗ c.args.color.b = search rules in
    λ i. record { r = red i; g = green i; b = blue i; a = c.args.c.a }
