use mathlib.Core.Path.{◌≡◌}
use Rattle.std.proofs.Common.{rules}
use Rattle.floats.specs.Num.{◌⊕◌, ◌⊖◌, ◌⊗◌, one32}
use Rattle.fragment.proofs.decal.Goals as goal

-- With it the edit decal_takes_the_texture_alpha is refused for the equation, and not where a search gives up.
pub returns : goal.returns
returns c =
    let red : c.zip-color.result.r ≡ c.args.frag.r ⊗ (one32 ⊖ c.args.tex.a) ⊕ c.args.tex.r ⊗ c.args.tex.a = search rules in
    let green : c.zip-color.result.g ≡ c.args.frag.g ⊗ (one32 ⊖ c.args.tex.a) ⊕ c.args.tex.g ⊗ c.args.tex.a = search rules in
    let blue : c.zip-color.result.b ≡ c.args.frag.b ⊗ (one32 ⊖ c.args.tex.a) ⊕ c.args.tex.b ⊗ c.args.tex.a = search rules in
    λ i. record { r = red i; g = green i; b = blue i; a = c.args.frag.a }
