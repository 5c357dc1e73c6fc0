use mathlib.Core.Path.{refl, ap, ◌∙◌}
use lib.IntN.{ℤ}
use mir.Syntax.{w64}
use mir.Val.{SFits}
use Rattle.std.proofs.Common.{rules}
use Rattle.std.proofs.lemmas.Int.{to_z-of_z}
use Rattle.floats.specs.Num.{◌⊗◌, of_nat32}
use Rattle.coords.specs.Coords.{Floored, wrap_texel}
use Rattle.coords.proofs.Sides.{coord_is}
use Rattle.coords.proofs.Side.coord.Goals as goal

pub returns-in-Some : goal.returns-in-Some
returns-in-Some c =
    let f : SFits w64 c.in-Some.floor.whole = search rules in
    let k : Floored (c.args.v ⊗ of_nat32 c.args.self.size) c.in-Some.floor.whole c.in-Some.floor.low = rw c.in-Some.is at c.near_floor.ensures in
    c.texel.ensures ∙ ap (λ (z : ℤ). wrap_texel c.args.self.wrap z c.args.self.size) (to_z-of_z w64 _ f ∙ k.whole) ∙ coord_is c.args.self.size c.args.self.some c.args.self.few c.args.self.wrap c.args.v _ refl

pub returns-in-None : goal.returns-in-None
returns-in-None c = c.far_texel.ensures ∙ coord_is c.args.self.size c.args.self.some c.args.self.few c.args.self.wrap c.args.v _ refl
