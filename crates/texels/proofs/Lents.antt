-- An image that is lent twice is the same as before. Assumes nothing.
use mathlib.Core.Path.{refl, ◌∙◌}
use Rattle.texels.specs.declared.image.Image.{Image}
use Rattle.texels.specs.Lent.{Same}

pub same_still : {a : Image} → Same a a
same_still = record { sides = refl; out = refl }

pub same_on : {a b c : Image} → Same a b → Same b c → Same a c
same_on p q = record { sides = q.sides ∙ p.sides; out = q.out ∙ p.out }
