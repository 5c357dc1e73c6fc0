-- An image that is lent.
use Rattle.std.specs.Prelude.{◌≡◌}
use Rattle.texels.specs.declared.image.Image.{Image}

-- the same memory, with the same sides
pub record Same (a b : Image) : Type 0 where
  pub sides : b.sides ≡ a.sides
  pub out : b.out.ghost_name ≡ a.out.ghost_name
