use mathlib.Core.Path.{subst}
use Prim.Native.Nat.{◌≤◌}
use lib.ListN.{length}
use Rattle.std.specs.Prelude.{Some}
use Rattle.compressed.specs.declared.Compressed.{Compressed}
use Rattle.compressed.specs.Compressed.{size_of, compressed_image}
use Rattle.compressed.proofs.Compressed.decode_image.Goals as goal

pub decode_blocks-requires : goal.decode_blocks-requires
unfolding size_of
decode_blocks-requires c =
    let a = c.args in
    subst (λ (g : Compressed). size_of (Some g) a.image.now.sides.w a.image.now.sides.h ≤ length a.s.now) c.in-Blocks.is c.requires

pub decode_paletted-requires : goal.decode_paletted-requires
unfolding size_of
decode_paletted-requires c =
    let a = c.args in
    subst (λ (g : Compressed). size_of (Some g) a.image.now.sides.w a.image.now.sides.h ≤ length a.s.now) c.in-Palette.is c.requires

pub returns-in-Blocks-clause-drawn : goal.returns-in-Blocks-clause-drawn
unfolding compressed_image
returns-in-Blocks-clause-drawn c = rw c.in-Blocks.is c.decode_blocks.ensures.drawn

pub returns-in-Palette-clause-drawn : goal.returns-in-Palette-clause-drawn
unfolding compressed_image
returns-in-Palette-clause-drawn c = rw c.in-Palette.is c.decode_paletted.ensures.drawn
