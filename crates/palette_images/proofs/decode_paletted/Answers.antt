use mathlib.Core.Path.{◌∙◌}
use Rattle.palette_images.specs.Paletted.{index_bits}
use Rattle.palette_images.proofs.Indices.{table_image}
use Rattle.palette_images.proofs.decode_paletted.Goals as goal

pub returns-clause-drawn : goal.returns-clause-drawn
returns-clause-drawn c =
    let a = c.args in
    let sides = a.image.now.sides in
    c.put_rows.ensures.drawn
    ∙ rw (c.new-palette.ensures.bits, c.entries.ensures.0, c.bytes.ensures)
    (table_image (index_bits a.bits) a.t sides.w sides.h a.s.now c.new-palette.result.entries c.new-palette.ensures.entries)
