use Rattle.std.proofs.Common.{◌∙◌, refl, arith}
use Rattle.lists.specs.Lists.{tab}
use Rattle.draw_bytes.specs.Write.{vertex_words}
use Rattle.draw_bytes.proofs.vertex_words.Goals as goal

pub returns : goal.returns
unfolding vertex_words tab
returns c =
    rw (
      c.copy_from_slice.ensures.after ∙ c.float_words.ensures,
      c.copy_from_slice-2.ensures.after ∙ c.float_words-2.ensures,
      c.copy_from_slice-3.ensures.after ∙ c.float_words-3.ensures,
      c.float_bits.ensures,
    )
    (refl {a = vertex_words c.args.v})

pub slice_bounds-out-end-3 : goal.slice_bounds-out-end-3
unfolding tab
slice_bounds-out-end-3 c =
    rw (c.copy_from_slice.ensures.after ∙ c.float_words.ensures, c.copy_from_slice-2.ensures.after ∙ c.float_words-2.ensures) (omega arith)
