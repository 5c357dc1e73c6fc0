use Rattle.texels.specs.Texels.{nth_texel}
use Rattle.texels.proofs.Images.{nth_four}
use Rattle.lists.proofs.Rows.{flat_none, flat_more}
use borrow.Author.Rules.{rules}
use mathlib.Core.Path.{refl, ◌∙◌}
use Rattle.texels.proofs.fill.Goals as goal

pub loop-i-init : goal.loop-i-init
loop-i-init c = (search rules, refl, flat_none 4 (nth_texel _ _) (nth_four _ _) _)

pub loop-i-preserved : goal.loop-i-preserved
unfolding nth_texel
loop-i-preserved c =
    let a = c.args in (
      search rules,
      c.put4.auto.out ∙ c.loop-i.invariant.1,
      rw (c.put4.ensures, c.loop-i.invariant.2, c.read.ensures, c.bytes-bytes.ensures)
          (flat_more 4 (nth_texel a.t a.s.now) (nth_four a.t a.s.now) c.loop-i.i a.out.now),
    )
