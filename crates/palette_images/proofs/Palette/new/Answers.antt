use mathlib.Core.Path.{◌∙◌}
use mathlib.Core.List.{[], ◌++◌}
use Prim.Native.Nat.{◌<◌}
use native.Mathlib.Omega.{arith}
use lib.ListN.{get_or-append, length-append}
use Rattle.lists.specs.Lists.{tab}
use Rattle.lists.proofs.Tables.{tab_more, length_tab, get_or_tab}
use Rattle.texels.specs.Texels.{nth_texel}
use Rattle.palette_images.proofs.Indices.{past_taken}
use Rattle.palette_images.proofs.Palette.new.Goals as goal

pub loop-i-preserved : goal.loop-i-preserved
unfolding nth_texel
loop-i-preserved c =
    let a = c.args in
    rw (c.loop-i.invariant, c.read.ensures, c.bytes-bytes.ensures) (tab_more (nth_texel a.t a.s.now) c.loop-i.i _ c.loop-i-test.true)

pub returns-clause-entries : goal.returns-clause-entries
returns-clause-entries c =
    λ i h.
    let a = c.args in
    let made = nth_texel a.t a.s.now in
    let far : i < c.loop-i.i = omega (arith, h, past_taken c.entries.result c.loop-i.i _ c.loop-i-test.false c.entries.ensures.1) in
    rw c.loop-i.invariant
    (get_or-append (tab c.loop-i.i made ++ _) _ [] i (rw length-append (omega (arith, length_tab made c.loop-i.i, far)))
    ∙ get_or-append (tab c.loop-i.i made) _ [] i (rw (length_tab made c.loop-i.i) far)
    ∙ get_or_tab made c.loop-i.i i [] far)
