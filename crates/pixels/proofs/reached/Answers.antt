use mathlib.Core.Path.{◌∙◌}
use Rattle.lists.proofs.Choice.{was_not, was_so}
use Rattle.fragment.specs.Fragment.{depth_passes}
use Rattle.coverage.specs.Coverage.{depth_at, inv_w_at, usable}
use Rattle.pixels.specs.Way.{reaches}
use Rattle.pixels.proofs.reached.Goals as goal

pub returns-then-not-is_usable : goal.returns-then-not-is_usable
unfolding reaches
returns-then-not-is_usable c =
    let a = c.args in
    rw (was_so {b = depth_passes a.state (depth_at a.t.raster a.w) a.stored} (c.depth_passes.ensures ∙ rw c.depth_at-z.ensures) c.if-not-depth_passes.false-raw, was_not {b = usable (inv_w_at a.t.raster a.w)} (c.is_usable.ensures ∙ rw c.inv_w_at-iw.ensures) c.if-not-is_usable.true-raw)
