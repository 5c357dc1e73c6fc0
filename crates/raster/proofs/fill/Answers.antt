use mathlib.Core.Path.{refl}
use native.Mathlib.Omega.{arith}
use Rattle.render_target.proofs.Rowwise.{row_within}
use Rattle.raster.specs.Fill.{fill_of}
use Rattle.raster.proofs.Fills.{same_still, filled_more, fill_end}
use Rattle.raster.proofs.fill.Goals as goal

pub loop-py-init : goal.loop-py-init
unfolding fill_of
loop-py-init g c = (record { rest = refl; same = same_still }, omega arith, omega arith, refl)

pub fill_row-requires : goal.fill_row-requires
fill_row-requires g c = let s = c.loop-py.invariant.0.same in record {
  paints = c.requires.paints;
  bounds = (omega (arith, s.width, c.requires.inside.columns), omega (arith, c.loop-py-test.true, c.requires.inside.rows), omega (arith, c.loop-py.invariant, c.loop-py-test.true, c.requires.count, c.requires.inside.rows));
  inside = rw s.width (omega (arith, s.pixels, c.requires.inside.long, row_within c.args.target.now.width c.loop-py-test.true));
}

pub loop-py-preserved : goal.loop-py-preserved
loop-py-preserved g c =
    let s = c.loop-py.invariant.0.same in
    (filled_more c.loop-py.invariant.0 c.loop-py-test.true (rw s.width at c.fill_row.ensures.drawn) c.fill_row.ensures.same, omega (arith, c.fill_row.ensures.count), omega (arith, c.fill_row.ensures.count), c.loop-py.invariant.3)

pub returns : goal.returns
returns g c = record { drawn = fill_end c.loop-py.invariant.0 c.loop-py-test.false; same = c.loop-py.invariant.0.same; count = omega (arith, c.requires.inside.rows) }
