use mathlib.Core.Path.{refl}
use native.Mathlib.Omega.{arith}
use Rattle.raster.specs.Fill.{row_of}
use Rattle.raster.proofs.Fills.{same_still, filled_more, fill_end, pixel_count}
use Rattle.raster.proofs.fill_row.Goals as goal

pub loop-px-init : goal.loop-px-init
unfolding row_of
loop-px-init g c = (record { rest = refl; same = same_still }, omega arith, omega arith)

pub draw_pixel-requires : goal.draw_pixel-requires
draw_pixel-requires g c = let s = c.loop-px.invariant.0.same in record {
  paints = c.requires.paints;
  bounds = omega (arith, c.requires.bounds, c.args.target.now.fit, c.loop-px.invariant);
  inside = rw s.width (omega (arith, s.pixels, c.requires.inside, c.requires.bounds));
}

pub loop-px-preserved : goal.loop-px-preserved
loop-px-preserved g c =
    let s = c.loop-px.invariant.0.same in
    let q = rw s.width at c.draw_pixel.ensures.drawn in
    let k = pixel_count _ _ _ _ _ _ _ q in
    (filled_more c.loop-px.invariant.0 c.loop-px-test.true q c.draw_pixel.ensures.same, omega (arith, k), omega (arith, k))

pub returns : goal.returns
returns g c = record { drawn = fill_end c.loop-px.invariant.0 c.loop-px-test.false; same = c.loop-px.invariant.0.same; count = omega (arith, c.requires, c.args.target.now.fit) }
