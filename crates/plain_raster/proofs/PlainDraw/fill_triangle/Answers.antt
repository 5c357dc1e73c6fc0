use Rattle.plain_raster.proofs.PlainDraw.fill_triangle.Goals as goal

pub returns-clause-drawn : goal.returns-clause-drawn
returns-clause-drawn c = c.fill-2.ensures.drawn
