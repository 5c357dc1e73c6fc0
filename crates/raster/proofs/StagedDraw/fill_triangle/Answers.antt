use Rattle.raster.proofs.StagedDraw.fill_triangle.Goals as goal

pub returns-clause-drawn : goal.returns-clause-drawn
returns-clause-drawn c = c.fill.ensures.drawn
