use Rattle.pixels.proofs.Pixels.{written_both}
use Rattle.pixels.proofs.write_pixel.Goals as goal

pub returns-clause-drawn : goal.returns-clause-drawn
returns-clause-drawn c = written_both c.args.state c.args.z c.args.c _ _ _ c.args.i c.write_color.ensures c.write_depth.ensures
