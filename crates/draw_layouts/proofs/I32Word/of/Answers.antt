use Rattle.draw_layouts.proofs.Read.{signed_back}
use Rattle.draw_layouts.proofs.I32Word.of.Goals as goal

pub returns : goal.returns
returns c = signed_back c.args.word _ c.ranges.word.fits c.cast_signed.ensures
