use Rattle.std.proofs.Common.{◌∙◌}
use Rattle.tilefringe.proofs.Given.{sized}
use Rattle.compressed.specs.Compressed.{size_answered}
use Rattle.tilefringe.proofs.decode.tf_compressed_image_size.Goals as goal

pub returns : goal.returns
unfolding size_answered
returns c =
    let e = c.compressed_image_size.ensures in
    (c.give.ensures.number ∙ e.number, c.give.ensures.out_after ∙ sized c.compressed_image_size.result _ _ c.args.size.now e.number e.bytes)
