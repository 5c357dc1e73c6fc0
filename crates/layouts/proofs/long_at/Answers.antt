use Rattle.std.proofs.Common.{◌∙◌, ap, w64}
use Rattle.std.specs.Int.{from_le_bytes}
use Rattle.layouts.proofs.Bytes.{long_is}
use Rattle.layouts.proofs.long_at.Goals as goal

pub returns : goal.returns
returns c = c.from_le_bytes.ensures ∙ ap (from_le_bytes w64) c.bytes_at.ensures ∙ long_is c.args.b.now c.args.at c.requires
