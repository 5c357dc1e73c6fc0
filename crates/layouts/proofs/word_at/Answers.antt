use Rattle.std.proofs.Common.{◌∙◌, ap, w32}
use Rattle.std.specs.Int.{from_le_bytes}
use Rattle.layouts.proofs.Bytes.{word_is}
use Rattle.layouts.proofs.word_at.Goals as goal

pub returns : goal.returns
returns c = c.from_le_bytes.ensures ∙ ap (from_le_bytes w32) c.bytes_at.ensures ∙ word_is c.args.b.now c.args.at c.requires
