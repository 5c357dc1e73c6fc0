use Rattle.std.proofs.Common.{◌∙◌, arith}
use Rattle.layouts.proofs.Lone.{level_first, level_above, level_past}
use Rattle.layouts.proofs.LayoutRecord.image_level.Goals as goal

pub returns-then-k-ge-LEVELS : goal.returns-then-k-ge-LEVELS
returns-then-k-ge-LEVELS c = level_past c.args.self.bytes.now c.args.k (omega (arith, c.if-k-ge-LEVELS.true))

pub returns-then-k-eq0 : goal.returns-then-k-eq0
returns-then-k-eq0 c = rw (c.level_at-m.ensures, c.if-k-eq0.true) (level_first c.args.self.bytes.now)

pub returns-else-k-eq0 : goal.returns-else-k-eq0
returns-else-k-eq0 c = c.level_at-m.ensures ∙ level_above c.args.self.bytes.now c.args.k (omega (arith, c.if-k-eq0.false)) (omega arith)
