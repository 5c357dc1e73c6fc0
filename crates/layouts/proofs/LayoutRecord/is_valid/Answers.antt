use Rattle.std.proofs.Common.{◌≡◌, true, false, refl, sym, ap, ◌∙◌}
use Rattle.levels.specs.Levels.{level_of, fits, valid_of}
use Rattle.layouts.specs.Records.{read_texture}
use Rattle.layouts.proofs.Lone.{lone_layout}
use Rattle.layouts.proofs.LayoutRecord.is_valid.Goals as goal

pub returns-then-does_fit : goal.returns-then-does_fit
returns-then-does_fit c =
    let e : fits c.args.len (level_of (read_texture c.args.self.bytes.now) 0) ≡ true = ap (fits c.args.len) (sym c.image_level-m.ensures) ∙ sym c.does_fit.ensures ∙ c.if-does_fit.true in
    rw (sym (lone_layout c.args.self.bytes.now (c.is_lone.ensures c.if-is_lone.true) c.args.len), e, c.long_at.ensures) refl

pub returns-else-does_fit : goal.returns-else-does_fit
returns-else-does_fit c =
    let e : fits c.args.len (level_of (read_texture c.args.self.bytes.now) 0) ≡ false = ap (fits c.args.len) (sym c.image_level-m.ensures) ∙ sym c.does_fit.ensures ∙ c.if-does_fit.false in
    rw (sym (lone_layout c.args.self.bytes.now (c.is_lone.ensures c.if-is_lone.true) c.args.len), e) c.if-does_fit.false

pub returns : goal.returns
unfolding valid_of read_texture
returns c = c.is_valid.ensures ∙ rw (c.levels_at.ensures, c.long_at-2.ensures)
