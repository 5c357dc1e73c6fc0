use Rattle.std.proofs.Common.{◌≡◌, refl, sym, ◌∙◌, arith}
use Rattle.lists.proofs.Choice.{yes, no}
use Rattle.lists.proofs.Turns.{iter_none, iter_more}
use Rattle.layouts.specs.Records.{level_bytes, level_bytes_at, put_level, put_define}
use Rattle.layouts.proofs.put_define.Goals as goal
use Rattle.layouts.proofs.put_define.Goals.{then-not-does_stay, else-not-does_stay}

pub loop-i-init : goal.loop-i-init
loop-i-init c = iter_none (put_level c.args.k c.args.texture.levels) c.args.b.now

pub loop-i-preserved : goal.loop-i-preserved
unfolding put_level level_bytes_at level_bytes
loop-i-preserved c =
    let f = put_level c.args.k c.args.texture.levels in
    elim c.if-not-does_stay.branch [
      | then-not-does_stay w ↦ w.b-is ∙ w.copy_in.ensures ∙ rw (c.loop-i.invariant, w.level_bytes.ensures) (no _ (sym c.does_stay.ensures ∙ w.if-not-does_stay.true) refl) ∙ iter_more f c.args.b.now c.loop-i.i
      | else-not-does_stay w ↦ w.b-is ∙ rw c.loop-i.invariant (yes _ (sym c.does_stay.ensures ∙ w.if-not-does_stay.false) refl) ∙ iter_more f c.args.b.now c.loop-i.i
    ]

pub returns : goal.returns
unfolding put_define
returns c =
    let e : c.loop-i.i ≡ 11 = omega arith in
    c.copy_in-2.ensures ∙ rw (c.to_le_bytes.ensures, c.loop-i.invariant, e) (refl {a = put_define c.args.k c.args.texture c.args.b.now})
