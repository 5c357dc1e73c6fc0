use mathlib.Core.Path.{refl, sym, ◌∙◌}
use native.Mathlib.Omega.{arith}
use Rattle.answers.specs.declared.Refusal.TheVariants.{Target}
use mathlib.Core.Path.{◌≡◌}
use lib.ListN.{length}
use Rattle.answers.specs.Numbers.{refusal_number}
use Rattle.answers.proofs.Answered.{refused_test, done_test}
use Rattle.lists.proofs.Choice.{yes, no, stay, leave, was_so}
use Rattle.export.specs.Export.{export_check}
use Rattle.export.specs.Export.{rgb565_of, exported_of}
use Rattle.scissor.proofs.Outcome.{target_is}
use borrow.Author.Tests.{not-false}
use Rattle.export.proofs.to_rgb565.Goals as goal

pub returns-then-not-target_fits : goal.returns-then-not-target_fits
unfolding export_check rgb565_of
returns-then-not-target_fits c =
    let e : refusal_number Target ≡ export_check c.args.width c.args.height (length c.args.colors.now) c.args.depths_len = leave _ c.target_fits.ensures c.if-not-target_fits.true-raw refl in
    record { answer = e; out_after = no _ (refused_test Target _ e) refl }

pub export_pixels-requires : goal.export_pixels-requires
export_pixels-requires c =
    let t = target_is _ _ _ _ (sym c.target_fits.ensures ∙ not-false _ c.if-not-target_fits.false-raw) in
    (omega (arith, t, c.min.ensures), omega (arith, c.min.ensures))

pub returns : goal.returns
unfolding export_check rgb565_of exported_of
returns c =
    let e : 0 ≡ export_check c.args.width c.args.height (length c.args.colors.now) c.args.depths_len = stay _ c.target_fits.ensures c.if-not-target_fits.false-raw refl in
    record { answer = e; out_after = yes _ (done_test _ e) (rw c.min.ensures at c.export_pixels.ensures) }
