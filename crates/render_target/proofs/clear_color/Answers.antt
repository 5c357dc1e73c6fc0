use mathlib.Core.Path.{refl}
use lib.Dec.{lit<}
use Rattle.std.proofs.lemmas.Result.{err_from_is_err_and}
use Rattle.answers.proofs.Answered.{refused_test, done_test}
use Rattle.lists.proofs.Choice.{yes, no}
use Rattle.render_target.specs.Clear.{clear_color_check}
use Rattle.render_target.specs.Clear.{clear_color_of}
use Rattle.scissor.proofs.Outcome.{target_is, check_passed}
use Rattle.scissor.specs.Check.{check_of}
use Rattle.render_target.proofs.clear_color.Goals as goal

pub returns-in_err-check : goal.returns-in_err-check
unfolding clear_color_check clear_color_of check_of
returns-in_err-check c =
    let p = err_from_is_err_and c.from_residual.result c.from_residual.ensures.1 in
    let why = c.in_err-check.field-0.0 in
    rw (p.1, p.2) (record { answer = c.in_err-check.ensures; colors_after = no _ (refused_test why _ c.in_err-check.ensures) refl })

pub clear-requires : goal.clear-requires
clear-requires c = (lit< tt, (lit< tt, (target_is _ _ _ _ (check_passed _ _ _ _ _ c.in_ok-check.ensures).0).2))

pub returns : goal.returns
unfolding clear_color_check clear_color_of check_of
returns c = record { answer = c.in_ok-check.ensures; colors_after = yes _ (done_test _ c.in_ok-check.ensures) (c.clear.ensures 0) }
