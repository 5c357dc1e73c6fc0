use mathlib.Core.Path.{refl, sym, ◌≡◌, ◌∙◌}
use native.Mathlib.Omega.{arith}
use lib.Dec.{lit<}
use lib.Ieee.{nan}
use lib.ListN.{length}
use Rattle.std.proofs.lemmas.Result.{err_from_is_err_and}
use Rattle.answers.specs.declared.Refusal.TheVariants.{Float}
use Rattle.answers.specs.Numbers.{refusal_number}
use Rattle.answers.proofs.Answered.{refused_test, done_test}
use Rattle.lists.proofs.Choice.{yes, no, stay, leave}
use Rattle.render_target.specs.Clear.{clear_depth_check, clear_depth_of}
use Rattle.render_target.proofs.Cleared.{cleared_one}
use Rattle.scissor.proofs.Outcome.{target_is, check_passed, check_refused}
use Rattle.render_target.proofs.clear_depth.Goals as goal

pub returns-in_err-check : goal.returns-in_err-check
unfolding clear_depth_check clear_depth_of
returns-in_err-check c =
    let p = err_from_is_err_and c.from_residual.result c.from_residual.ensures.1 in
    let why = c.in_err-check.field-0.0 in
    let e : refusal_number why ≡ clear_depth_check c.args.width c.args.height c.args.colors_len (length c.args.depths.now) c.args.value c.args.scissor = check_refused _ _ _ _ _ _ why c.in_err-check.ensures in
    rw (p.1, p.2) (record { answer = e; depths_after = no _ (refused_test why _ e) refl })

pub returns-then-not-is_bounded : goal.returns-then-not-is_bounded
unfolding clear_depth_check clear_depth_of
returns-then-not-is_bounded c =
    let p = check_passed _ _ _ _ _ c.in_ok-check.ensures in
    let e : refusal_number Float ≡ clear_depth_check c.args.width c.args.height c.args.colors_len (length c.args.depths.now) c.args.value c.args.scissor = yes _ p.0 (yes _ p.1 (leave _ c.is_bounded.ensures c.if-not-is_bounded.true-raw refl)) in
    record { answer = e; depths_after = no _ (refused_test Float _ e) refl }

pub clear-requires : goal.clear-requires
clear-requires c = (lit< tt, (lit< tt, omega (arith, (target_is _ _ _ _ (check_passed _ _ _ _ _ c.in_ok-check.ensures).0).3)))

pub returns : goal.returns
unfolding clear_depth_check clear_depth_of
returns c =
    let p = check_passed _ _ _ _ _ c.in_ok-check.ensures in
    let e : 0 ≡ clear_depth_check c.args.width c.args.height c.args.colors_len (length c.args.depths.now) c.args.value c.args.scissor = yes _ p.0 (yes _ p.1 (stay _ c.is_bounded.ensures c.if-not-is_bounded.false-raw refl)) in
    record { answer = e; depths_after = yes _ (done_test _ e) (c.clear.ensures nan ∙ cleared_one _ nan _ _ _ _) }
