use mathlib.Core.Path.{◌≡◌, refl, ◌∙◌}
use mathlib.Core.Bool.{true}
use native.Mathlib.Omega.{arith}
use lib.ListN.{length}
use Rattle.std.specs.Prelude.{Some, None}
use Rattle.answers.specs.declared.Refusal.TheVariants.{Side, Format}
use Rattle.texels.proofs.Plains.{passed_on}
use Rattle.compressed.specs.Compressed.{compressed_of, zero_side}
use Rattle.compressed.proofs.Checks.{zero_wide, zero_high, no_zero, large_9, empty_check_is, known_14, known_check_is, unchanged, empty_left, known_left_is}
use Rattle.compressed.proofs.decode_compressed_to_rgba.Goals as goal
use Rattle.compressed.proofs.decode_compressed_to_rgba.Goals.{then-width-eq0-via-then-width-eq0, then-width-eq0-via-else-width-eq0+then-height-eq0}

pub returns-in_err-sides-clause-number : goal.returns-in_err-sides-clause-number
returns-in_err-sides-clause-number c =
    let a = c.args in
    let e = c.in_err-sides.ensures in
    passed_on _ _ c.from_residual.ensures.1
    ∙ rw e.1 (large_9 (compressed_of a.format) a.width a.height (length a.s.now) (length a.out.now) e.0)

pub returns-in_err-sides-clause-left : goal.returns-in_err-sides-clause-left
returns-in_err-sides-clause-left c =
    let a = c.args in
    unchanged (compressed_of a.format) a.width a.height a.s.now a.out.now Side
    (large_9 (compressed_of a.format) a.width a.height (length a.s.now) (length a.out.now) c.in_err-sides.ensures.0)

pub returns-then-width-eq0-clause-number : goal.returns-then-width-eq0-clause-number
returns-then-width-eq0-clause-number c =
    let a = c.args in
    let z : zero_side a.width a.height ≡ true = elim c.then-width-eq0.branch [
      | then-width-eq0-via-then-width-eq0 w ↦ zero_wide a.width a.height w.if-width-eq0.true
      | then-width-eq0-via-else-width-eq0+then-height-eq0 w ↦ zero_high a.width a.height w.if-width-eq0.false w.if-height-eq0.true
    ] in
    c.decode_empty.ensures ∙ empty_check_is (compressed_of a.format) a.width a.height (length a.s.now) (length a.out.now) c.in_ok-sides.ensures.0 z

pub returns-then-width-eq0-clause-left : goal.returns-then-width-eq0-clause-left
returns-then-width-eq0-clause-left c =
    let a = c.args in
    let z : zero_side a.width a.height ≡ true = elim c.then-width-eq0.branch [
      | then-width-eq0-via-then-width-eq0 w ↦ zero_wide a.width a.height w.if-width-eq0.true
      | then-width-eq0-via-else-width-eq0+then-height-eq0 w ↦ zero_high a.width a.height w.if-width-eq0.false w.if-height-eq0.true
    ] in
    empty_left (compressed_of a.format) a.width a.height a.s.now a.out.now c.in_ok-sides.ensures.0 z

pub returns-in_err-try_from-clause-number : goal.returns-in_err-try_from-clause-number
returns-in_err-try_from-clause-number c =
    let a = c.args in
    let z = no_zero a.width a.height c.if-width-eq0.false c.if-height-eq0.false in
    let n : compressed_of a.format ≡ None = grind arith in
    let e : c.in_err-try_from.field-0.0 ≡ Format = grind arith in
    passed_on _ _ c.from_residual-in_err-try_from.ensures.1
    ∙ rw (e, n)
    (known_14 None a.width a.height (length a.s.now) (length a.out.now) refl
    ∙ known_check_is None a.width a.height (length a.s.now) (length a.out.now) c.in_ok-sides.ensures.0 z)

pub returns-in_err-try_from-clause-left : goal.returns-in_err-try_from-clause-left
returns-in_err-try_from-clause-left c =
    let a = c.args in
    let z = no_zero a.width a.height c.if-width-eq0.false c.if-height-eq0.false in
    let n : compressed_of a.format ≡ None = grind arith in
    rw n
    (unchanged None a.width a.height a.s.now a.out.now Format
    (known_14 None a.width a.height (length a.s.now) (length a.out.now) refl
    ∙ known_check_is None a.width a.height (length a.s.now) (length a.out.now) c.in_ok-sides.ensures.0 z))

pub returns-clause-number : goal.returns-clause-number
returns-clause-number c =
    let a = c.args in
    let s = c.in_ok-sides.ensures in
    let f = c.in_ok-try_from.field-0 in
    let n : compressed_of a.format ≡ Some f = grind arith in
    c.decode.ensures.number
    ∙ rw (s.1, s.2, n)
    (known_check_is (Some f) a.width a.height (length a.s.now) (length a.out.now) s.0
    (no_zero a.width a.height c.if-width-eq0.false c.if-height-eq0.false))

pub returns-clause-left : goal.returns-clause-left
returns-clause-left c =
    let a = c.args in
    let s = c.in_ok-sides.ensures in
    let f = c.in_ok-try_from.field-0 in
    let n : compressed_of a.format ≡ Some f = grind arith in
    c.decode.ensures.left
    ∙ rw (s.1, s.2, n)
    (known_left_is (Some f) a.width a.height a.s.now a.out.now s.0
    (no_zero a.width a.height c.if-width-eq0.false c.if-height-eq0.false))
