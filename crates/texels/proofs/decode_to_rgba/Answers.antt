use mathlib.Core.Path.{◌≡◌, ◌∙◌}
use lib.ListN.{length}
use Rattle.std.specs.Prelude.{Some, None}
use native.Mathlib.Omega.{arith}
use Rattle.answers.specs.declared.Refusal.TheVariants.{Format, Side, Bytes, Output}
use Rattle.texels.specs.Texels.{format_of}
use Rattle.texels.proofs.Plains.{passed_on, plain_14, plain_9, plain_11, plain_15, plain_0, plain_unchanged, plain_drawn}
use Rattle.texels.proofs.decode_to_rgba.Goals as goal

pub returns-in_err-t-clause-number : goal.returns-in_err-t-clause-number
returns-in_err-t-clause-number c =
    let a = c.args in
    let n : format_of a.format a.ty ≡ None = grind arith in
    let e : c.in_err-t.field-0.0 ≡ Format = grind arith in
    passed_on _ _ c.from_residual.ensures.1 ∙ rw (e, n) (plain_14 a.width a.height (length a.s.now) (length a.out.now))

pub returns-in_err-t-clause-left : goal.returns-in_err-t-clause-left
returns-in_err-t-clause-left c =
    let a = c.args in
    let n : format_of a.format a.ty ≡ None = grind arith in
    rw n (plain_unchanged None a.width a.height a.s.now a.out.now Format (plain_14 a.width a.height (length a.s.now) (length a.out.now)))

pub returns-in_err-new-clause-number : goal.returns-in_err-new-clause-number
returns-in_err-new-clause-number c =
    let a = c.args in
    let t = c.in_ok-t.t in
    let n : format_of a.format a.ty ≡ Some t = grind arith in
    passed_on _ _ c.from_residual-in_err-new.ensures.1
    ∙ rw (c.in_err-new.ensures.1, n) (plain_9 a.width a.height (length a.s.now) (length a.out.now) t c.in_err-new.ensures.0)

pub returns-in_err-new-clause-left : goal.returns-in_err-new-clause-left
returns-in_err-new-clause-left c =
    let a = c.args in
    let t = c.in_ok-t.t in
    let n : format_of a.format a.ty ≡ Some t = grind arith in
    rw n
    (plain_unchanged (Some t) a.width a.height a.s.now a.out.now Side
    (plain_9 a.width a.height (length a.s.now) (length a.out.now) t c.in_err-new.ensures.0))

pub returns-then-s-count-clause-number : goal.returns-then-s-count-clause-number
returns-then-s-count-clause-number c =
    let a = c.args in
    let t = c.in_ok-t.t in
    let n : format_of a.format a.ty ≡ Some t = grind arith in
    let e = c.in_ok-new.ensures in
    rw n (plain_11 a.width a.height (length a.s.now) (length a.out.now) t e.0 (rw (← c.bytes.ensures, ← e.1, ← e.2, ← c.texels-count.ensures.value) c.if-s-count.true))

pub returns-then-s-count-clause-left : goal.returns-then-s-count-clause-left
returns-then-s-count-clause-left c =
    let a = c.args in
    let t = c.in_ok-t.t in
    let n : format_of a.format a.ty ≡ Some t = grind arith in
    let e = c.in_ok-new.ensures in
    rw n
    (plain_unchanged (Some t) a.width a.height a.s.now a.out.now Bytes
    (plain_11 a.width a.height (length a.s.now) (length a.out.now) t e.0 (rw (← c.bytes.ensures, ← e.1, ← e.2, ← c.texels-count.ensures.value) c.if-s-count.true)))

pub returns-then-out-count-clause-number : goal.returns-then-out-count-clause-number
returns-then-out-count-clause-number c =
    let a = c.args in
    let t = c.in_ok-t.t in
    let n : format_of a.format a.ty ≡ Some t = grind arith in
    let e = c.in_ok-new.ensures in
    rw n
    (plain_15 a.width a.height (length a.s.now) (length a.out.now) t e.0
    (rw (← c.bytes.ensures, ← e.1, ← e.2, ← c.texels-count.ensures.value) c.if-s-count.false)
    (rw (← e.1, ← e.2, ← c.texels-count.ensures.value) c.if-out-count.true))

pub returns-then-out-count-clause-left : goal.returns-then-out-count-clause-left
returns-then-out-count-clause-left c =
    let a = c.args in
    let t = c.in_ok-t.t in
    let n : format_of a.format a.ty ≡ Some t = grind arith in
    let e = c.in_ok-new.ensures in
    rw n
    (plain_unchanged (Some t) a.width a.height a.s.now a.out.now Output
    (plain_15 a.width a.height (length a.s.now) (length a.out.now) t e.0
    (rw (← c.bytes.ensures, ← e.1, ← e.2, ← c.texels-count.ensures.value) c.if-s-count.false)
    (rw (← e.1, ← e.2, ← c.texels-count.ensures.value) c.if-out-count.true)))

pub returns-clause-number : goal.returns-clause-number
returns-clause-number c =
    let a = c.args in
    let t = c.in_ok-t.t in
    let n : format_of a.format a.ty ≡ Some t = grind arith in
    let e = c.in_ok-new.ensures in
    rw n
    (plain_0 a.width a.height (length a.s.now) (length a.out.now) t e.0
    (rw (← c.bytes.ensures, ← e.1, ← e.2, ← c.texels-count.ensures.value) c.if-s-count.false)
    (rw (← e.1, ← e.2, ← c.texels-count.ensures.value) c.if-out-count.false))

pub returns-clause-left : goal.returns-clause-left
returns-clause-left c =
    let a = c.args in
    let t = c.in_ok-t.t in
    let n : format_of a.format a.ty ≡ Some t = grind arith in
    let e = c.in_ok-new.ensures in
    c.decode_texels.ensures
    ∙ rw (c.texels-count.ensures.value, e.1, e.2, n)
    (plain_drawn t a.width a.height a.s.now a.out.now
    (plain_0 a.width a.height (length a.s.now) (length a.out.now) t e.0
    (rw (← c.bytes.ensures, ← e.1, ← e.2, ← c.texels-count.ensures.value) c.if-s-count.false)
    (rw (← e.1, ← e.2, ← c.texels-count.ensures.value) c.if-out-count.false)))
