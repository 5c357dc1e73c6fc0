use mathlib.Core.Path.{refl, ◌∙◌}
use borrow.Author.Rules.{rules}
use lib.ListN.{length}
use Rattle.std.specs.Prelude.{Some}
use Rattle.answers.specs.declared.Refusal.TheVariants.{Bytes, Output}
use Rattle.compressed.proofs.Checks.{known_11, known_15, known_0, known_unchanged, known_drawn}
use Rattle.compressed.proofs.Compressed.decode.Goals as goal

pub returns-then-s-size-clause-number : goal.returns-then-s-size-clause-number
returns-then-s-size-clause-number c =
    let a = c.args in
    known_11 (Some a.self) a.sides.w a.sides.h (length a.s.now) (length a.out.now) refl (rw (← c.size.ensures) c.if-s-size.true)

pub returns-then-s-size-clause-left : goal.returns-then-s-size-clause-left
returns-then-s-size-clause-left c =
    let a = c.args in
    known_unchanged (Some a.self) a.sides.w a.sides.h a.s.now a.out.now Bytes
    (known_11 (Some a.self) a.sides.w a.sides.h (length a.s.now) (length a.out.now) refl (rw (← c.size.ensures) c.if-s-size.true))

pub returns-then-out-texels-clause-number : goal.returns-then-out-texels-clause-number
returns-then-out-texels-clause-number c =
    let a = c.args in
    known_15 (Some a.self) a.sides.w a.sides.h (length a.s.now) (length a.out.now) refl (rw (← c.size.ensures) c.if-s-size.false)
    (rw (← c.texels.ensures.value) c.if-out-texels.true)

pub returns-then-out-texels-clause-left : goal.returns-then-out-texels-clause-left
returns-then-out-texels-clause-left c =
    let a = c.args in
    known_unchanged (Some a.self) a.sides.w a.sides.h a.s.now a.out.now Output
    (known_15 (Some a.self) a.sides.w a.sides.h (length a.s.now) (length a.out.now) refl (rw (← c.size.ensures) c.if-s-size.false)
    (rw (← c.texels.ensures.value) c.if-out-texels.true))

pub returns-clause-number : goal.returns-clause-number
returns-clause-number c =
    let a = c.args in
    known_0 (Some a.self) a.sides.w a.sides.h (length a.s.now) (length a.out.now) refl (rw (← c.size.ensures) c.if-s-size.false)
    (rw (← c.texels.ensures.value) c.if-out-texels.false)

pub returns-clause-left : goal.returns-clause-left
returns-clause-left c =
    let a = c.args in
    search rules
    ∙ known_drawn (Some a.self) a.sides.w a.sides.h a.s.now a.out.now
    (known_0 (Some a.self) a.sides.w a.sides.h (length a.s.now) (length a.out.now) refl (rw (← c.size.ensures) c.if-s-size.false)
    (rw (← c.texels.ensures.value) c.if-out-texels.false))
