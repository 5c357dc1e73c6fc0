use mathlib.Core.Path.{◌≡◌, refl, ◌∙◌}
use native.Mathlib.Omega.{arith}
use Rattle.std.specs.Prelude.{Some, None}
use Rattle.std.proofs.lemmas.Result.{err_from_is_err_and}
use Rattle.answers.specs.declared.Refusal.TheVariants.{Side, Format}
use Rattle.texels.proofs.Plains.{passed_on}
use Rattle.compressed.specs.Compressed.{compressed_of}
use Rattle.compressed.proofs.Checks.{size_9, size_14, size_0, size_refused, size_given}
use Rattle.compressed.proofs.compressed_image_size.Goals as goal

pub returns-in_err-sides-clause-number : goal.returns-in_err-sides-clause-number
returns-in_err-sides-clause-number c =
    let a = c.args in
    let e = c.in_err-sides.ensures in
    passed_on _ _ c.from_residual.ensures.1 ∙ rw e.1 (size_9 (compressed_of a.format) a.width a.height e.0)

pub returns-in_err-sides-clause-bytes : goal.returns-in_err-sides-clause-bytes
returns-in_err-sides-clause-bytes c =
    let a = c.args in
    let p = err_from_is_err_and c.from_residual.result c.from_residual.ensures.1 in
    rw p.1 (size_refused (compressed_of a.format) a.width a.height Side (size_9 (compressed_of a.format) a.width a.height c.in_err-sides.ensures.0))

pub returns-in_err-f-clause-number : goal.returns-in_err-f-clause-number
returns-in_err-f-clause-number c =
    let a = c.args in
    let n : compressed_of a.format ≡ None = grind arith in
    let e : c.in_err-f.field-0.0 ≡ Format = grind arith in
    passed_on _ _ c.from_residual-in_err-f.ensures.1 ∙ rw (e, n) (size_14 None a.width a.height c.in_ok-sides.ensures.0 refl)

pub returns-in_err-f-clause-bytes : goal.returns-in_err-f-clause-bytes
returns-in_err-f-clause-bytes c =
    let a = c.args in
    let n : compressed_of a.format ≡ None = grind arith in
    let p = err_from_is_err_and c.from_residual-in_err-f.result c.from_residual-in_err-f.ensures.1 in
    rw (p.1, n) (size_refused None a.width a.height Format (size_14 None a.width a.height c.in_ok-sides.ensures.0 refl))

pub returns-clause-number : goal.returns-clause-number
returns-clause-number c =
    let a = c.args in
    let n : compressed_of a.format ≡ Some c.in_ok-f.f = grind arith in
    rw n (size_0 (Some c.in_ok-f.f) a.width a.height c.in_ok-sides.ensures.0 refl)

pub returns-clause-bytes : goal.returns-clause-bytes
returns-clause-bytes c =
    let a = c.args in
    let s = c.in_ok-sides.ensures in
    let n : compressed_of a.format ≡ Some c.in_ok-f.f = grind arith in
    c.size.ensures ∙ rw (s.1, s.2, n) (size_given (Some c.in_ok-f.f) a.width a.height (size_0 (Some c.in_ok-f.f) a.width a.height s.0 refl))
