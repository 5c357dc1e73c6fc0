use Rattle.std.proofs.Common.{◌≡◌, refl, sym, ap, ◌∙◌, arith, length}
use Rattle.std.proofs.lemmas.Result.{err_from_is_err_and}
use Rattle.answers.specs.Numbers.{refusal_number}
use Rattle.answers.proofs.Answered.{refused_test}
use Rattle.texture.specs.Define.{define_check, define_of, define_store}
use Rattle.texture.proofs.Defining.{sides_pass, sides_refuse, sound, settle_done, settle_refused}
use Rattle.texture.proofs.define_level.Goals as goal

pub returns-in_err-entry : goal.returns-in_err-entry
unfolding define_of
returns-in_err-entry c =
    let a = c.args in
    let p = err_from_is_err_and c.from_residual.result c.from_residual.ensures.1 in
    let e : refusal_number c.in_err-entry.field-0.0 ≡ define_check (length a.store.now) a.texture a.level a.width a.height a.place (length a.rgba.now) =
    ap refusal_number c.in_err-entry.ensures.1 ∙ sym (sides_refuse _ _ _ _ _ _ _ c.in_err-entry.ensures.0) in
    rw (p.1, p.2, e) (sym (settle_refused _ _ _ _ _ (refused_test _ _ e)))

pub returns-in_err-check_against : goal.returns-in_err-check_against
unfolding define_of
returns-in_err-check_against c =
    let a = c.args in
    let n = c.in_ok-entry.ensures in
    let p = err_from_is_err_and c.from_residual-in_err-check_against.result c.from_residual-in_err-check_against.ensures.1 in
    let e : refusal_number c.in_err-check_against.field-0.0 ≡ define_check (length a.store.now) a.texture a.level a.width a.height a.place (length a.rgba.now) =
    c.in_err-check_against.ensures ∙ rw (n.1, n.2) (sym (sides_pass (length a.store.now) a.texture a.level a.width a.height a.place (length a.rgba.now) n.0)) in
    rw (p.1, p.2, e) (sym (settle_refused _ _ _ _ _ (refused_test _ _ e)))

pub copy_in-requires : goal.copy_in-requires
copy_in-requires c =
    let a = c.args in
    let n = c.in_ok-entry.ensures in
    let e : define_check (length a.store.now) a.texture a.level a.width a.height a.place (length a.rgba.now) ≡ 0 =
    sides_pass _ _ _ _ _ _ _ n.0 ∙ sym (c.in_ok-check_against.ensures ∙ rw (n.1, n.2) refl) in
    let k = sound _ _ _ _ _ _ _ e in
    omega (arith, k.within, k.bytes)

pub returns : goal.returns
unfolding define_of define_store
returns c =
    let a = c.args in
    let n = c.in_ok-entry.ensures in
    let e : define_check (length a.store.now) a.texture a.level a.width a.height a.place (length a.rgba.now) ≡ 0 =
    sides_pass _ _ _ _ _ _ _ n.0 ∙ sym (c.in_ok-check_against.ensures ∙ rw (n.1, n.2) refl) in
    rw (c.enter.ensures, n.1, n.2, c.copy_in.ensures) (sym (settle_done _ _ _ _ _ e))
