use Rattle.std.proofs.Common.{rules, tests, Ok, refl, sym, ap, ◌∙◌}
use Rattle.std.proofs.lemmas.Result.{err_from_is_err_and}
use Rattle.texture.specs.declared.Parameter.TheVariants as parameter
use Rattle.texture.specs.Parameters.{with_min_filter, with_mag_filter, with_wrap_s, with_wrap_t}
use Rattle.texture.proofs.Named.{named, unnamed, valued}
use Rattle.texture.proofs.set_parameter.Goals as goal

pub returns-in_err-try_from : goal.returns-in_err-try_from
returns-in_err-try_from c =
    let p = err_from_is_err_and c.from_residual.result c.from_residual.ensures.1 in
    rw (p.1, p.2) (unnamed c.args.texture c.args.pname c.args.value _ c.in_err-try_from.ensures)

pub returns-in-MinFilter : goal.returns-in-MinFilter
returns-in-MinFilter c =
    valued c.args.texture c.args.pname c.args.value parameter.MinFilter (λ r. with_min_filter r c.args.texture) _ _ _ c.map.result c.map.ensures.cases (λ f y e. search (rules, tests))
    c.try_from-in-MinFilter.ensures refl (ap Ok (sym c.in-MinFilter.is) ∙ c.in_ok-try_from.ensures)

pub returns-in-MagFilter : goal.returns-in-MagFilter
returns-in-MagFilter c =
    valued c.args.texture c.args.pname c.args.value parameter.MagFilter (λ r. with_mag_filter r c.args.texture) _ _ _ c.map-in-MagFilter.result c.map-in-MagFilter.ensures.cases (λ f y e. search (rules, tests))
    c.try_from-in-MagFilter.ensures refl (ap Ok (sym c.in-MagFilter.is) ∙ c.in_ok-try_from.ensures)

pub returns-in-WrapS : goal.returns-in-WrapS
returns-in-WrapS c =
    valued c.args.texture c.args.pname c.args.value parameter.WrapS (λ r. with_wrap_s r c.args.texture) _ _ _ c.map-in-WrapS.result c.map-in-WrapS.ensures.cases (λ f y e. search (rules, tests))
    c.try_from-in-WrapS.ensures refl (ap Ok (sym c.in-WrapS.is) ∙ c.in_ok-try_from.ensures)

pub returns-in-WrapT : goal.returns-in-WrapT
returns-in-WrapT c =
    valued c.args.texture c.args.pname c.args.value parameter.WrapT (λ r. with_wrap_t r c.args.texture) _ _ _ c.map-in-WrapT.result c.map-in-WrapT.ensures.cases (λ f y e. search (rules, tests))
    c.try_from-in-WrapT.ensures refl (ap Ok (sym c.in-WrapT.is) ∙ c.in_ok-try_from.ensures)

pub returns-in-Ignored : goal.returns-in-Ignored
returns-in-Ignored c = named c.args.texture c.args.pname c.args.value (Ok parameter.Ignored) (ap Ok (sym c.in-Ignored.is) ∙ c.in_ok-try_from.ensures)
