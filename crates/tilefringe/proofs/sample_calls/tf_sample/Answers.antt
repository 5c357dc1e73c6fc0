use Rattle.std.proofs.Common.{rules, tests, refl, sym, ap, ◌∙◌}
use Rattle.sampler.specs.Samples.{Outcome}
use Rattle.tilefringe.specs.SampleCalls.{ended, layout_sample}
use Rattle.tilefringe.proofs.Given.{numbered}
use Rattle.tilefringe.proofs.sample_calls.tf_sample.Goals as goal

pub returns-in_default : goal.returns-in_default
unfolding layout_sample
returns-in_default c = rw (sym c.in_default.ensures) refl

pub returns : goal.returns
unfolding layout_sample
returns c =
    rw (sym c.in-Some.ensures, c.give.ensures.number, c.give.ensures.out_after)
    (numbered c.sample.result c.map.result _ c.args.texel.now c.map.ensures.cases (λ x n e. search (rules, tests)) ∙ ap (λ (o : Outcome). ended c.args.texel.now o) c.sample.ensures)
