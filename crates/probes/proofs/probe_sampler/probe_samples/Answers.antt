use mathlib.Core.Path.{◌∙◌, refl, sym}
use borrow.Author.Tests.{not-true, not-false}
use Rattle.lists.proofs.Choice.{yes, no}
use Rattle.sampler.specs.Samples.{sample_check}
use Rattle.probes.proofs.probe_sampler.probe_samples.Goals as goal

pub returns-then-not-is_valid : goal.returns-then-not-is_valid
unfolding sample_check
returns-then-not-is_valid c =
    let v = sym c.is_valid.ensures ∙ not-true _ c.if-not-is_valid.true-raw in
    rw (sym c.texture-texture.ensures) (no _ v c.number.ensures, no _ v refl)

pub fill-requires : goal.fill-requires
fill-requires c = record { valid = sym c.is_valid.ensures ∙ not-false _ c.if-not-is_valid.false-raw; coordinates = c.requires.1 }

pub returns : goal.returns
unfolding sample_check
returns c =
    let v = sym c.is_valid.ensures ∙ not-false _ c.if-not-is_valid.false-raw in
    rw (sym c.texture-texture.ensures) (yes _ v refl, yes _ v c.fill.ensures)
