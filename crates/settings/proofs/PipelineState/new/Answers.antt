use Rattle.std.specs.Prelude.{pos}
use mathlib.Core.Path.{◌≡◌, refl}
use Rattle.settings.specs.Settings.{black, default_state}
use Rattle.settings.proofs.PipelineState.new.Goals as goal

pub returns : goal.returns
unfolding default_state
returns c =
    let v = c.default.ensures in
    let f = c.default-2.ensures in
    let nowhere : c.default.result ≡ record { x = pos 0; y = pos 0; width = pos 0; height = pos 0 } = λ i. record { x = v.0 i; y = v.1.0 i; width = v.1.1.0 i; height = v.1.1.1 i } in
    let no_fog : c.default-2.result ≡ black = λ i. record { r = f.0 i; g = f.1.0 i; b = f.1.1.0 i; a = f.1.1.1 i } in
    rw (nowhere, no_fog) refl
