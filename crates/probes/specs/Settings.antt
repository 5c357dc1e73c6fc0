-- How the probes hand over codes.
use Rattle.std.specs.Prelude.{ℕ, Result, Ok, Err}
use Rattle.settings.specs.declared.CompareFunc.{CompareFunc}
use Rattle.settings.specs.declared.CompareFunc.TheVariants.{Never}
use Rattle.settings.specs.declared.BlendFactor.{BlendFactor}
use Rattle.settings.specs.declared.BlendFactor.TheVariants.{Zero}
use Rattle.settings.specs.declared.TexEnvMode.{TexEnvMode}
use Rattle.settings.specs.Settings.{read_compare, read_factor}
use Rattle.answers.specs.declared.Refusal.{Refusal}
use Rattle.replay.specs.Numbered as N

abbrev pub compare_or : Result CompareFunc Refusal → CompareFunc
compare_or (Ok f) = f
compare_or (Err why) = Never

abbrev pub compare_of : ℕ → CompareFunc
compare_of code = compare_or (read_compare code)

abbrev pub factor_or : Result BlendFactor Refusal → BlendFactor
factor_or (Ok f) = f
factor_or (Err why) = Zero

abbrev pub factor_of : ℕ → BlendFactor
factor_of code = factor_or (read_factor code)

-- as records have it too
abbrev pub environment_of : ℕ → TexEnvMode
environment_of n = N.environment_of n
