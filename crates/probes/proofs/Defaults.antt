-- A code that is unknown stands for the first of its kind. Assumes nothing.
use Rattle.std.specs.Prelude.{ℕ, Result, Ok, Err}
use Rattle.std.specs.Result.{result_unwrap_or}
use mathlib.Core.Path.{◌≡◌, refl, ap, ◌∙◌}
use Rattle.answers.specs.declared.Refusal.{Refusal}
use Rattle.settings.specs.Settings.{read_compare, read_factor}
use Rattle.settings.specs.declared.CompareFunc.{CompareFunc}
use Rattle.settings.specs.declared.CompareFunc.TheVariants.{Never}
use Rattle.settings.specs.declared.BlendFactor.{BlendFactor}
use Rattle.settings.specs.declared.BlendFactor.TheVariants.{Zero}
use Rattle.probes.specs.Settings.{compare_or, compare_of, factor_or, factor_of}

compare_or_is : (read : Result CompareFunc Refusal) → result_unwrap_or read Never ≡ compare_or read
compare_or_is (Ok f) = refl
compare_or_is (Err why) = refl

factor_or_is : (read : Result BlendFactor Refusal) → result_unwrap_or read Zero ≡ factor_or read
factor_or_is (Ok f) = refl
factor_or_is (Err why) = refl

pub compare_is : {f : CompareFunc} (code : ℕ) (read : Result CompareFunc Refusal) → read ≡ read_compare code → f ≡ result_unwrap_or read Never → f ≡ compare_of code
compare_is code read e h = h ∙ compare_or_is read ∙ ap compare_or e

pub factor_is : {f : BlendFactor} (code : ℕ) (read : Result BlendFactor Refusal) → read ≡ read_factor code → f ≡ result_unwrap_or read Zero → f ≡ factor_of code
factor_is code read e h = h ∙ factor_or_is read ∙ ap factor_or e
