-- A parameter by what its name stands for. Assumes nothing.
use mathlib.Core.Bool.{Bool, true, false, cond}
use mathlib.Core.Path.{◌≡◌, refl, sym, ap, ◌∙◌}
use Prim.Native.Nat.{ℕ}
use lib.Dec.{eqb}
use Rattle.std.proofs.Common.{Result, Ok, Err, MatchResult}
use Rattle.std.specs.Result.{IsOkAnd}
use Rattle.answers.specs.declared.Refusal.{Refusal}
use Rattle.answers.specs.declared.Refusal.TheVariants.{Code}
use Rattle.answers.specs.Numbers.{refusal_number}
use Rattle.answers.specs.Results.{answer_number}
use Rattle.answers.proofs.Answered.{refused_test}
use Rattle.lists.proofs.Choice.{no}
use Rattle.consts.specs.Codes.{GL_TEXTURE_MAG_FILTER, GL_TEXTURE_MIN_FILTER, GL_TEXTURE_WRAP_S, GL_TEXTURE_WRAP_T}
use Rattle.levels.specs.declared.Texture.{Texture}
use Rattle.levels.specs.Codes.{min_filter_of, filter_of, wrap_of}
use Rattle.texture.specs.declared.Parameter.{Parameter}
use Rattle.texture.specs.declared.Parameter.TheVariants as parameter
use Rattle.texture.specs.Define.{record_after}
use Rattle.texture.specs.Parameters.{ignored, parameter_of, set_check, set_record, with_min_filter, with_mag_filter, with_wrap_s, with_wrap_t, Setting, setting, set_of}

-- one of six, as the name is the first, the second, ..
module _ {A : Type 0} (x : Result Parameter Refusal → A) where
  pub sorted : (a b c d i : Bool)
      → cond a (x (Ok parameter.MinFilter)) (cond b (x (Ok parameter.MagFilter)) (cond c (x (Ok parameter.WrapS)) (cond d (x (Ok parameter.WrapT)) (cond i (x (Ok parameter.Ignored)) (x (Err Code))))))
      ≡ x (cond a (Ok parameter.MinFilter) (cond b (Ok parameter.MagFilter) (cond c (Ok parameter.WrapS) (cond d (Ok parameter.WrapT) (cond i (Ok parameter.Ignored) (Err Code))))))
  sorted true b c d i = refl
  sorted false true c d i = refl
  sorted false false true d i = refl
  sorted false false false true i = refl
  sorted false false false false true = refl
  sorted false false false false false = refl

abbrev pub check_by : ℕ → Result Parameter Refusal → ℕ
check_by v (Ok parameter.MinFilter) = answer_number (min_filter_of v)
check_by v (Ok parameter.MagFilter) = answer_number (filter_of v)
check_by v (Ok parameter.WrapS) = answer_number (wrap_of v)
check_by v (Ok parameter.WrapT) = answer_number (wrap_of v)
check_by v (Ok parameter.Ignored) = 0
check_by v (Err why) = refusal_number why

abbrev pub record_by : Texture → ℕ → Result Parameter Refusal → Texture
record_by t v (Ok parameter.MinFilter) = with_min_filter (min_filter_of v) t
record_by t v (Ok parameter.MagFilter) = with_mag_filter (filter_of v) t
record_by t v (Ok parameter.WrapS) = with_wrap_s (wrap_of v) t
record_by t v (Ok parameter.WrapT) = with_wrap_t (wrap_of v) t
record_by t v (Ok parameter.Ignored) = t
record_by t v (Err why) = t

module _ (t : Texture) (p v : ℕ) where
  pub check_is : set_check p v ≡ check_by v (parameter_of p)
  unfolding set_check parameter_of
  check_is = sorted (check_by v) (eqb p GL_TEXTURE_MIN_FILTER) (eqb p GL_TEXTURE_MAG_FILTER) (eqb p GL_TEXTURE_WRAP_S) (eqb p GL_TEXTURE_WRAP_T) (ignored p)

  same_end : (i : Bool) → cond {A = Texture} i t t ≡ t
  same_end true = refl
  same_end false = refl

  pub record_is : set_record t p v ≡ record_by t v (parameter_of p)
  unfolding set_record parameter_of
  record_is =
      ap (λ (last : Texture). cond (eqb p GL_TEXTURE_MIN_FILTER) (with_min_filter (min_filter_of v) t) (cond (eqb p GL_TEXTURE_MAG_FILTER) (with_mag_filter (filter_of v) t)
      (cond (eqb p GL_TEXTURE_WRAP_S) (with_wrap_s (wrap_of v) t) (cond (eqb p GL_TEXTURE_WRAP_T) (with_wrap_t (wrap_of v) t) last)))) (sym (same_end (ignored p)))
      ∙ (sorted (record_by t v) (eqb p GL_TEXTURE_MIN_FILTER) (eqb p GL_TEXTURE_MAG_FILTER) (eqb p GL_TEXTURE_WRAP_S) (eqb p GL_TEXTURE_WRAP_T) (ignored p))

  -- what a call gives, by what the name stands for
  abbrev pub set_by : Result Parameter Refusal → Setting
  set_by r = cond (eqb (check_by v r) 0) (setting 0 (record_by t v r)) (setting (check_by v r) t)

  pub set_is : set_of t p v ≡ set_by (parameter_of p)
  unfolding set_of
  set_is = rw (check_is, record_is) refl

  pub named : (r : Result Parameter Refusal) → r ≡ parameter_of p → set_by r ≡ set_of t p v
  named r e = ap set_by e ∙ sym set_is

-- what is set by a value's code
abbrev pub settled : {F : Type 0} → Texture → (Result F Refusal → Texture) → Result F Refusal → Setting
settled t make r = cond (eqb (answer_number r) 0) (setting 0 (make r)) (setting (answer_number r) t)

settled_err : {F : Type 0} (t : Texture) (make : Result F Refusal → Texture) (why : Refusal) → setting (refusal_number why) t ≡ settled t make (Err why)
settled_err t make why = no _ (refused_test why _ refl) refl

module _ (t : Texture) (p v : ℕ) where
  -- the name is unknown
  pub unnamed : (why : Refusal) → Err why ≡ parameter_of p → setting (refusal_number why) t ≡ set_of t p v
  unnamed why e = settled_err {F = Parameter} t (λ r. t) why ∙ named t p v (Err why) e

  -- the name stands for q, whose value is read as `read`; x is the record with that value
  pub valued : {F : Type 0} (q : Parameter) (make : Result F Refusal → Texture) (Made : F → Texture → Type 0) (read of : Result F Refusal) (x : Result Texture Refusal)
      → MatchResult read (λ f. IsOkAnd x (Made f)) (λ why. x ≡ Err why) → ((f : F) (y : Texture) → Made f y → y ≡ make (Ok f)) → read ≡ of
      → set_by t p v (Ok q) ≡ settled t make of → Ok q ≡ parameter_of p → setting (answer_number x) (record_after t x) ≡ set_of t p v
  valued q make Made (Ok f) of (Ok y) m is e s n = rw (is f y m) (ap (settled t make) e ∙ sym s ∙ named t p v (Ok q) n)
  valued q make Made (Ok f) of (Err why) m is e s n = absurd m
  valued q make Made (Err why) of x m is e s n = rw m (settled_err t make why ∙ ap (settled t make) e ∙ sym s ∙ named t p v (Ok q) n)
