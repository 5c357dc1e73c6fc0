-- What is written reads back the same. Assumes nothing.
use Rattle.std.specs.Prelude.{Ok}
use Rattle.std.specs.Result.{is_ok, result_unwrap_or}
use mathlib.Core.Bool.{Bool, true, false, not}
use mathlib.Core.Path.{◌≡◌, refl, sym, ap, ◌∙◌}
use mathlib.Core.List.{List}
use Prim.Native.Nat.{ℕ, ◌+◌, ◌-◌, ◌*◌, ◌%◌, ◌<◌}
use native.Mathlib.Nat.{add-zero}
use native.Mathlib.Omega.{arith}
use lib.Dec.{T, eqb}
use lib.ListN.{length, get_or}
use lib.IntN.{ℤ, pos, negsuc}
use lib.Ieee as Ieee
use lib.Ieee.{Float, binary32}
use lib.Ieee.Bits.{of_bits-to_bits, to_bits-lt}
use mir.Syntax.{w32}
use mir.Val.{SFits}
use borrow.Author.Tests.{lt-ltb, le-ltb}
use Rattle.lists.proofs.Choice.{yes, no}
use Rattle.lists.proofs.Flats.{get_or_flat}
use Rattle.settings.specs.declared.TexEnvMode.{TexEnvMode}
use Rattle.settings.specs.declared.TexEnvMode.TheVariants.{Modulate, Replace, Decal, Blend, Add}
use Rattle.settings.specs.declared.TextureStage.{TextureStage}
use Rattle.layouts.specs.Words.{word}
use Rattle.layouts.proofs.RoundTrip.{digits}
use Rattle.draw_layouts.specs.Numbers.{signed_of, signed_at, float_at, switch_at, color_at}
use Rattle.settings.specs.Codes.{env_of, env_code}
use Rattle.draw_layouts.specs.Stages.{read_stage}
use Rattle.draw_bytes.specs.Write.{word_bytes, word_bytes_at, bytes_of, bits_of, float_bits, switch_word, stage_words}
use Rattle.draw_bytes.proofs.Words.{length_word}

-- ---- words

byte_of : (ws : List ℕ) (k j : ℕ) → k < length ws → j < 4 → get_or (bytes_of ws) (k * 4 + j) 0 ≡ get_or (word_bytes (get_or ws k 0)) j 0
unfolding bytes_of word_bytes_at
byte_of ws k j h q = get_or_flat 4 (word_bytes_at ws) (λ n. length_word ws n) 0 (length ws) k j h q

first_byte : (ws : List ℕ) (k : ℕ) → k < length ws → get_or (bytes_of ws) (k * 4) 0 ≡ get_or (word_bytes (get_or ws k 0)) 0 0
first_byte ws k h = ap (λ (i : ℕ). get_or (bytes_of ws) i 0) (sym (add-zero (k * 4))) ∙ byte_of ws k 0 h (omega arith)

-- word k
pub word_back : (ws : List ℕ) (k : ℕ) → k < length ws → word (bytes_of ws) (k * 4) ≡ get_or ws k 0 % 4294967296
unfolding word word_bytes
word_back ws k h =
    rw (first_byte ws k h, byte_of ws k 1 h (omega arith), byte_of ws k 2 h (omega arith), byte_of ws k 3 h (omega arith)) (digits (get_or ws k 0))

-- ---- numbers

below : (n : ℕ) → n < 4294967296 → n % 4294967296 ≡ n
below n h = omega (arith, h)

signed_bits : (v : ℤ) → SFits w32 v → signed_of (bits_of v % 4294967296) ≡ v
unfolding signed_of
signed_bits (pos n) f =
    let e : n % 4294967296 ≡ n = omega (arith, f.sfits) in
    rw e (sym (yes _ (lt-ltb n 2147483648 (omega (arith, f.sfits))) refl))
signed_bits (negsuc n) f =
    let e : (4294967295 - n) % 4294967296 ≡ 4294967295 - n = omega arith in
    let g : n ≡ 4294967295 - (4294967295 - n) = omega (arith, f.sfits) in
    rw e (sym (no _ (le-ltb (4294967295 - n) 2147483648 (omega (arith, f.sfits))) (ap negsuc g)))

float_bits_back : (x : Float) → T (Ieee.fits binary32 x) → Ieee.of_bits binary32 (float_bits x % 4294967296) ≡ x
unfolding float_bits
float_bits_back x f = ap (λ (n : ℕ). Ieee.of_bits binary32 n) (below (Ieee.to_bits binary32 x) (to_bits-lt binary32 x f)) ∙ of_bits-to_bits binary32 x f

switch_word_back : (p : Bool) → not (eqb (switch_word p % 4294967296) 0) ≡ p
switch_word_back true = refl
switch_word_back false = refl

-- word k as a signed number, a float, a switch
module _ (ws : List ℕ) (k : ℕ) (h : k < length ws) where
  pub signed_back : (v : ℤ) → get_or ws k 0 ≡ bits_of v → SFits w32 v → signed_at (bytes_of ws) (k * 4) ≡ v
  unfolding signed_at
  signed_back v e f = ap signed_of (word_back ws k h ∙ ap (λ (n : ℕ). n % 4294967296) e) ∙ signed_bits v f

  pub float_back : (x : Float) → get_or ws k 0 ≡ float_bits x → T (Ieee.fits binary32 x) → float_at (bytes_of ws) (k * 4) ≡ x
  unfolding float_at
  float_back x e f = ap (λ (n : ℕ). Ieee.of_bits binary32 n) (word_back ws k h ∙ ap (λ (n : ℕ). n % 4294967296) e) ∙ float_bits_back x f

  pub switch_back : (p : Bool) → get_or ws k 0 ≡ switch_word p → switch_at (bytes_of ws) (k * 4) ≡ p
  unfolding switch_at
  switch_back p e = ap (λ (n : ℕ). not (eqb n 0)) (word_back ws k h ∙ ap (λ (n : ℕ). n % 4294967296) e) ∙ switch_word_back p

-- ---- a stage

pub env_back : (e : TexEnvMode) → env_of (env_code e % 4294967296) ≡ Ok e
unfolding env_of
env_back Modulate = refl
env_back Replace = refl
env_back Decal = refl
env_back Blend = refl
env_back Add = refl

-- its numbers fit their words, as those of any stage in the code do
pub record StageFits (x : TextureStage) : Type 0 where
  pub unit : x.unit < 4294967296
  pub r : T (Ieee.fits binary32 x.env_color.r)
  pub g : T (Ieee.fits binary32 x.env_color.g)
  pub b : T (Ieee.fits binary32 x.env_color.b)
  pub a : T (Ieee.fits binary32 x.env_color.a)

six : (x : TextureStage) → length (stage_words x) ≡ 6
unfolding stage_words
six x = refl

env_at : (x : TextureStage) → env_of (word (bytes_of (stage_words x)) 4) ≡ Ok x.env
unfolding stage_words
env_at x = ap env_of (word_back (stage_words x) 1 (omega (arith, six x))) ∙ env_back x.env

pub stage_is_known : (x : TextureStage) → is_ok (env_of (word (bytes_of (stage_words x)) 4)) ≡ true
stage_is_known x = ap is_ok (env_at x)

pub stage_back : (x : TextureStage) → StageFits x → read_stage (bytes_of (stage_words x)) 0 ≡ x
unfolding read_stage stage_words color_at
stage_back x f = λ t. record {
  unit = (word_back (stage_words x) 0 (omega (arith, six x)) ∙ below x.unit f.unit) t;
  env = result_unwrap_or (env_at x t) Add;
  env_color = record {
    r = float_back (stage_words x) 2 (omega (arith, six x)) x.env_color.r refl f.r t;
    g = float_back (stage_words x) 3 (omega (arith, six x)) x.env_color.g refl f.g t;
    b = float_back (stage_words x) 4 (omega (arith, six x)) x.env_color.b refl f.b t;
    a = float_back (stage_words x) 5 (omega (arith, six x)) x.env_color.a refl f.a t;
  };
}
