-- Settings that are written read back the same. Assumes nothing.
use Rattle.std.specs.Prelude.{Option, Some, None, is_some, Ok}
use Rattle.std.specs.Result.{result_unwrap_or}
use mathlib.Core.Bool.{true}
use mathlib.Core.Path.{◌≡◌, refl, sym, ap, ◌∙◌}
use Prim.Native.Nat.{ℕ, ◌*◌, ◌%◌, ◌<◌}
use native.Mathlib.Omega.{arith}
use lib.Dec.{T, eqb}
use lib.ListN.{length, get_or}
use lib.Ieee as Ieee
use lib.Ieee.{binary32}
use mir.Syntax.{w32}
use mir.Val.{SFits}
use borrow.Author.Tests.{eq-eqb}
use Rattle.lists.proofs.Choice.{yes, no}
use Rattle.settings.specs.declared.CompareFunc.{CompareFunc}
use Rattle.settings.specs.declared.CompareFunc.TheVariants as C
use Rattle.settings.specs.declared.BlendFactor.{BlendFactor}
use Rattle.settings.specs.declared.BlendFactor.TheVariants as B
use Rattle.settings.specs.declared.CullMode.TheVariants.{Front, Back, FrontAndBack}
use Rattle.settings.specs.declared.FrontFace.{FrontFace}
use Rattle.settings.specs.declared.FrontFace.TheVariants.{Cw, Ccw}
use Rattle.settings.specs.declared.FogMode.{FogMode}
use Rattle.settings.specs.declared.FogMode.TheVariants.{Linear, Exp, Exp2}
use Rattle.settings.specs.declared.ScissorBox.{ScissorBox}
use Rattle.settings.specs.declared.PipelineState.{PipelineState}
use Rattle.settings.specs.Settings.{read_compare, read_factor}
use Rattle.layouts.specs.Words.{word}
use Rattle.draw_layouts.specs.Numbers.{color_at}
use Rattle.settings.specs.Codes.{mode_of, face_of, fog_of, compare_code, factor_code, face_code, fog_code}
use Rattle.draw_layouts.specs.Codes.{cull_of}
use Rattle.draw_layouts.specs.Settings.{viewport_of, scissor_of, mask_of, tests_known, modes_known, codes_known, state_of, read_settings}
use Rattle.draw_bytes.specs.Write.{bytes_of, switch_word, cull_code, number_words, viewport_words, box_words, settings_words}
use Rattle.draw_bytes.proofs.Words.{length_bytes}
use Rattle.draw_bytes.proofs.RoundTrip.{word_back, signed_back, float_back, switch_back}
use Rattle.settings.specs.declared.CullMode.{CullMode}

-- ---- codes

pub compare_back : (f : CompareFunc) → read_compare (compare_code f % 4294967296) ≡ Ok f
unfolding read_compare
compare_back C.Never = refl
compare_back C.Less = refl
compare_back C.Equal = refl
compare_back C.Lequal = refl
compare_back C.Greater = refl
compare_back C.Notequal = refl
compare_back C.Gequal = refl
compare_back C.Always = refl

pub factor_back : (f : BlendFactor) → read_factor (factor_code f % 4294967296) ≡ Ok f
unfolding read_factor
factor_back B.Zero = refl
factor_back B.One = refl
factor_back B.SrcColor = refl
factor_back B.OneMinusSrcColor = refl
factor_back B.SrcAlpha = refl
factor_back B.OneMinusSrcAlpha = refl
factor_back B.DstAlpha = refl
factor_back B.OneMinusDstAlpha = refl
factor_back B.DstColor = refl
factor_back B.OneMinusDstColor = refl
factor_back B.SrcAlphaSaturate = refl

pub cull_back : (c : Option CullMode) → cull_of (cull_code c % 4294967296) ≡ Ok c
unfolding cull_of mode_of
cull_back None = refl
cull_back (Some Front) = refl
cull_back (Some Back) = refl
cull_back (Some FrontAndBack) = refl

pub face_back : (f : FrontFace) → face_of (face_code f % 4294967296) ≡ Ok f
unfolding face_of
face_back Cw = refl
face_back Ccw = refl

pub fog_back : (f : FogMode) → fog_of (fog_code f % 4294967296) ≡ Ok f
unfolding fog_of
fog_back Linear = refl
fog_back Exp = refl
fog_back Exp2 = refl

-- its numbers fit their words, as those of any settings in the code do
pub record BoxFits (b : ScissorBox) : Type 0 where
  pub x : SFits w32 b.x
  pub y : SFits w32 b.y
  pub width : SFits w32 b.width
  pub height : SFits w32 b.height

pub record SettingsFit (s : PipelineState) : Type 0 where
  pub vx : SFits w32 s.viewport.x
  pub vy : SFits w32 s.viewport.y
  pub vw : SFits w32 s.viewport.width
  pub vh : SFits w32 s.viewport.height
  pub near : T (Ieee.fits binary32 s.depth_range.near)
  pub far : T (Ieee.fits binary32 s.depth_range.far)
  pub alpha : T (Ieee.fits binary32 s.alpha_ref)
  pub fr : T (Ieee.fits binary32 s.fog_color.r)
  pub fg : T (Ieee.fits binary32 s.fog_color.g)
  pub fb : T (Ieee.fits binary32 s.fog_color.b)
  pub fa : T (Ieee.fits binary32 s.fog_color.a)
  pub start : T (Ieee.fits binary32 s.fog_start)
  pub end : T (Ieee.fits binary32 s.fog_end)
  pub density : T (Ieee.fits binary32 s.fog_density)
  pub boxed : (b : ScissorBox) → s.scissor ≡ Some b → BoxFits b

thirty_six : (s : PipelineState) → length (settings_words s) ≡ 36
unfolding settings_words
thirty_six s = refl

-- word k
at : (s : PipelineState) (k : ℕ) → k < 36 → word (bytes_of (settings_words s)) (k * 4) ≡ get_or (settings_words s) k 0 % 4294967296
at s k h = word_back (settings_words s) k (omega (arith, h, thirty_six s))

module _ (s : PipelineState) (f : SettingsFit s) where
  viewport_back : viewport_of (bytes_of (settings_words s)) ≡ s.viewport
  unfolding viewport_of settings_words viewport_words number_words
  viewport_back = λ t. record {
    x = signed_back (settings_words s) 0 (omega (arith, thirty_six s)) s.viewport.x refl f.vx t;
    y = signed_back (settings_words s) 1 (omega (arith, thirty_six s)) s.viewport.y refl f.vy t;
    width = signed_back (settings_words s) 2 (omega (arith, thirty_six s)) s.viewport.width refl f.vw t;
    height = signed_back (settings_words s) 3 (omega (arith, thirty_six s)) s.viewport.height refl f.vh t;
  }

  scissor_back : (x : Option ScissorBox) → s.scissor ≡ x → scissor_of (bytes_of (settings_words s)) ≡ s.scissor
  unfolding scissor_of settings_words box_words number_words
  scissor_back None e =
      sym (yes _ (ap (λ (n : ℕ). eqb n 0) (at s 6 (omega arith)) ∙ ap (λ (z : Option ScissorBox). eqb (switch_word (is_some z) % 4294967296) 0) e) e)
  scissor_back (Some b) e =
      sym (no _ (ap (λ (n : ℕ). eqb n 0) (at s 6 (omega arith)) ∙ ap (λ (z : Option ScissorBox). eqb (switch_word (is_some z) % 4294967296) 0) e)
      (e ∙ ap Some (sym (λ t. record {
        x = signed_back (settings_words s) 7 (omega (arith, thirty_six s)) b.x (ap (λ (z : Option ScissorBox). get_or (box_words z) 0 0) e) (f.boxed b e).x t;
        y = signed_back (settings_words s) 8 (omega (arith, thirty_six s)) b.y (ap (λ (z : Option ScissorBox). get_or (box_words z) 1 0) e) (f.boxed b e).y t;
        width = signed_back (settings_words s) 9 (omega (arith, thirty_six s)) b.width (ap (λ (z : Option ScissorBox). get_or (box_words z) 2 0) e) (f.boxed b e).width t;
        height = signed_back (settings_words s) 10 (omega (arith, thirty_six s)) b.height (ap (λ (z : Option ScissorBox). get_or (box_words z) 3 0) e) (f.boxed b e).height t;
      }))))

  mask_back : mask_of (bytes_of (settings_words s)) ≡ s.color_mask
  unfolding mask_of settings_words
  mask_back = λ t. record { r = switch_back (settings_words s) 22 (omega (arith, thirty_six s)) s.color_mask.r refl t; g = switch_back (settings_words s) 23 (omega (arith, thirty_six s)) s.color_mask.g refl t; b = switch_back (settings_words s) 24 (omega (arith, thirty_six s)) s.color_mask.b refl t; a = switch_back (settings_words s) 25 (omega (arith, thirty_six s)) s.color_mask.a refl t }

  fog_color_back : color_at (bytes_of (settings_words s)) 112 ≡ s.fog_color
  unfolding color_at settings_words
  fog_color_back = λ t. record { r = float_back (settings_words s) 28 (omega (arith, thirty_six s)) s.fog_color.r refl f.fr t; g = float_back (settings_words s) 29 (omega (arith, thirty_six s)) s.fog_color.g refl f.fg t; b = float_back (settings_words s) 30 (omega (arith, thirty_six s)) s.fog_color.b refl f.fb t; a = float_back (settings_words s) 31 (omega (arith, thirty_six s)) s.fog_color.a refl f.fa t }

  depth_func_at : read_compare (word (bytes_of (settings_words s)) 48) ≡ Ok s.depth_func
  unfolding settings_words
  depth_func_at = ap read_compare (at s 12 (omega arith)) ∙ compare_back s.depth_func

  alpha_func_at : read_compare (word (bytes_of (settings_words s)) 60) ≡ Ok s.alpha_func
  unfolding settings_words
  alpha_func_at = ap read_compare (at s 15 (omega arith)) ∙ compare_back s.alpha_func

  blend_src_at : read_factor (word (bytes_of (settings_words s)) 72) ≡ Ok s.blend_src
  unfolding settings_words
  blend_src_at = ap read_factor (at s 18 (omega arith)) ∙ factor_back s.blend_src

  blend_dst_at : read_factor (word (bytes_of (settings_words s)) 76) ≡ Ok s.blend_dst
  unfolding settings_words
  blend_dst_at = ap read_factor (at s 19 (omega arith)) ∙ factor_back s.blend_dst

  cull_at : cull_of (word (bytes_of (settings_words s)) 80) ≡ Ok s.cull
  unfolding settings_words
  cull_at = ap cull_of (at s 20 (omega arith)) ∙ cull_back s.cull

  face_at : face_of (word (bytes_of (settings_words s)) 84) ≡ Ok s.front_face
  unfolding settings_words
  face_at = ap face_of (at s 21 (omega arith)) ∙ face_back s.front_face

  fog_at : fog_of (word (bytes_of (settings_words s)) 108) ≡ Ok s.fog_mode
  unfolding settings_words
  fog_at = ap fog_of (at s 27 (omega arith)) ∙ fog_back s.fog_mode

  state_back : state_of (bytes_of (settings_words s)) ≡ s
  unfolding state_of settings_words
  state_back = λ t. record {
    viewport = viewport_back t;
    depth_range = record { near = float_back (settings_words s) 4 (omega (arith, thirty_six s)) s.depth_range.near refl f.near t; far = float_back (settings_words s) 5 (omega (arith, thirty_six s)) s.depth_range.far refl f.far t };
    scissor = scissor_back s.scissor refl t;
    depth_test = switch_back (settings_words s) 11 (omega (arith, thirty_six s)) s.depth_test refl t;
    depth_func = result_unwrap_or (depth_func_at t) C.Never;
    depth_write = switch_back (settings_words s) 13 (omega (arith, thirty_six s)) s.depth_write refl t;
    alpha_test = switch_back (settings_words s) 14 (omega (arith, thirty_six s)) s.alpha_test refl t;
    alpha_func = result_unwrap_or (alpha_func_at t) C.Never;
    alpha_ref = float_back (settings_words s) 16 (omega (arith, thirty_six s)) s.alpha_ref refl f.alpha t;
    blend = switch_back (settings_words s) 17 (omega (arith, thirty_six s)) s.blend refl t;
    blend_src = result_unwrap_or (blend_src_at t) B.Zero;
    blend_dst = result_unwrap_or (blend_dst_at t) B.Zero;
    cull = result_unwrap_or (cull_at t) None;
    front_face = result_unwrap_or (face_at t) Ccw;
    color_mask = mask_back t;
    fog = switch_back (settings_words s) 26 (omega (arith, thirty_six s)) s.fog refl t;
    fog_mode = result_unwrap_or (fog_at t) Exp2;
    fog_color = fog_color_back t;
    fog_start = float_back (settings_words s) 32 (omega (arith, thirty_six s)) s.fog_start refl f.start t;
    fog_end = float_back (settings_words s) 33 (omega (arith, thirty_six s)) s.fog_end refl f.end t;
    fog_density = float_back (settings_words s) 34 (omega (arith, thirty_six s)) s.fog_density refl f.density t;
    smooth_shading = switch_back (settings_words s) 35 (omega (arith, thirty_six s)) s.smooth_shading refl t;
  }

  known_back : codes_known (bytes_of (settings_words s)) ≡ true
  unfolding codes_known tests_known modes_known
  known_back = rw (depth_func_at, alpha_func_at, blend_src_at, blend_dst_at, cull_at, face_at, fog_at)

  settings_length : length (bytes_of (settings_words s)) ≡ 144
  settings_length = length_bytes (settings_words s) ∙ ap (λ (n : ℕ). n * 4) (thirty_six s)

  pub settings_back : read_settings (bytes_of (settings_words s)) ≡ Some s
  unfolding read_settings
  settings_back = rw (eq-eqb _ _ settings_length, known_back, state_back)
