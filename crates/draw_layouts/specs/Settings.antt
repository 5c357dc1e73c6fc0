-- The byte layout of a draw's settings (docs/INTERFACE.md, "Draw"): 144 bytes.
use Rattle.std.specs.Prelude.{ℕ, Bool, false, cond, List, eqb, length, Option, Some, None}
use Rattle.std.specs.Result.{is_ok, result_unwrap_or}
use Rattle.settings.specs.declared.Viewport.{Viewport}
use Rattle.settings.specs.declared.DepthRange.{DepthRange}
use Rattle.settings.specs.declared.ColorMask.{ColorMask}
use Rattle.settings.specs.declared.PipelineState.{PipelineState}
use Rattle.settings.specs.declared.CompareFunc.TheVariants as C
use Rattle.settings.specs.declared.BlendFactor.TheVariants as B
use Rattle.settings.specs.declared.FrontFace.TheVariants.{Ccw}
use Rattle.settings.specs.declared.FogMode.TheVariants.{Exp2}
use Rattle.settings.specs.Settings.{read_compare, read_factor}
use Rattle.settings.specs.Codes.{face_of, fog_of}
use Rattle.layouts.specs.Words.{word}
use Rattle.draw_layouts.specs.Numbers.{signed_at, float_at, switch_at, color_at}
use Rattle.draw_layouts.specs.Codes.{cull_of}
use Rattle.settings.specs.declared.ScissorBox.{ScissorBox}

unfoldable pub viewport_of : List ℕ → Viewport
viewport_of b = record { x = signed_at b 0; y = signed_at b 4; width = signed_at b 8; height = signed_at b 12 }

abbrev pub range_of : List ℕ → DepthRange
range_of b = record { near = float_at b 16; far = float_at b 20 }

-- the whole target where the word at 24 is 0
unfoldable pub scissor_of : List ℕ → Option ScissorBox
scissor_of b =
    cond (eqb (word b 24) 0) None (Some (record { x = signed_at b 28; y = signed_at b 32; width = signed_at b 36; height = signed_at b 40 }))

unfoldable pub mask_of : List ℕ → ColorMask
mask_of b = record { r = switch_at b 88; g = switch_at b 92; b = switch_at b 96; a = switch_at b 100 }

-- the comparisons and factors, then the faces and the fog curve
unfoldable pub tests_known : List ℕ → Bool
tests_known b =
    cond (is_ok (read_compare (word b 48)))
    (cond (is_ok (read_compare (word b 60)))
    (cond (is_ok (read_factor (word b 72))) (is_ok (read_factor (word b 76))) false) false) false

unfoldable pub modes_known : List ℕ → Bool
modes_known b = cond (is_ok (cull_of (word b 80))) (cond (is_ok (face_of (word b 84))) (is_ok (fog_of (word b 108))) false) false

unfoldable pub codes_known : List ℕ → Bool
codes_known b = cond (tests_known b) (modes_known b) false

-- the settings as they stand; a code that has no value reads as one of its kind
unfoldable pub state_of : List ℕ → PipelineState
state_of b = record {
  viewport = viewport_of b;
  depth_range = range_of b;
  scissor = scissor_of b;
  depth_test = switch_at b 44;
  depth_func = result_unwrap_or (read_compare (word b 48)) C.Never;
  depth_write = switch_at b 52;
  alpha_test = switch_at b 56;
  alpha_func = result_unwrap_or (read_compare (word b 60)) C.Never;
  alpha_ref = float_at b 64;
  blend = switch_at b 68;
  blend_src = result_unwrap_or (read_factor (word b 72)) B.Zero;
  blend_dst = result_unwrap_or (read_factor (word b 76)) B.Zero;
  cull = result_unwrap_or (cull_of (word b 80)) None;
  front_face = result_unwrap_or (face_of (word b 84)) Ccw;
  color_mask = mask_of b;
  fog = switch_at b 104;
  fog_mode = result_unwrap_or (fog_of (word b 108)) Exp2;
  fog_color = color_at b 112;
  fog_start = float_at b 128;
  fog_end = float_at b 132;
  fog_density = float_at b 136;
  smooth_shading = switch_at b 140;
}

-- a layout of another length, or with a code that has no value, holds no settings
unfoldable pub read_settings : List ℕ → Option PipelineState
read_settings b = cond (eqb (length b) 144) (cond (codes_known b) (Some (state_of b)) None) None
