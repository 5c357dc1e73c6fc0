use Rattle.std.proofs.Common.{◌≡◌, List, [], ◌∷◌, ℕ, ◌/◌, ◌%◌, refl, ap, ◌∙◌, w32}
use Rattle.std.specs.Int.{to_le_bytes}
use Rattle.levels.specs.declared.MinFilter.{MinFilter}
use Rattle.levels.specs.declared.MinFilter.TheVariants as min
use Rattle.levels.specs.declared.Filter.{Filter}
use Rattle.levels.specs.declared.Filter.TheVariants as mag
use Rattle.levels.specs.declared.Wrap.{Wrap}
use Rattle.levels.specs.declared.Wrap.TheVariants as wrap
use Rattle.levels.specs.Codes.{min_code, mag_code, wrap_code}
use Rattle.layouts.specs.Records.{rest_bytes}
use Rattle.layouts.proofs.rest_bytes.Goals as goal

-- a code's two low bytes, and two zeros
abbrev code_bytes : ℕ → List ℕ
code_bytes n = n % 256 ∷ n / 256 % 256 ∷ 0 ∷ 0 ∷ []

min_bytes : (f : MinFilter) → to_le_bytes w32 (min_code f) ≡ code_bytes (min_code f)
min_bytes min.Nearest = refl
min_bytes min.Linear = refl
min_bytes min.NearestMipmapNearest = refl
min_bytes min.LinearMipmapNearest = refl
min_bytes min.NearestMipmapLinear = refl
min_bytes min.LinearMipmapLinear = refl

mag_bytes : (f : Filter) → to_le_bytes w32 (mag_code f) ≡ code_bytes (mag_code f)
mag_bytes mag.Nearest = refl
mag_bytes mag.Linear = refl

wrap_bytes : (w : Wrap) → to_le_bytes w32 (wrap_code w) ≡ code_bytes (wrap_code w)
wrap_bytes wrap.Repeat = refl
wrap_bytes wrap.ClampToEdge = refl

pub returns : goal.returns
unfolding rest_bytes
returns c =
    let t = c.args.texture in
    rw (
      c.copy_from_slice.ensures.after ∙ c.to_le_bytes.ensures,
      c.copy_from_slice-2.ensures.after ∙ c.to_le_bytes-2.ensures ∙ ap (to_le_bytes w32) c.from.ensures ∙ min_bytes t.min_filter,
      c.copy_from_slice-3.ensures.after ∙ c.to_le_bytes-3.ensures ∙ ap (to_le_bytes w32) c.from-2.ensures ∙ mag_bytes t.mag_filter,
      c.copy_from_slice-4.ensures.after ∙ c.to_le_bytes-4.ensures ∙ ap (to_le_bytes w32) c.from-3.ensures ∙ wrap_bytes t.wrap_s,
      c.copy_from_slice-5.ensures.after ∙ c.to_le_bytes-5.ensures ∙ ap (to_le_bytes w32) c.from-4.ensures ∙ wrap_bytes t.wrap_t,
    )
    (refl {a = rest_bytes t})
