-- A pixel's way hangs on the store's bytes that it tells it takes, and on no others: the law of a fragment. Assumes nothing.
use Rattle.std.specs.Prelude as Std
use mathlib.Core.Path.{◌≡◌, refl, ap, ◌∙◌}
use mathlib.Core.Bool.{Bool, true, false, cond}
use mathlib.Core.List.{List, []}
use mathlib.Core.Option.{none}
use Prim.Native.Nat.{ℕ, zero, suc}
use lib.ListN.{get_or}
use lib.Ieee.{Float}
use Rattle.lists.specs.Lists.{iter, flat}
use Rattle.levels.specs.declared.Texture.{Texture}
use Rattle.settings.specs.declared.Rgba.{Rgba}
use Rattle.settings.specs.declared.TextureStage.{TextureStage}
use Rattle.gradients.specs.declared.PerCorner.{PerCorner}
use Rattle.mipmaps.specs.declared.Coordinates.{Coordinates}
use Rattle.sampler.specs.Addresses.{addresses_of}
use Rattle.sampler.specs.Samples.{texel_from, sample_of}
use Rattle.isolation.specs.Machine.{In}
use Rattle.frames.specs.State.{Pixel}
use Rattle.frames.specs.Fragments.{FragLocal}
use Rattle.frames.specs.Gather.{drawn, Frag}
use Rattle.frames.proofs.Fragments.{in_left, in_right}
use Rattle.frames.proofs.Gather.{bytes_same, frag_local}
use Rattle.coverage.specs.declared.Primitive.{Primitive}
use Rattle.coverage.specs.Coverage.{weights_of, covered_by, depth_at}
use Rattle.stages.specs.Stages.{stage_at, texture_at, coordinates_of, stage_color, stage_step, stages_color, stages_addresses}
use Rattle.pixels.specs.Way.{Drawing, reaches, rec_of, shaded_of, fog_depth_of, finished, fragment_of, left_by, frag_at}
use Rattle.draw_reads.specs.Items.{Item, pixel_no, items_work}

-- stores that have the same bytes at some addresses
abbrev pub SameAt : List ℕ → List ℕ → List ℕ → Type 0
SameAt st su l = (b : ℕ) → In b l → get_or st b 0 ≡ get_or su b 0

module _ (st su : List ℕ) where
  pub sample_same : (x : Texture) (p : Coordinates) → SameAt st su (addresses_of x p) → sample_of st x p ≡ sample_of su x p
  unfolding sample_of
  sample_same x p h = ap (texel_from x p) (bytes_same st su (addresses_of x p) h)

  stage_same : (stage : TextureStage) (x : Texture) (p : Coordinates) (c : Rgba) → SameAt st su (addresses_of x p) → stage_color st stage x p c ≡ stage_color su stage x p c
  unfolding stage_color
  stage_same stage x p c h = rw (sample_same x p h)

  module _ (stages : List TextureStage) (xs : List Texture) (t : Primitive) (w : PerCorner Float) (rec : Float) where
    stages_same : (n : ℕ) (c : Rgba) → SameAt st su (stages_addresses stages n xs t w rec) → stages_color st stages n xs t w rec c ≡ stages_color su stages n xs t w rec c
    unfolding stages_color stages_addresses stage_step iter flat
    stages_same zero c h = refl
    stages_same (suc n) c h =
        let x = texture_at xs n in
        let p = coordinates_of t w rec (stage_at stages n).unit in
        stage_same (stage_at stages n) x p (stages_color st stages n xs t w rec c) (λ b i. h b (in_right b (stages_addresses stages n xs t w rec) _ i))
        ∙ ap (stage_color su (stage_at stages n) x p) (stages_same n c (λ b i. h b (in_left b (stages_addresses stages n xs t w rec) _ i)))

  module _ (d : Drawing) (t : Primitive) (w : PerCorner Float) where
    fragment_same : (stored : Float) → SameAt st su (cond (reaches d.state t w stored) (stages_addresses d.stages d.count d.textures t w (rec_of t w)) [])
        → fragment_of st d t w stored ≡ fragment_of su d t w stored
    unfolding fragment_of shaded_of
    fragment_same stored h = go (reaches d.state t w stored) h
      where
        tail : List ℕ → Std.Option (Float × Rgba)
        tail l = finished d.state (depth_at t.raster w) (fog_depth_of t w) (shaded_of l d t w)

        go : (b : Bool) → SameAt st su (cond b (stages_addresses d.stages d.count d.textures t w (rec_of t w)) []) → cond b (tail st) Std.None ≡ cond b (tail su) Std.None
        go true k = ap (finished d.state (depth_at t.raster w) (fog_depth_of t w)) (stages_same d.stages d.textures t w (rec_of t w) d.count _ k)
        go false k = refl

  -- THE LAW: stores with the same bytes where a pixel took some make the pixel the same
  pub frag_same : (d : Drawing) (t : Primitive) (px py : ℕ) (old : Pixel) → SameAt st su (frag_at st d t px py old).took → frag_at st d t px py old ≡ frag_at su d t px py old
  unfolding frag_at
  frag_same d t px py old h = go (covered_by w) h
    where
      w : PerCorner Float
      w = weights_of t.raster px py

      took : List ℕ
      took = cond (reaches d.state t w old.depth) (stages_addresses d.stages d.count d.textures t w (rec_of t w)) []

      full : List ℕ → Frag
      full l = record { put = left_by d.state (fragment_of l d t w old.depth) old; took = took }

      nothing : Frag
      nothing = record { put = none; took = [] }

      go : (b : Bool) → SameAt st su (cond b (full st) nothing).took → cond b (full st) nothing ≡ cond b (full su) nothing
      go true k = ap (λ f. record { put = left_by d.state f old; took = took }) (fragment_same d t w old.depth k)
      go false k = refl

-- so the fragments of a draw have the law of a fragment
pub items_local : (d : Drawing) (width : ℕ) (items : List Item) → FragLocal drawn (items_work d width items)
items_local d width items = frag_local items (pixel_no width) (λ st i old. frag_at st d i.tri i.px i.py old) (λ st su i x h. frag_same st su d i.tri i.px i.py x h)
