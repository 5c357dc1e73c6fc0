-- A way to write fragments that have the law of a fragment whatever they do: decide on the pixel as it stands whether the stages are
-- reached, list the addresses of the texel bytes, then shade with the bytes found there.
use Rattle.std.specs.Prelude.{refl, Bool, cond, List, [], map, ℕ, ◌+◌, ◌*◌, get_or, set, Float}
use Rattle.std.proofs.Math.Option.{Option, none, some}
use Rattle.frames.specs.State.{Pixel, pixel_at}
use Rattle.frames.specs.Fragments.{Canvas, Work}

-- The colours, the depths and the count so far.
pub record Drawn : Type 0 where
  pub colors : List ℕ
  pub depths : List Float
  pub count : ℕ

abbrev pub drawn : Canvas Drawn
drawn = record {
  colors = λ d. d.colors;
  depths = λ d. d.depths;
  count = λ d. d.count;
  begin = λ cs ds. record { colors = cs; depths = ds; count = 0 };
  begin_colors = λ cs ds. refl;
  begin_depths = λ cs ds. refl;
  begin_count = λ cs ds. refl;
}

-- What a fragment comes to: the pixel that it leaves, if it gets to the end, and the store bytes that it took on the way.
pub record Frag : Type 0 where
  pub put : Option Pixel
  pub took : List ℕ

-- The pixel as four stores of a byte and one of a depth.
unfoldable pub put_color : List ℕ → ℕ → Pixel → List ℕ
put_color cs p x = set (set (set (set cs (p * 4) x.red) (p * 4 + 1) x.green) (p * 4 + 2) x.blue) (p * 4 + 3) x.alpha

unfoldable pub put_pixel : Drawn → ℕ → Option Pixel → Drawn
put_pixel d p none = d
put_pixel d p (some x) = record { colors = put_color d.colors p x; depths = set d.depths p x.depth; count = d.count + 1 }

module _ {Item : Type 0} where
  -- the work of fragments that hang on the store, the item and its pixel
  abbrev pub frag_work : List Item → (Item → ℕ) → (List ℕ → Item → Pixel → Frag) → Work Item Drawn
  frag_work items at frag = record {
    items = items;
    at = at;
    step = λ st i d. put_pixel d (at i) (frag st i (pixel_at d.colors d.depths (at i))).put;
    took = λ st i d. (frag st i (pixel_at d.colors d.depths (at i))).took;
  }

  unfoldable pub gather : (Item → Pixel → Bool) → (Item → Pixel → List ℕ) → (Item → Pixel → List ℕ → Option Pixel) → List ℕ → Item → Pixel → Frag
  gather reach addrs shade st i x =
      cond (reach i x) (record { put = shade i x (map (λ b. get_or st b 0) (addrs i x)); took = addrs i x }) (record { put = none; took = [] })
