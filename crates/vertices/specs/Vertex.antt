-- A vertex, its distance to each clip plane, and the vertex between two, float for float as the Rust writes it.
use Rattle.std.specs.Prelude.{ℕ, Bool, List, [], ◌∷◌, map, get_or, Float}
use Rattle.std.specs.List.{list_all, range_with_len}
use Rattle.std.specs.Float.Ieee as Ieee
use Rattle.std.specs.Float.{binary32, nan}
use Rattle.floats.specs.Num.{◌⊕◌, ◌⊖◌, ◌⊗◌, zero32, one32}
use Rattle.vertices.specs.declared.Vertex.{Vertex}
use Rattle.vertices.specs.declared.Plane.{Plane}
use Rattle.vertices.specs.declared.Plane.TheVariants.{Left, Right, Bottom, Top, Near, Far, PositiveW}

-- raster.rs, Vertex::default
abbrev pub new_vertex : Vertex
new_vertex =
    record {
      pos = zero32 ∷ zero32 ∷ zero32 ∷ one32 ∷ [];
      color = one32 ∷ one32 ∷ one32 ∷ one32 ∷ [];
      texcoord = zero32 ∷ zero32 ∷ zero32 ∷ zero32 ∷ zero32 ∷ zero32 ∷ zero32 ∷ zero32 ∷ [];
      fog_depth = zero32;
    }

-- what stands past an array's end
abbrev pub past : Vertex
past = record { pos = []; color = []; texcoord = []; fog_depth = nan }

-- ---- the vertex between two

-- raster.rs, lerp_vertex, mix: x + (y - x) * t
unfoldable pub mix_of : Float → Float → Float → Float
mix_of t x y = x ⊕ (y ⊖ x) ⊗ t

-- the mix of a's and b's number i
abbrev pub mix_at : Float → List Float → List Float → ℕ → Float
mix_at t a b i = mix_of t (get_or a i nan) (get_or b i nan)

-- the first n numbers of a, each mixed with b's
unfoldable pub mixed : ℕ → Float → List Float → List Float → List Float
mixed n t a b = map (mix_at t a b) (range_with_len 0 n)

-- raster.rs, lerp_vertex
unfoldable pub lerp : Float → Vertex → Vertex → Vertex
lerp t a b =
    record {
      pos = mixed 4 t a.pos b.pos;
      color = mixed 4 t a.color b.color;
      texcoord = mixed 8 t a.texcoord b.texcoord;
      fog_depth = mix_of t a.fog_depth b.fog_depth;
    }

-- ---- the seven planes

-- raster.rs, CLIP_W_EPSILON: 1e-8
abbrev pub clip_epsilon : Float
clip_epsilon = Ieee.of_bits binary32 0x322b_cc77

-- x, y, z and w of the position are its numbers 0, 1, 2 and 3
abbrev pub coord : ℕ → Vertex → Float
coord i v = get_or v.pos i nan

-- raster.rs, clip_frustum: for plane in 0..7; OpenGL ES 1.1, Clipping; the seventh keeps w above 0
abbrev pub planes : List Plane
planes = Left ∷ Right ∷ Bottom ∷ Top ∷ Near ∷ Far ∷ PositiveW ∷ []

-- the plane of raster.rs's number: the last of any from 6 on
abbrev pub plane_at : ℕ → Plane
plane_at n = get_or planes n PositiveW

-- raster.rs, clip_distance
abbrev pub distance : Plane → Vertex → Float
distance Left v = coord 3 v ⊕ coord 0 v
distance Right v = coord 3 v ⊖ coord 0 v
distance Bottom v = coord 3 v ⊕ coord 1 v
distance Top v = coord 3 v ⊖ coord 1 v
distance Near v = coord 3 v ⊕ coord 2 v
distance Far v = coord 3 v ⊖ coord 2 v
distance PositiveW v = coord 3 v ⊖ clip_epsilon

-- raster.rs, clip_frustum: clip_distance(..) >= 0.0
unfoldable pub inside : Plane → Vertex → Bool
inside p v = Ieee.le zero32 (distance p v)

-- raster.rs, inside_frustum
unfoldable pub inside_frustum : Vertex → Bool
inside_frustum v = list_all (λ p. inside p v) planes
