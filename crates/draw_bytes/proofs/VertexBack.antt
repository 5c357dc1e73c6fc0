-- A vertex that is written reads back the same. Assumes nothing.
use mathlib.Core.Path.{◌≡◌, refl, ◌∙◌}
use mathlib.Core.List.{List, [], ◌∷◌}
use Prim.Native.Nat.{ℕ, ◌<◌}
use native.Mathlib.Omega.{arith}
use lib.Dec.{T}
use lib.ListN.{length, get_or}
use lib.Ieee as Ieee
use lib.Ieee.{Float, binary32, nan}
use Rattle.vertices.specs.declared.Vertex.{Vertex}
use Rattle.draw_layouts.specs.Numbers.{float_at, four_at, eight_at}
use Rattle.draw_layouts.specs.Vertices.{read_vertex}
use Rattle.draw_bytes.specs.Write.{bytes_of, vertex_words}
use Rattle.draw_bytes.proofs.RoundTrip.{float_back}

four_is : (l : List Float) → length l ≡ 4 → (get_or l 0 nan ∷ get_or l 1 nan ∷ get_or l 2 nan ∷ get_or l 3 nan ∷ []) ≡ l
four_is [] h = absurd (omega (arith, h))
four_is (a0 ∷ []) h = absurd (omega (arith, h))
four_is (a0 ∷ a1 ∷ []) h = absurd (omega (arith, h))
four_is (a0 ∷ a1 ∷ a2 ∷ []) h = absurd (omega (arith, h))
four_is (a0 ∷ a1 ∷ a2 ∷ a3 ∷ []) h = refl
four_is (a0 ∷ a1 ∷ a2 ∷ a3 ∷ a4 ∷ l) h = absurd (omega (arith, h))

eight_is : (l : List Float) → length l ≡ 8
    → (get_or l 0 nan ∷ get_or l 1 nan ∷ get_or l 2 nan ∷ get_or l 3 nan ∷ get_or l 4 nan ∷ get_or l 5 nan ∷ get_or l 6 nan ∷ get_or l 7 nan ∷ []) ≡ l
eight_is [] h = absurd (omega (arith, h))
eight_is (a0 ∷ []) h = absurd (omega (arith, h))
eight_is (a0 ∷ a1 ∷ []) h = absurd (omega (arith, h))
eight_is (a0 ∷ a1 ∷ a2 ∷ []) h = absurd (omega (arith, h))
eight_is (a0 ∷ a1 ∷ a2 ∷ a3 ∷ []) h = absurd (omega (arith, h))
eight_is (a0 ∷ a1 ∷ a2 ∷ a3 ∷ a4 ∷ []) h = absurd (omega (arith, h))
eight_is (a0 ∷ a1 ∷ a2 ∷ a3 ∷ a4 ∷ a5 ∷ []) h = absurd (omega (arith, h))
eight_is (a0 ∷ a1 ∷ a2 ∷ a3 ∷ a4 ∷ a5 ∷ a6 ∷ []) h = absurd (omega (arith, h))
eight_is (a0 ∷ a1 ∷ a2 ∷ a3 ∷ a4 ∷ a5 ∷ a6 ∷ a7 ∷ []) h = refl
eight_is (a0 ∷ a1 ∷ a2 ∷ a3 ∷ a4 ∷ a5 ∷ a6 ∷ a7 ∷ a8 ∷ l) h = absurd (omega (arith, h))

-- its arrays have their lengths and its floats their format, as those of any vertex in the code do
pub record VertexFits (v : Vertex) : Type 0 where
  pub pos_length : length v.pos ≡ 4
  pub color_length : length v.color ≡ 4
  pub texcoord_length : length v.texcoord ≡ 8
  pub pos : (i : ℕ) → i < 4 → T (Ieee.fits binary32 (get_or v.pos i nan))
  pub color : (i : ℕ) → i < 4 → T (Ieee.fits binary32 (get_or v.color i nan))
  pub texcoord : (i : ℕ) → i < 8 → T (Ieee.fits binary32 (get_or v.texcoord i nan))
  pub depth : T (Ieee.fits binary32 v.fog_depth)

seventeen : (v : Vertex) → length (vertex_words v) ≡ 17
unfolding vertex_words
seventeen v = refl

module _ (v : Vertex) (f : VertexFits v) where
  pos_back : four_at (bytes_of (vertex_words v)) 0 ≡ v.pos
  unfolding four_at vertex_words
  pos_back =
      (λ t. float_back (vertex_words v) 0 (omega (arith, seventeen v)) (get_or v.pos 0 nan) refl (f.pos 0 (omega arith)) t
      ∷ float_back (vertex_words v) 1 (omega (arith, seventeen v)) (get_or v.pos 1 nan) refl (f.pos 1 (omega arith)) t
      ∷ float_back (vertex_words v) 2 (omega (arith, seventeen v)) (get_or v.pos 2 nan) refl (f.pos 2 (omega arith)) t
      ∷ float_back (vertex_words v) 3 (omega (arith, seventeen v)) (get_or v.pos 3 nan) refl (f.pos 3 (omega arith)) t ∷ []) ∙ four_is v.pos f.pos_length

  color_back : four_at (bytes_of (vertex_words v)) 16 ≡ v.color
  unfolding four_at vertex_words
  color_back =
      (λ t. float_back (vertex_words v) 4 (omega (arith, seventeen v)) (get_or v.color 0 nan) refl (f.color 0 (omega arith)) t
      ∷ float_back (vertex_words v) 5 (omega (arith, seventeen v)) (get_or v.color 1 nan) refl (f.color 1 (omega arith)) t
      ∷ float_back (vertex_words v) 6 (omega (arith, seventeen v)) (get_or v.color 2 nan) refl (f.color 2 (omega arith)) t
      ∷ float_back (vertex_words v) 7 (omega (arith, seventeen v)) (get_or v.color 3 nan) refl (f.color 3 (omega arith)) t ∷ []) ∙ four_is v.color f.color_length

  texcoord_back : eight_at (bytes_of (vertex_words v)) 32 ≡ v.texcoord
  unfolding eight_at vertex_words
  texcoord_back =
      (λ t. float_back (vertex_words v) 8 (omega (arith, seventeen v)) (get_or v.texcoord 0 nan) refl (f.texcoord 0 (omega arith)) t
      ∷ float_back (vertex_words v) 9 (omega (arith, seventeen v)) (get_or v.texcoord 1 nan) refl (f.texcoord 1 (omega arith)) t
      ∷ float_back (vertex_words v) 10 (omega (arith, seventeen v)) (get_or v.texcoord 2 nan) refl (f.texcoord 2 (omega arith)) t
      ∷ float_back (vertex_words v) 11 (omega (arith, seventeen v)) (get_or v.texcoord 3 nan) refl (f.texcoord 3 (omega arith)) t
      ∷ float_back (vertex_words v) 12 (omega (arith, seventeen v)) (get_or v.texcoord 4 nan) refl (f.texcoord 4 (omega arith)) t
      ∷ float_back (vertex_words v) 13 (omega (arith, seventeen v)) (get_or v.texcoord 5 nan) refl (f.texcoord 5 (omega arith)) t
      ∷ float_back (vertex_words v) 14 (omega (arith, seventeen v)) (get_or v.texcoord 6 nan) refl (f.texcoord 6 (omega arith)) t
      ∷ float_back (vertex_words v) 15 (omega (arith, seventeen v)) (get_or v.texcoord 7 nan) refl (f.texcoord 7 (omega arith)) t ∷ []) ∙ eight_is v.texcoord f.texcoord_length

  depth_back : float_at (bytes_of (vertex_words v)) 64 ≡ v.fog_depth
  unfolding vertex_words
  depth_back = float_back (vertex_words v) 16 (omega (arith, seventeen v)) v.fog_depth refl f.depth

  pub vertex_back : read_vertex (bytes_of (vertex_words v)) 0 ≡ v
  unfolding read_vertex
  vertex_back = λ t. record { pos = pos_back t; color = color_back t; texcoord = texcoord_back t; fog_depth = depth_back t }
