-- The export's loop writes two bytes a turn, from the front. Assumes nothing.
use Prim.Native.Nat.{ℕ, zero, suc, ◌+◌, ◌*◌, ◌/◌, ◌%◌, ◌≤◌, ◌<◌}
use mathlib.Core.Path.{◌≡◌, refl, ap, ◌∙◌}
use mathlib.Core.List.{List, [], ◌∷◌, ◌++◌}
use native.Mathlib.Nat.{zero-mul, suc-mul}
use native.Mathlib.Numerals.{add-one}
use Rattle.std.specs.Simd.{first_chunks}
use Rattle.std.proofs.lemmas.List.{get_or-take, get_or-drop}
use native.Mathlib.Omega.{arith}
use lib.ListN.{length, get_or, set, take, drop}
use lib.Seq.{paste, sets-eq, drop-drop}
use mir.Syntax.{w16, w32}
use Rattle.std.specs.Int.{to_le_bytes, from_le_bytes}
use Rattle.lists.specs.Lists.{flat}
use Rattle.lists.proofs.Rows.{flat_none, flat_more}
use Rattle.export.specs.Export.{packed, bytes_of, rgb565_at}

two_bytes : (colors : List ℕ) (p : ℕ) → length (rgb565_at colors p) ≡ 2
unfolding rgb565_at
two_bytes colors p = refl

pair_stored : (l : List ℕ) (i a b : ℕ) → i + 2 ≤ length l → set (set l i a) (i + 1) b ≡ paste l i (a ∷ b ∷ []) 2
pair_stored l i a b h = rw (add-one i) (sets-eq (a ∷ b ∷ []) l i h)

-- a pixel's bytes, from its four as one number
pub packed_bytes : (n r g b a : ℕ) → r < 256 → g < 256 → b < 256 → a < 256 → n ≡ from_le_bytes w32 (r ∷ g ∷ b ∷ a ∷ [])
    → to_le_bytes w16 (n / 8 % 32 * 2048 + n / 1024 % 64 * 32 + n / 524288 % 32) ≡ bytes_of (packed r g b)
packed_bytes n r g b a h i j k e =
    let v : n / 8 % 32 * 2048 + n / 1024 % 64 * 32 + n / 524288 % 32 ≡ packed r g b = omega arith in
    let low : packed r g b / 256 % 256 ≡ packed r g b / 256 = omega arith in
    rw v (λ t. packed r g b % 256 ∷ low t ∷ [])

-- four bytes, as they are taken one by one
pub four : (l : List ℕ) → length l ≡ 4 → l ≡ get_or l 0 0 ∷ get_or l 1 0 ∷ get_or l 2 0 ∷ get_or l 3 0 ∷ []
four [] e = absurd (omega (arith, e))
four (a ∷ []) e = absurd (omega (arith, e))
four (a ∷ b ∷ []) e = absurd (omega (arith, e))
four (a ∷ b ∷ c ∷ []) e = absurd (omega (arith, e))
four (a ∷ b ∷ c ∷ d ∷ []) e = refl
four (a ∷ b ∷ c ∷ d ∷ x ∷ l) e = absurd (omega (arith, e))

-- chunk p of a list
chunk_at : {X : Type 0} (n k p : ℕ) (xs d : List X) → p < k → get_or (first_chunks n k xs) p d ≡ take n (drop (p * n) xs)
chunk_at n zero p xs d h = absurd (omega (arith, h))
chunk_at n (suc k) zero xs d h = rw zero-mul
chunk_at n (suc k) (suc p) xs d h =
    let e : n + p * n ≡ suc p * n = omega (arith, suc-mul p n) in
    chunk_at n k p (drop n xs) d (omega (arith, h)) ∙ ap (take n) (drop-drop (p * n) n xs) ∙ ap (λ (k : ℕ). take n (drop k xs)) e

-- a pixel's bytes, from its four as a chunk of the colours
pub chunk_bytes : (colors d : List ℕ) (n p : ℕ) → p < n
    → let rgba = get_or (first_chunks 4 n colors) p d in bytes_of (packed (get_or rgba 0 0) (get_or rgba 1 0) (get_or rgba 2 0)) ≡ rgb565_at colors p
unfolding rgb565_at
chunk_bytes colors d n p h =
    let at : (i : ℕ) → i < 4 → get_or (get_or (first_chunks 4 n colors) p d) i 0 ≡ get_or colors (p * 4 + i) 0 = λ i j.
    ap (λ (l : List ℕ). get_or l i 0) (chunk_at 4 n p colors d h) ∙ get_or-take 4 (drop (p * 4) colors) i 0 j ∙ get_or-drop (p * 4) colors i 0 in
    let z : p * 4 + 0 ≡ p * 4 = omega arith in
    rw (at 0 (omega arith), at 1 (omega arith), at 2 (omega arith), z)

pub export_none : (colors d : List ℕ) → d ≡ flat 0 (rgb565_at colors) ++ drop (0 * 2) d
export_none colors d = flat_none 2 (rgb565_at colors) (two_bytes colors) d

-- one pixel more
pub export_more : (colors d l pair : List ℕ) (p : ℕ) → l ≡ flat p (rgb565_at colors) ++ drop (p * 2) d → length l ≡ length d → (p + 1) * 2 ≤ length d
    → pair ≡ rgb565_at colors p
    → set (set l (p * 2) (get_or pair 0 0)) (p * 2 + 1) (get_or pair 1 0) ≡ flat (p + 1) (rgb565_at colors) ++ drop ((p + 1) * 2) d
unfolding rgb565_at
export_more colors d l pair p e n h pixel =
    rw pixel
    (pair_stored l (p * 2) _ _ (omega arith)
    ∙ ap (λ (k : List ℕ). paste k (p * 2) (rgb565_at colors p) 2) e
    ∙ flat_more 2 (rgb565_at colors) (two_bytes colors) p d)
