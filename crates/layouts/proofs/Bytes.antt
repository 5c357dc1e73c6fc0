-- Four and eight bytes at a place as a number. Assumes nothing.
use mathlib.Core.Path.{◌≡◌, refl}
use mathlib.Core.List.{List, ◌∷◌}
use Prim.Native.Nat.{ℕ, suc, ◌+◌, ◌≤◌, ◌<◌}
use native.Mathlib.Numerals.{add-one}
use native.Mathlib.Omega.{arith}
use lib.ListN.{length, get_or, take, drop}
use lib.Seq.{drop-cons}
use Rattle.std.proofs.Common.{w32, w64}
use Rattle.std.specs.Int.{from_le_bytes}
use Rattle.layouts.specs.Words.{word, long}

module _ (b : List ℕ) (i : ℕ) where
  -- the first of m bytes, and the n behind it
  first : (m n : ℕ) → m ≡ suc n → i < length b → take m (drop i b) ≡ get_or b i 0 ∷ take n (drop (i + 1) b)
  first m n e h = rw (e, drop-cons b i 0 h, add-one i)

  next : (m n j k : ℕ) → m ≡ suc n → k ≡ j + 1 → i + j < length b → take m (drop (i + j) b) ≡ get_or b (i + j) 0 ∷ take n (drop (i + k) b)
  next m n j k e f h =
      let s : i + k ≡ suc (i + j) = omega arith in
      rw (e, s, drop-cons b (i + j) 0 h)

  pub word_is : i + 4 ≤ length b → from_le_bytes w32 (take 4 (drop i b)) ≡ word b i
  unfolding word
  word_is h =
      rw (first 4 3 refl (omega arith), next 3 2 1 2 refl refl (omega arith), next 2 1 2 3 refl refl (omega arith), next 1 0 3 4 refl refl (omega arith))
      (omega arith)

  pub long_is : i + 8 ≤ length b → from_le_bytes w64 (take 8 (drop i b)) ≡ long b i
  unfolding long word
  long_is h =
      let e : i + 4 + 1 ≡ i + 5 = omega arith in
      let f : i + 4 + 2 ≡ i + 6 = omega arith in
      let g : i + 4 + 3 ≡ i + 7 = omega arith in
      rw (
        first 8 7 refl (omega arith),
        next 7 6 1 2 refl refl (omega arith),
        next 6 5 2 3 refl refl (omega arith),
        next 5 4 3 4 refl refl (omega arith),
        next 4 3 4 5 refl refl (omega arith),
        next 3 2 5 6 refl refl (omega arith),
        next 2 1 6 7 refl refl (omega arith),
        next 1 0 7 8 refl refl (omega arith),
        e,
        f,
        g,
      )
      (omega arith)
