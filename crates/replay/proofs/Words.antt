-- Numbers of 2, 4 and 8 bytes, from the bytes at an index on. Assumes nothing.
use Rattle.std.proofs.Common.{◌≡◌, ℕ, ◌+◌, ◌*◌, ◌<◌, List, length, get_or, ◌≤◌, min, ◌⊎◌, inl, inr, sym, refl, ◌∙◌, arith}
use Rattle.std.proofs.Math.ListN.{get_or-eq_default}
use Rattle.std.proofs.lemmas.Bool.{cases_lt}
use Rattle.std.specs.Int.{w16, w32, w64, from_le_bytes}
use Rattle.replay.specs.Record.{byte_or0, word16_of, word32_of, word64_of}

-- an index held to a number past the end reads what it read
pub saturated : (l : List ℕ) (n most : ℕ) → length l ≤ most → get_or l (min n most) 0 ≡ get_or l n 0
saturated l n most h = go (cases_lt most n)
  where
    go : (most < n) ⊎ (n ≤ most) → get_or l (min n most) 0 ≡ get_or l n 0
    go (inl past) =
        let e : min n most ≡ most = omega arith in
        let far : length l ≤ n = omega arith in
        rw e (get_or-eq_default l 0 h ∙ sym (get_or-eq_default l 0 far))
    go (inr within) = let e : min n most ≡ n = omega arith in rw e

module _ (l : List ℕ) (at : ℕ) (bytes : List ℕ) (found : (k : ℕ) → k < length bytes → get_or bytes k 0 ≡ byte_or0 l (at + k)) where
  stands : (k n : ℕ) → k < length bytes → n ≡ at + k → get_or bytes k 0 ≡ byte_or0 l n
  stands k n h e = rw e (found k h)

  pub of_two : length bytes ≡ 2 → from_le_bytes w16 bytes ≡ word16_of l at
  unfolding word16_of
  of_two n =
      let sum : from_le_bytes w16 bytes ≡ get_or bytes 0 0 + get_or bytes 1 0 * 256 = refl in
      let b0 : get_or bytes 0 0 ≡ byte_or0 l at = stands 0 _ (omega arith) (omega arith) in
      let b1 : get_or bytes 1 0 ≡ byte_or0 l (at + 1) = stands 1 _ (omega arith) (omega arith) in
      omega (arith, sum, b0, b1)

  pub of_four : length bytes ≡ 4 → from_le_bytes w32 bytes ≡ word32_of l at
  unfolding word16_of word32_of
  of_four n =
      let sum : from_le_bytes w32 bytes ≡ get_or bytes 0 0 + get_or bytes 1 0 * 256 + get_or bytes 2 0 * 65536 + get_or bytes 3 0 * 16777216 = refl in
      let b0 : get_or bytes 0 0 ≡ byte_or0 l at = stands 0 _ (omega arith) (omega arith) in
      let b1 : get_or bytes 1 0 ≡ byte_or0 l (at + 1) = stands 1 _ (omega arith) (omega arith) in
      let b2 : get_or bytes 2 0 ≡ byte_or0 l (at + 2) = stands 2 _ (omega arith) (omega arith) in
      let b3 : get_or bytes 3 0 ≡ byte_or0 l (at + 2 + 1) = stands 3 _ (omega arith) (omega arith) in
      omega (arith, sum, b0, b1, b2, b3)

  pub of_eight : length bytes ≡ 8 → from_le_bytes w64 bytes ≡ word64_of l at
  unfolding word16_of word32_of word64_of
  of_eight n =
      let sum : from_le_bytes w64 bytes ≡ get_or bytes 0 0 + get_or bytes 1 0 * 256 + get_or bytes 2 0 * 65536 + get_or bytes 3 0 * 16777216 + get_or bytes 4 0 * 4294967296 + get_or bytes 5 0 * 1099511627776 + get_or bytes 6 0 * 281474976710656 + get_or bytes 7 0 * 72057594037927936 = refl in
      let b0 : get_or bytes 0 0 ≡ byte_or0 l at = stands 0 _ (omega arith) (omega arith) in
      let b1 : get_or bytes 1 0 ≡ byte_or0 l (at + 1) = stands 1 _ (omega arith) (omega arith) in
      let b2 : get_or bytes 2 0 ≡ byte_or0 l (at + 2) = stands 2 _ (omega arith) (omega arith) in
      let b3 : get_or bytes 3 0 ≡ byte_or0 l (at + 2 + 1) = stands 3 _ (omega arith) (omega arith) in
      let b4 : get_or bytes 4 0 ≡ byte_or0 l (at + 4) = stands 4 _ (omega arith) (omega arith) in
      let b5 : get_or bytes 5 0 ≡ byte_or0 l (at + 4 + 1) = stands 5 _ (omega arith) (omega arith) in
      let b6 : get_or bytes 6 0 ≡ byte_or0 l (at + 4 + 2) = stands 6 _ (omega arith) (omega arith) in
      let b7 : get_or bytes 7 0 ≡ byte_or0 l (at + 4 + 2 + 1) = stands 7 _ (omega arith) (omega arith) in
      omega (arith, sum, b0, b1, b2, b3, b4, b5, b6, b7)
