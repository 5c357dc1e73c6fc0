-- Eight bytes of the data taken out decode as they do where they stand. Assumes nothing.
use mathlib.Core.Path.{◌≡◌}
use mathlib.Core.List.{List}
use Prim.Native.Nat.{ℕ, ◌+◌, ◌<◌}
use native.Mathlib.Nat.{add-zero, add_assoc}
use native.Mathlib.Omega.{arith}
use lib.ListN.{get_or, take, drop}
use Rattle.std.proofs.lemmas.List.{get_or-take, get_or-drop}
use Rattle.lists.specs.Lists.{tab}
use Rattle.texels.specs.Texels.{half}
use Rattle.alpha_blocks.specs.AlphaBlocks.{word, explicit_alpha, alpha_selectors, interpolated_alpha}

module _ (s : List ℕ) (at : ℕ) where
  abbrev part : List ℕ
  part = take 8 (drop at s)

  pub byte_part : (i : ℕ) → i < 8 → get_or part i 0 ≡ get_or s (at + i) 0
  byte_part i h = rw (get_or-take 8 (drop at s) i 0 h, get_or-drop at s i 0)

  pub half_part : (i : ℕ) → i < 7 → half part i ≡ half s (at + i)
  half_part i h = rw (byte_part i (omega arith), byte_part (i + 1) (omega arith), add_assoc at i 1)

  pub word_part : (i : ℕ) → i < 5 → word part i ≡ word s (at + i)
  word_part i h = rw (half_part i (omega arith), half_part (i + 2) (omega arith), add_assoc at i 2)

  pub explicit_part : explicit_alpha part 0 ≡ explicit_alpha s at
  unfolding explicit_alpha tab
  explicit_part =
      rw (byte_part 0 (omega arith), byte_part 1 (omega arith), byte_part 2 (omega arith), byte_part 3 (omega arith), byte_part 4 (omega arith), byte_part 5 (omega arith), byte_part 6 (omega arith), byte_part 7 (omega arith))

  selectors_part : alpha_selectors part 2 ≡ alpha_selectors s (at + 2)
  unfolding alpha_selectors
  selectors_part = rw (word_part 2 (omega arith), half_part 6 (omega arith), add_assoc at 2 4)

  pub interpolated_part : interpolated_alpha part 0 ≡ interpolated_alpha s at
  unfolding interpolated_alpha
  interpolated_part = rw (byte_part 0 (omega arith), byte_part 1 (omega arith), selectors_part, add-zero at)
