-- The chain's walk, step by step, and what it says of the levels that it passes. Assumes nothing.
use mathlib.Core.Bool.{Bool, true, false, cond}
use mathlib.Core.Path.{◌≡◌, refl}
use mathlib.Core.List.{List, [], ◌∷◌}
use Prim.Native.Nat.{ℕ, zero, suc, ◌+◌, ◌≤◌, ◌<◌}
use native.Mathlib.Numerals.{add-one}
use native.Mathlib.Omega.{arith}
use lib.ListN.{length, get_or, drop, drop_of_length-le}
use lib.Seq.{drop-cons}
use Rattle.lists.proofs.Choice.{was_true, was_false}
use Rattle.std.proofs.lemmas.Bool.{false≢true}
use Rattle.levels.specs.declared.MipLevel.{MipLevel}
use Rattle.levels.specs.Levels.{absent, complete, single, follows, climb, top_of}

module _ (l : List MipLevel) (d : MipLevel) (k w h : ℕ) where
  pub climb_on : k + 1 < length l → follows w h (get_or l (k + 1) d) ≡ true
      → climb (k + 1) (get_or l (k + 1) d).width (get_or l (k + 1) d).height (drop (k + 1 + 1) l) ≡ climb k w h (drop (k + 1) l)
  unfolding climb
  climb_on i e = rw (drop-cons l (k + 1) d, e, add-one (k + 1))

  pub climb_stop : k + 1 < length l → follows w h (get_or l (k + 1) d) ≡ false → climb k w h (drop (k + 1) l) ≡ k
  unfolding climb
  climb_stop i e = rw (drop-cons l (k + 1) d, e)

  pub climb_end : length l ≤ k + 1 → climb k w h (drop (k + 1) l) ≡ k
  unfolding climb
  climb_end i = rw (drop_of_length-le l i)

pub top_start : (l : List MipLevel) (d : MipLevel) → 0 < length l → complete (get_or l 0 d) ≡ true → climb 0 (get_or l 0 d).width (get_or l 0 d).height (drop (0 + 1) l) ≡ top_of l
unfolding top_of
top_start [] d i e = absurd (omega arith)
top_start (m ∷ l) d i e = rw e

pub top_none : (l : List MipLevel) (d : MipLevel) → complete (get_or l 0 d) ≡ false → top_of l ≡ 0
unfolding top_of
top_none [] d e = refl
top_none (m ∷ l) d e = rw e

follows_complete : (w h : ℕ) (m : MipLevel) → follows w h m ≡ true → complete m ≡ true
unfolding follows
follows_complete w h m e = (was_true (complete m) (was_false (single w h) e false≢true).1 false≢true).0

-- the walk goes no further than the levels do
climb_bound : (k w h : ℕ) (l : List MipLevel) → climb k w h l ≤ k + length l
unfolding climb
climb_bound k w h [] = omega arith
climb_bound k w h (m ∷ l) = here (follows w h m) (climb_bound (k + 1) m.width m.height l)
  where
    here : (b : Bool) → climb (k + 1) m.width m.height l ≤ k + 1 + length l → cond b (climb (k + 1) m.width m.height l) k ≤ k + suc (length l)
    here true r = omega arith
    here false r = omega arith

pub top_bound : (l : List MipLevel) → 0 < length l → top_of l < length l
unfolding top_of
top_bound [] h = absurd (omega arith)
top_bound (m ∷ l) h = here (complete m)
  where
    here : (b : Bool) → cond b (climb 0 m.width m.height l) 0 < suc (length l)
    here true = omega (arith, climb_bound 0 m.width m.height l)
    here false = omega arith

-- every level that the walk passes is complete
climb_complete : (k w h : ℕ) (l : List MipLevel) (j : ℕ) → k + suc j ≤ climb k w h l → complete (get_or l j absent) ≡ true
unfolding climb
climb_complete k w h [] j i = absurd (omega arith)
climb_complete k w h (m ∷ l) j i = here (λ j. climb_complete (k + 1) m.width m.height l j) (follows w h m) refl j i
  where
    here : ((j : ℕ) → k + 1 + suc j ≤ climb (k + 1) m.width m.height l → complete (get_or l j absent) ≡ true)
        → (b : Bool) → follows w h m ≡ b → (j : ℕ) → k + suc j ≤ cond b (climb (k + 1) m.width m.height l) k → complete (get_or (m ∷ l) j absent) ≡ true
    here r false e j i = absurd (omega arith)
    here r true e zero i = follows_complete w h m e
    here r true e (suc j) i = r j (omega arith)

pub chain_complete : (l : List MipLevel) → complete (get_or l 0 absent) ≡ true → (k : ℕ) → k ≤ top_of l → complete (get_or l k absent) ≡ true
unfolding top_of
chain_complete l e zero i = e
chain_complete [] e (suc k) i = e
chain_complete (m ∷ l) e (suc k) i = let j = rw e at i in climb_complete 0 m.width m.height l k (omega arith)
