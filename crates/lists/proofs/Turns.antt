-- Laws of runs of steps: `iter` for a loop that writes in any order, `between` for a loop over the numbers k to e. Assumes nothing.
use mathlib.Core.Path.{◌≡◌, refl}
use Prim.Native.Nat.{ℕ, zero, suc, ◌+◌, ◌-◌, ◌≤◌, ◌<◌}
use native.Mathlib.Numerals.{add-one}
use native.Mathlib.Omega.{arith}
use Rattle.lists.specs.Lists.{iter, turns, between}

module _ {S : Type 0} (f : ℕ → S → S) (s : S) where
  pub iter_none : s ≡ iter 0 f s
  unfolding iter
  iter_none = refl

  pub iter_more : (n : ℕ) → f n (iter n f s) ≡ iter (n + 1) f s
  unfolding iter
  iter_more n = rw add-one refl

  -- one step taken off the front, as a loop takes it
  -- Kept: between_more of std is of the elements between two indices; this is of the steps between two numbers (8b)
  pub between_more : (k e : ℕ) → k < e → between f k e s ≡ between f (k + 1) e (f k s)
  unfolding between turns
  between_more k e h =
      let one-off : e - k ≡ suc (e - (k + 1)) = omega arith in
      rw one-off

  pub between_done : (k e : ℕ) → e ≤ k → between f k e s ≡ s
  unfolding between turns
  between_done k e h = let none : e - k ≡ 0 = omega arith in rw none

-- what every step keeps, a run keeps
module _ {S : Type 0} (f : ℕ → S → S) (P : S → Type 0) where
  turns_keep : ((k : ℕ) (s : S) → P s → P (f k s)) → (k n : ℕ) (s : S) → P s → P (turns f k n s)
  unfolding turns
  turns_keep h k zero s p = p
  turns_keep h k (suc n) s p = turns_keep h (k + 1) n (f k s) (h k s p)

  pub between_keep : ((k : ℕ) (s : S) → P s → P (f k s)) → (k e : ℕ) (s : S) → P s → P (between f k e s)
  unfolding between
  between_keep h k e s p = turns_keep h k (e - k) s p

  pub iter_keep : ((k : ℕ) (s : S) → P s → P (f k s)) → (n : ℕ) (s : S) → P s → P (iter n f s)
  unfolding iter
  iter_keep h zero s p = p
  iter_keep h (suc n) s p = h n (iter n f s) (iter_keep h n s p)
