-- What answers cost: a draw its count, a refused call and all that is no draw nothing. Assumes nothing.
use mathlib.Core.Path.{◌≡◌, refl}
use Prim.Native.Nat.{ℕ}
use Rattle.frames.specs.State.{done, drew, refused, cost}

pub refused_costs_nothing : (n : ℕ) → cost (refused n) ≡ 0
refused_costs_nothing n = refl

pub done_costs_nothing : cost done ≡ 0
done_costs_nothing = refl

pub draw_costs_its_count : (n : ℕ) → cost (drew n) ≡ n
draw_costs_its_count n = refl
