-- A float cut at 0 and then at a top above 0 is `held_of`. Assumes nothing.
use mathlib.Core.Path.{◌≡◌, refl, ap, ◌∙◌}
use mathlib.Core.Bool.{Bool, true, false, cond, ◌||◌}
use lib.Dec.{T}
use lib.Ieee as Ieee
use lib.Ieee.{Float, le, ne}
use Rattle.std.proofs.lemmas.Float.{le_of_lt, le_refl, le_right, lt_irrefl, T_from_true}
use Rattle.floats.specs.Num.{zero32, min_of}
use Rattle.channels.specs.Channel.{held_of}

abbrev cut : Float → Float → Float
cut top y = cond (Ieee.lt y top) y top

by_sign : (b : Bool) (x top : Float) → Ieee.lt zero32 top ≡ true → cut top (cond b x zero32) ≡ cond b (cut top x) zero32
by_sign true x top h = refl
by_sign false x top h = rw h

other : (a b : Bool) → T (a || b) → ¬ (T a) → b ≡ true
other true b t n = absurd (n t)
other false true t n = refl
other false false t n = absurd t

-- what is above 0 is a number
is_number : (top : Float) → Ieee.lt zero32 top ≡ true → Ieee.eq top top ≡ true
unfolding le
is_number top h = other (Ieee.lt top top) (Ieee.eq top top) (le_refl top (le_right zero32 top (le_of_lt zero32 top (T_from_true (Ieee.lt zero32 top) h)))) (lt_irrefl top)

min_is_cut : (top y : Float) → Ieee.lt zero32 top ≡ true → min_of top y ≡ cut top y
unfolding min_of ne
min_is_cut top y h = rw (is_number top h)

pub cut_is_held : (x top : Float) {y r : Float} → Ieee.lt zero32 top ≡ true → y ≡ cond (Ieee.lt zero32 x) x zero32 → r ≡ min_of top y → r ≡ held_of x top
unfolding held_of
cut_is_held x top {y} h e q = q ∙ min_is_cut top y h ∙ ap (cut top) e ∙ by_sign (Ieee.lt zero32 x) x top h
