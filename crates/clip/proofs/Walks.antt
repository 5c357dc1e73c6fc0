-- The loop over a polygon's edges: the corners put so far and what is left of the walk make the whole. Assumes nothing.
use mathlib.Core.Path.{◌≡◌, sym, ap, ◌∙◌}
use mathlib.Core.List.{List, [], ◌++◌, append-nil, append_assoc}
use Prim.Native.Nat.{ℕ, ◌+◌, ◌≤◌, ◌<◌}
use native.Mathlib.Omega.{arith}
use lib.ListN.{length, get_or, length-append}
use Rattle.vertices.specs.declared.Vertex.{Vertex}
use Rattle.vertices.specs.declared.Plane.{Plane}
use Rattle.vertices.specs.Vertex.{past}
use Rattle.clip.specs.Clip.{kept, crossing, walked}
use Rattle.clip.proofs.Laws.{rest, rest_start, rest_on, rest_end, walked_few}

-- a walk around l at corner i, with the corners that are done
pub record Walking (p : Plane) (l done : List Vertex) (i : ℕ) : Type 0 where
  pub whole : done ++ rest p l i ≡ walked p l

pub starts : (p : Plane) (l : List Vertex) → Walking p l [] 0
starts p l = record { whole = rest_start p l }

pub ends : {p : Plane} {l done : List Vertex} {i : ℕ} → Walking p l done i → length l ≤ i → done ≡ walked p l
ends {p} {l} {done} {i} w h = sym (append-nil done) ∙ (rw (rest_end p l i h) at w.whole)

-- one edge, from corner i to the next
module _ {p : Plane} {l done : List Vertex} {i : ℕ} (w : Walking p l done i) (few : length l ≤ 28) (h : i < length l) (a b : Vertex) (ea : a ≡ get_or l i past) (eb : b ≡ get_or l (i + 1) (get_or l 0 past)) where
  opened : done ++ (kept p a ++ (crossing p a b ++ rest p l (i + 1))) ≡ walked p l
  opened =
      let r : rest p l i ≡ kept p a ++ (crossing p a b ++ rest p l (i + 1)) = rw (ea, eb) (rest_on p l past i h) in
      rw r at w.whole

  fits : length done + (length (kept p a) + length (crossing p a b)) ≤ 42
  fits = omega (arith, walked_few p l, simp length-append at (ap length opened))

  pub room_kept : length done + length (kept p a) ≤ 42
  room_kept = omega (arith, fits)

  pub room_cross : length (done ++ kept p a) + length (crossing p a b) ≤ 42
  room_cross = omega (arith, fits, length-append done (kept p a))

  pub goes : Walking p l ((done ++ kept p a) ++ crossing p a b) (i + 1)
  goes = record { whole = simp append_assoc opened }
