-- The rest of a record put behind its levels. Assumes nothing.
use mathlib.Core.Path.{◌≡◌, sym, ◌∙◌}
use mathlib.Core.List.{List, [], ◌++◌, append-nil}
use Prim.Native.Nat.{ℕ, ◌+◌}
use native.Mathlib.Omega.{arith}
use lib.ListN.{length, take, drop, drop_of_length-le}
use lib.Seq.{paste, take_at, take-length, drop-append-add, drop-drop}

-- r fills what is left of d behind p
pub filled : {A : Type 0} (p d r : List A) (n : ℕ) → length p ≡ n → length d ≡ n + length r → paste (p ++ drop n d) n r (length r) ≡ p ++ r
filled p d r n e f =
    let t : take n (p ++ drop n d) ≡ p = take_at p (drop n d) n e in
    let u : drop (n + length r) (p ++ drop n d) ≡ [] =
    rw (sym e) (drop-append-add p (drop (length p) d) (length r) ∙ drop-drop (length r) (length p) d ∙ drop_of_length-le d {i = length p + length r} (omega arith)) in
    rw (t, take-length r, u) (append-nil (p ++ r))
