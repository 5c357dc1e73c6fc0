-- Stores one after the other are a copy. Assumes nothing.
use mathlib.Core.Path.{◌≡◌, sym, ap, ◌∙◌}
use mathlib.Core.List.{List}
use Prim.Native.Nat.{ℕ, ◌+◌, ◌≤◌}
use native.Mathlib.Nat.{add-zero}
use native.Mathlib.Omega.{arith}
use lib.ListN.{length, get_or, set}
use lib.Seq.{paste, paste-zero, paste-suc}

pub paste_four : {A : Type 0} (d : List A) (at : ℕ) (s : List A) (z : A) → at + 4 ≤ length d → length s ≡ 4
    → set (set (set (set d at (get_or s 0 z)) (at + 1) (get_or s 1 z)) (at + 2) (get_or s 2 z)) (at + 3) (get_or s 3 z) ≡ paste d at s 4
paste_four d at s z h n =
    let none : set (paste d at s 0) (at + 0) (get_or s 0 z) ≡ paste d at s 1 = paste-suc d at s 0 z (omega arith) (omega arith) in
    let one : set d at (get_or s 0 z) ≡ paste d at s 1 =
    ap (λ l. set l at (get_or s 0 z)) (paste-zero d at s) ∙ ap (λ i. set (paste d at s 0) i (get_or s 0 z)) (sym (add-zero at)) ∙ none in
    rw (one, paste-suc d at s 1 z (omega arith) (omega arith), paste-suc d at s 2 z (omega arith) (omega arith)) (paste-suc d at s 3 z (omega arith) (omega arith))
