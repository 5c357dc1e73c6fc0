-- Four bytes pasted are four set; a map over an array is a table. Assumes nothing.
use mathlib.Core.Path.{◌≡◌, sym, ap, ◌∙◌}
use mathlib.Core.List.{List}
use Prim.Native.Nat.{ℕ, ◌+◌, ◌≤◌, ◌<◌}
use native.Mathlib.Omega.{arith}
use denote.Param.Members.{Mut}
use lib.ListN.{length, get_or, set}
use lib.Seq.{paste, paste-zero, ext_get_or}
use Rattle.std.specs.Fn.{Called}
use Rattle.std.specs.Array.{IsMapOf}
use Rattle.std.proofs.lemmas.List.Edits.{paste_more}
use Rattle.lists.specs.Lists.{tab}
use Rattle.lists.proofs.Tables.{length_tab, get_or_tab}

pub four_set : (cs : List ℕ) (k : ℕ) (c : List ℕ) → k + 4 ≤ length cs → length c ≡ 4
    → paste cs k c 4 ≡ set (set (set (set cs k (get_or c 0 0)) (k + 1) (get_or c 1 0)) (k + 2) (get_or c 2 0)) (k + 3) (get_or c 3 0)
four_set cs k c fits four =
    let none : k + 0 ≡ k = omega arith in
    let at = paste_more cs k c in
    let a = ap (λ l. set l k (get_or c 0 0)) (paste-zero cs k c) ∙ ap (λ i. set (paste cs k c 0) i (get_or c 0 0)) (sym none) ∙ at 0 0 (omega arith) (omega (arith, four)) in
    let b = ap (λ l. set l (k + 1) (get_or c 1 0)) a ∙ at 1 0 (omega arith) (omega (arith, four)) in
    let d = ap (λ l. set l (k + 2) (get_or c 2 0)) b ∙ at 2 0 (omega arith) (omega (arith, four)) in
    sym (ap (λ l. set l (k + 3) (get_or c 3 0)) d ∙ at 3 0 (omega arith) (omega (arith, four)))

-- what array::map makes of a function that keeps its state is a table
pub tab_map : {F A B : Type 0} (g : Mut F (A × Unit {0}) B) (f : F) (h : A → B) → ((x : A) (p q : F) (y : B) → Called g p (x, tt) y q → y ≡ h x) → (n : ℕ) (xs : List A) (ys : List B) (d : A)
    → IsMapOf g f xs ys n → ys ≡ tab n (λ i. h (get_or xs i d))
tab_map g f h each n xs ys d r =
    ext_get_or (h d) ys (tab n (λ i. h (get_or xs i d))) (r.long ∙ sym (length_tab (λ i. h (get_or xs i d)) n))
    (λ i l. made i (omega (arith, l, r.long)) ∙ sym (get_or_tab (λ i. h (get_or xs i d)) n i (h d) (omega (arith, l, r.long))))
  where
    made : (i : ℕ) → i < n → get_or ys i (h d) ≡ h (get_or xs i d)
    made i l = let k = r.at i d (h d) l in each _ k.0 k.1 _ k.2
