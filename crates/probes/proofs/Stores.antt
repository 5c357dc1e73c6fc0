-- Two pastes end to end are one, and so are a paste and the store after it. Assumes nothing.
use mathlib.Core.Path.{◌≡◌, refl, sym, ap, ◌∙◌}
use mathlib.Core.List.{List, [], ◌∷◌, ◌++◌, append_assoc}
use Prim.Native.Nat.{ℕ, suc, ◌+◌, ◌-◌, ◌≤◌, ◌<◌}
use native.Mathlib.Numerals.{add-one}
use native.Mathlib.Omega.{arith}
use borrow.Rule.Slice.PartMut.{put_mid, Post-is}
use Rattle.std.proofs.lemmas.List.Edits.{paste_all}
use lib.ListN.{length, set, take, drop, length-append}
use lib.Seq.{paste, take-paste, drop-paste, drop-drop, take_all, length-paste, set_split, append_snoc}

module _ {A : Type 0} (s : List A) (at : ℕ) (a : List A) where
  pub paste_paste : (b : List A) → at + length a + length b ≤ length s → paste (paste s at a (length a)) (at + length a) b (length b) ≡ paste s at (a ++ b) (length (a ++ b))
  paste_paste b h =
      let ta : take (length a) a ≡ a = take_all (length a) a (omega arith) in
      let t = take-paste s at a (length a) (omega arith) (omega arith) in
      let d = drop-paste s at a (length a) (omega arith) (omega arith) in
      let e : drop (at + length a + length b) (paste s at a (length a)) ≡ drop (at + length a + length b) s =
      sym (drop-drop (length b) (at + length a) (paste s at a (length a))) ∙ ap (λ (l : List A). drop (length b) l) d ∙ drop-drop (length b) (at + length a) s in
      let tb : take (length b) b ≡ b = take_all (length b) b (omega arith) in
      let tab : take (length (a ++ b)) (a ++ b) ≡ a ++ b = take_all (length (a ++ b)) (a ++ b) (omega arith) in
      let n : at + length (a ++ b) ≡ at + length a + length b = omega (arith, length-append a b) in
      rw (t, e, ta, tb, tab, n) (simp append_assoc)

  pub paste_set : (x : A) → at + length a < length s → set (paste s at a (length a)) (at + length a) x ≡ paste s at (a ++ (x ∷ [])) (length (a ++ (x ∷ [])))
  paste_set x h =
      let l : at + length a < length (paste s at a (length a)) = omega (arith, length-paste s at a (length a) (omega arith) (omega arith)) in
      set_split (paste s at a (length a)) (at + length a) x l
      ∙ rw (← append_snoc (take (at + length a) (paste s at a (length a))) x (drop (suc (at + length a)) (paste s at a (length a))), ← add-one (at + length a)) (paste_paste (x ∷ []) (omega arith))

-- a part of a list, stored over
put_is_paste : {A : Type 0} (s v : List A) (at e : ℕ) → at ≤ e → length v ≡ e - at → put_mid at (e - at) s v ≡ paste s at v (length v)
put_is_paste s v at e h l =
    let n : at + length v ≡ e = omega arith in
    rw (Post-is at e s h, ← n) (sym (paste_all s at v (length v) refl))

-- a corner's four stores, end to end
module _ {A : Type 0} (s p c t : List A) (g : A) (at : ℕ) (hp : length p ≡ 4) (hc : length c ≡ 4) (ht : length t ≡ 8) (h : at + 17 ≤ length s) where
  two : {l : List A} → l ≡ paste s at p (length p) → paste l (at + 4) c (length c) ≡ paste s at (p ++ c) (length (p ++ c))
  two e =
      let n : at + length p ≡ at + 4 = omega arith in
      rw (e, ← n) (paste_paste s at p c (omega arith))

  three : {l : List A} → l ≡ paste s at (p ++ c) (length (p ++ c)) → paste l (at + 8) t (length t) ≡ paste s at ((p ++ c) ++ t) (length ((p ++ c) ++ t))
  three e =
      let m = length-append p c in
      let n : at + length (p ++ c) ≡ at + 8 = omega arith in
      rw (e, ← n) (paste_paste s at (p ++ c) t (omega arith))

  four : {l : List A} → l ≡ paste s at ((p ++ c) ++ t) (length ((p ++ c) ++ t)) → set l (at + 16) g ≡ paste s at (((p ++ c) ++ t) ++ (g ∷ [])) (length (((p ++ c) ++ t) ++ (g ∷ [])))
  four e =
      let m = length-append p c in
      let k = length-append (p ++ c) t in
      let n : at + length ((p ++ c) ++ t) ≡ at + 16 = omega arith in
      rw (e, ← n) (paste_set s at ((p ++ c) ++ t) g (omega arith))

  pub put_parts : {s1 s2 s3 : List A} → s1 ≡ paste s at p (length p) → s2 ≡ paste s1 (at + 4) c (length c) → s3 ≡ paste s2 (at + 8) t (length t) → set s3 (at + 16) g ≡ paste s at (p ++ (c ++ (t ++ (g ∷ [])))) 17
  put_parts a b d =
      let e : (p ++ c) ++ t ++ (g ∷ []) ≡ p ++ (c ++ (t ++ (g ∷ []))) = simp append_assoc in
      let m = length-append p c in
      let k = length-append (p ++ c) t in
      let l : length (((p ++ c) ++ t) ++ (g ∷ [])) ≡ 17 = omega (arith, length-append ((p ++ c) ++ t) (g ∷ [])) in
      four (d ∙ three (b ∙ two a)) ∙ rw (l, e)

  -- as a store writes them
  pub put_mids : {x y z : List A} → x ≡ p → y ≡ c → z ≡ t
      → set (put_mid (at + 8) (at + 16 - (at + 8)) (put_mid (at + 4) (at + 8 - (at + 4)) (put_mid at (at + 4 - at) s x) y) z) (at + 16) g ≡ paste s at (p ++ (c ++ (t ++ (g ∷ [])))) 17
  put_mids ex ey ez =
      rw (ex, ey, ez)
      (put_parts (put_is_paste s p at (at + 4) (omega arith) (omega arith)) (put_is_paste (put_mid at (at + 4 - at) s p) c (at + 4) (at + 8) (omega arith) (omega arith))
      (put_is_paste (put_mid (at + 4) (at + 8 - (at + 4)) (put_mid at (at + 4 - at) s p) c) t (at + 8) (at + 16) (omega arith) (omega arith)))
