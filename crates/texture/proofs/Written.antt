-- Which bytes of the store a define and a patch write, and that the others stay. Assumes nothing.
use mathlib.Core.Bool.{Bool, true, false, cond}
use mathlib.Core.Path.{◌≡◌, refl, sym, ap, ◌∙◌}
use mathlib.Core.List.{List}
use Prim.Native.Nat.{ℕ, zero, suc, ◌+◌, ◌-◌, ◌*◌, ◌≤◌, ◌<◌}
use native.Mathlib.Nat.{le_refl}
use native.Mathlib.Decide.{dec_lt}
use native.Mathlib.Omega.{arith}
use lib.Dec.{leb, eqb}
use lib.ListN.{length, get_or, drop, length-drop}
use lib.Seq.{paste, length-paste}
use borrow.Author.Tests.{leb-true, ltb-true, ltb-false, eqb-true, le-leb}
use Rattle.std.proofs.lemmas.Bool.{false≢true, true≢false}
use Rattle.lists.specs.Lists.{iter}
use Rattle.lists.proofs.Choice.{was_true, was_false}
use Rattle.lists.proofs.Rows.{row_in}
use Rattle.levels.specs.declared.MipLevel.{MipLevel}
use Rattle.levels.specs.declared.Texture.{Texture}
use Rattle.levels.specs.Levels.{level_at, level_of, size_of}
use Rattle.levels.proofs.Valid.{valid_level}
use Rattle.texture.specs.Define.{define_check, define_store, define_record, Outcome, outcome, define_of, in_run, define_writes}
use Rattle.texture.specs.Patch.{patch_check, row_place, patch_row, patch_store, Patched, patched, patch_of, in_rows, patch_writes}
use Rattle.texture.proofs.Defining.{sound, settle_done, settle_refused}
use Rattle.texture.proofs.Patching.{patch_sound, patch_done, patch_refused}
use Rattle.std.proofs.lemmas.List.{places}

-- ---- one run of n bytes at a place

is_in_run : (p n a : ℕ) → in_run p n a ≡ true → (p ≤ a) × (a < p + n)
is_in_run p n a e =
    let b = was_true (leb p a) e false≢true in
    (leb-true p a b.0, ltb-true a (p + n) b.1)

module _ (d : List ℕ) (p : ℕ) (s : List ℕ) (n : ℕ) (h : p + n ≤ length d) (i : n ≤ length s) (a : ℕ) where
  run_written : in_run p n a ≡ true → get_or (paste d p s n) a 0 ≡ get_or s (a - p) 0
  run_written e =
      let b = is_in_run p n a e in
      grind (arith, places, b)

  run_kept : in_run p n a ≡ false → get_or (paste d p s n) a 0 ≡ get_or d a 0
  run_kept e = here (dec_lt a p)
    where
      here : Dec (a < p) → get_or (paste d p s n) a 0 ≡ get_or d a 0
      here (yes k) = grind (arith, places, k)
      here (no k) =
          let l : p + n ≤ a = ltb-false a (p + n) (rw (le-leb p a (omega arith)) at e) in
          grind (arith, places, l)

-- ---- a define

module _ (s : List ℕ) (t : Texture) (k w h place : ℕ) (rgba : List ℕ) where
  pub define_done : define_check (length s) t k w h place (length rgba) ≡ 0
      → define_of s t k w h place rgba ≡ outcome 0 (define_record t k (level_at place w h)) (define_store s place rgba)
  unfolding define_of
  define_done e = settle_done (define_check (length s) t k w h place (length rgba)) t s (define_record t k (level_at place w h)) (define_store s place rgba) e

  pub define_refused : eqb (define_check (length s) t k w h place (length rgba)) 0 ≡ false
      → define_of s t k w h place rgba ≡ outcome (define_check (length s) t k w h place (length rgba)) t s
  unfolding define_of
  define_refused e = settle_refused (define_check (length s) t k w h place (length rgba)) t s (define_record t k (level_at place w h)) (define_store s place rgba) e

  room : define_check (length s) t k w h place (length rgba) ≡ 0 → place + length rgba ≤ length s
  room e = let b = sound (length s) t k w h place (length rgba) e in omega (arith, b.within, b.bytes)

  -- the store's length stays
  pub define_length : length (define_of s t k w h place rgba).store ≡ length s
  unfolding define_store
  define_length = here (eqb (define_check (length s) t k w h place (length rgba)) 0) refl
    where
      here : (b : Bool) → eqb (define_check (length s) t k w h place (length rgba)) 0 ≡ b → length (define_of s t k w h place rgba).store ≡ length s
      here true e =
          let z = eqb-true (define_check (length s) t k w h place (length rgba)) 0 e in
          ap (λ (o : Outcome). length o.store) (define_done z) ∙ length-paste s place rgba (length rgba) (room z) (le_refl (length rgba))
      here false e = ap (λ (o : Outcome). length o.store) (define_refused e)

  -- a byte that it writes is the image's
  pub define_inside : (a : ℕ) → define_writes (length s) t k w h place (length rgba) a ≡ true
      → get_or (define_of s t k w h place rgba).store a 0 ≡ get_or rgba (a - place) 0
  unfolding define_writes define_store
  define_inside a e =
      let b = was_true (eqb (define_check (length s) t k w h place (length rgba)) 0) e false≢true in
      let z = eqb-true (define_check (length s) t k w h place (length rgba)) 0 b.0 in
      ap (λ (o : Outcome). get_or o.store a 0) (define_done z) ∙ run_written s place rgba (length rgba) (room z) (le_refl (length rgba)) a b.1

  -- every other byte stays
  pub define_outside : (a : ℕ) → define_writes (length s) t k w h place (length rgba) a ≡ false
      → get_or (define_of s t k w h place rgba).store a 0 ≡ get_or s a 0
  unfolding define_writes define_store
  define_outside a e = here (eqb (define_check (length s) t k w h place (length rgba)) 0) refl e
    where
      here : (b : Bool) → eqb (define_check (length s) t k w h place (length rgba)) 0 ≡ b → cond b (in_run place (length rgba) a) false ≡ false
          → get_or (define_of s t k w h place rgba).store a 0 ≡ get_or s a 0
      here true q e =
          let z = eqb-true (define_check (length s) t k w h place (length rgba)) 0 q in
          ap (λ (o : Outcome). get_or o.store a 0) (define_done z) ∙ run_kept s place rgba (length rgba) (room z) (le_refl (length rgba)) a e
      here false q e = ap (λ (o : Outcome). get_or o.store a 0) (define_refused q)

-- ---- the rows of a patch

-- a rectangle within its level, with enough bytes for it
record Placed (m : MipLevel) (x y w h : ℕ) (patch : List ℕ) : Type 0 where
  right : x + w ≤ m.width
  bottom : y + h ≤ m.height
  bytes : h * (w * 4) ≤ length patch

module _ (m : MipLevel) (x y w h : ℕ) (patch : List ℕ) (p : Placed m x y w h patch) where
  row_room : (r : ℕ) → r < h → row_place m x y r + w * 4 ≤ m.place + size_of m
  unfolding row_place size_of
  row_room r k = omega (arith, row_in (y + r) m.height m.width x w (omega (arith, p.bottom)) p.right)

  row_bytes_are : (r : ℕ) → r < h → w * 4 ≤ length (drop (r * (w * 4)) patch)
  row_bytes_are r k = simp length-drop (omega (arith, p.bytes, row_in r h (w * 4) 0 (w * 4) k (omega arith)))

  rows_length : (s : List ℕ) → m.place + size_of m ≤ length s → (r : ℕ) → r ≤ h → length (iter r (patch_row m x y w patch) s) ≡ length s
  unfolding iter patch_row
  rows_length s q zero k = refl
  rows_length s q (suc r) k =
      let e = rows_length s q r (omega arith) in
      length-paste (iter r (patch_row m x y w patch) s) (row_place m x y r) (drop (r * (w * 4)) patch) (w * 4)
      (omega (arith, row_room r (omega arith))) (row_bytes_are r (omega arith)) ∙ e

  rows_outside : (s : List ℕ) → m.place + size_of m ≤ length s → (a r : ℕ) → r ≤ h → in_rows m x y w r a ≡ false
      → get_or (iter r (patch_row m x y w patch) s) a 0 ≡ get_or s a 0
  unfolding iter in_rows patch_row
  rows_outside s q a zero k e = refl
  rows_outside s q a (suc r) k e =
      let b = was_false (in_run (row_place m x y r) (w * 4) a) e true≢false in
      let l = rows_length s q r (omega arith) in
      run_kept (iter r (patch_row m x y w patch) s) (row_place m x y r) (drop (r * (w * 4)) patch) (w * 4)
      (omega (arith, row_room r (omega arith))) (row_bytes_are r (omega arith)) a b.0
      ∙ rows_outside s q a r (omega arith) b.1

  -- a byte of a row does not depend on the store
  rows_alike : (s s' : List ℕ) → m.place + size_of m ≤ length s → m.place + size_of m ≤ length s' → (a r : ℕ) → r ≤ h → in_rows m x y w r a ≡ true
      → get_or (iter r (patch_row m x y w patch) s) a 0 ≡ get_or (iter r (patch_row m x y w patch) s') a 0
  unfolding iter in_rows patch_row
  rows_alike s s' q q' a zero k e = absurd (false≢true e)
  rows_alike s s' q q' a (suc r) k e =
      here (λ f. rows_alike s s' q q' a r (omega arith) f) (in_run (row_place m x y r) (w * 4) a) refl e
    where
      d : List ℕ
      d = iter r (patch_row m x y w patch) s

      d' : List ℕ
      d' = iter r (patch_row m x y w patch) s'

      here : (in_rows m x y w r a ≡ true → get_or d a 0 ≡ get_or d' a 0)
          → (b : Bool) → in_run (row_place m x y r) (w * 4) a ≡ b → cond b true (in_rows m x y w r a) ≡ true
          → get_or (paste d (row_place m x y r) (drop (r * (w * 4)) patch) (w * 4)) a 0 ≡ get_or (paste d' (row_place m x y r) (drop (r * (w * 4)) patch) (w * 4)) a 0
      here f true c e =
          let l = rows_length s q r (omega arith) in
          let l' = rows_length s' q' r (omega arith) in
          run_written d (row_place m x y r) (drop (r * (w * 4)) patch) (w * 4) (omega (arith, row_room r (omega arith))) (row_bytes_are r (omega arith)) a c
          ∙ sym (run_written d' (row_place m x y r) (drop (r * (w * 4)) patch) (w * 4) (omega (arith, row_room r (omega arith))) (row_bytes_are r (omega arith)) a c)
      here f false c e =
          let l = rows_length s q r (omega arith) in
          let l' = rows_length s' q' r (omega arith) in
          run_kept d (row_place m x y r) (drop (r * (w * 4)) patch) (w * 4) (omega (arith, row_room r (omega arith))) (row_bytes_are r (omega arith)) a c
          ∙ f e
          ∙ sym (run_kept d' (row_place m x y r) (drop (r * (w * 4)) patch) (w * 4) (omega (arith, row_room r (omega arith))) (row_bytes_are r (omega arith)) a c)

-- ---- a patch

module _ (t : Texture) (k x y w h : ℕ) (patch : List ℕ) where
  abbrev check : List ℕ → ℕ
  check s = patch_check (length s) t k x y w h (length patch)

  pub patch_effect : (s : List ℕ) → check s ≡ 0 → patch_of s t k x y w h patch ≡ patched 0 (patch_store (level_of t k) x y w h patch s)
  unfolding patch_of
  patch_effect s e = patch_done (check s) s (patch_store (level_of t k) x y w h patch s) e

  pub patch_none : (s : List ℕ) → eqb (check s) 0 ≡ false → patch_of s t k x y w h patch ≡ patched (check s) s
  unfolding patch_of
  patch_none s e = patch_refused (check s) s (patch_store (level_of t k) x y w h patch s) e

  placed : (s : List ℕ) → check s ≡ 0 → Placed (level_of t k) x y w h patch
  placed s e = let b = patch_sound (length s) t k x y w h (length patch) e in record { right = b.right; bottom = b.bottom; bytes = b.bytes }

  level_room : (s : List ℕ) → check s ≡ 0 → (level_of t k).place + size_of (level_of t k) ≤ length s
  level_room s e = let b = patch_sound (length s) t k x y w h (length patch) e in (valid_level (length s) t b.valid k b.kept).within

  -- the store's length stays
  pub patch_length : (s : List ℕ) → length (patch_of s t k x y w h patch).store ≡ length s
  unfolding patch_store
  patch_length s = here (eqb (check s) 0) refl
    where
      here : (b : Bool) → eqb (check s) 0 ≡ b → length (patch_of s t k x y w h patch).store ≡ length s
      here true e =
          let z = eqb-true (check s) 0 e in
          ap (λ (o : Patched). length o.store) (patch_effect s z)
          ∙ rows_length (level_of t k) x y w h patch (placed s z) s (level_room s z) h (le_refl h)
      here false e = ap (λ (o : Patched). length o.store) (patch_none s e)

  -- a byte that it writes is the same whatever the store held: over two stores of one length
  pub patch_inside : (s s' : List ℕ) → length s ≡ length s' → (a : ℕ) → patch_writes (length s) t k x y w h (length patch) a ≡ true
      → get_or (patch_of s t k x y w h patch).store a 0 ≡ get_or (patch_of s' t k x y w h patch).store a 0
  unfolding patch_writes patch_store
  patch_inside s s' n a e =
      let b = was_true (eqb (check s) 0) e false≢true in
      let z = eqb-true (check s) 0 b.0 in
      let z' : check s' ≡ 0 = ap (λ (j : ℕ). patch_check j t k x y w h (length patch)) (sym n) ∙ z in
      ap (λ (o : Patched). get_or o.store a 0) (patch_effect s z)
      ∙ rows_alike (level_of t k) x y w h patch (placed s z) s s' (level_room s z) (level_room s' z') a h (le_refl h) b.1
      ∙ sym (ap (λ (o : Patched). get_or o.store a 0) (patch_effect s' z'))

  -- every other byte stays
  pub patch_outside : (s : List ℕ) (a : ℕ) → patch_writes (length s) t k x y w h (length patch) a ≡ false
      → get_or (patch_of s t k x y w h patch).store a 0 ≡ get_or s a 0
  unfolding patch_writes patch_store
  patch_outside s a e = here (eqb (check s) 0) refl e
    where
      here : (b : Bool) → eqb (check s) 0 ≡ b → cond b (in_rows (level_of t k) x y w h a) false ≡ false
          → get_or (patch_of s t k x y w h patch).store a 0 ≡ get_or s a 0
      here true q e =
          let z = eqb-true (check s) 0 q in
          ap (λ (o : Patched). get_or o.store a 0) (patch_effect s z)
          ∙ rows_outside (level_of t k) x y w h patch (placed s z) s (level_room s z) a h (le_refl h) e
      here false q e = ap (λ (o : Patched). get_or o.store a 0) (patch_none s q)
