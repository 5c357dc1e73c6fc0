-- Guests that pass the test keep to the plan that it makes of what they bring. Assumes nothing.
use mathlib.Core.Path.{◌≡◌, refl, sym, ap, ◌∙◌, subst}
use mathlib.Core.Logic.{inl, inr, ◌≢◌}
use mathlib.Core.Bool.{Bool, true, false, cond, ◌&&◌, ◌||◌}
use mathlib.Core.Option.{Option, none, some}
use mathlib.Core.List.{List, [], ◌∷◌}
use Prim.Native.Nat.{ℕ, zero, suc, ◌+◌, ◌%◌, ◌/◌, ◌<◌, ◌≤◌}
use native.Mathlib.Decide.{dec_lt}
use native.Mathlib.Omega.{arith}
use lib.Dec.{eqb, leb, ltb}
use lib.ListN.{length, get_or, get_or-eq_default}
use borrow.Author.Tests.{eqb-true, leb-true, ltb-true}
use Rattle.lists.specs.Lists.{any, all}
use Rattle.std.proofs.lemmas.Bool.{false≢true, and_parts, and_from, or_left, or_right, false_from_ne_true}
use Rattle.lists.proofs.Members.{all_get_d}
use Rattle.std.specs.Prelude as Std
use Rattle.settings.specs.declared.ScissorBox.{ScissorBox}
use Rattle.scissor.specs.declared.PixelBox.{PixelBox}
use Rattle.scissor.specs.Scissor.{bounds_of, in_bounds, in_box, pixel_in}
use Rattle.scissor.proofs.Boxes.{span, in_span, to_span, bounds_are}
use Rattle.levels.specs.declared.MipLevel.{MipLevel}
use Rattle.levels.specs.Levels.{absent, levels_of, level_of, size_of}
use Rattle.texture.specs.Define.{in_run}
use Rattle.draw_checks.specs.Checks.{all_below}
use Rattle.draw_checks.proofs.Below.{below_at}
use Rattle.isolation.specs.Machine.{Guest, In, Own}
use Rattle.guests.specs.Calls.{Shared}
use Rattle.guests.specs.Guests.{clear_color, clear_depth, draw, define_level, patch_level, set_parameter, new_record, InBox, InWindow}
use Rattle.guest_draws.specs.Draw.{names_of, drawing, scissor_of}
use Rattle.guest_draws.specs.EveryCall.{GuestCall}
use Rattle.orders.specs.Plans.{Plan, admitted, Names, Changes, Fills, InLevel, Tidy, Fair, Ready}
use Rattle.orders.specs.Tests.{Part, Entry, no_guest, entry_at, first, has_byte, plan_of, calls_of, inside_of, outside_of, lies_in, covered, clear_of, untouched, parts_apart, is_own, may_use, level_test, tidy_test, box_test, own_test, use_test, call_test, turn_test, pair_test, may_start, Yes}
use Rattle.orders.proofs.Regions.{is_in_run, run_in}
use Rattle.orders.proofs.Plans.{one_for_all}

-- ---- lists

module _ {A : Type 0} (f : A → Bool) where
  all_in : (l : List A) → all f l ≡ true → (a : A) → In a l → f a ≡ true
  all_in [] e a i = absurd i
  all_in (x ∷ l) e a (inl q) = ap f q ∙ (and_parts (f x) (all f l) e).0
  all_in (x ∷ l) e a (inr i) = all_in l (and_parts (f x) (all f l) e).1 a i

  any_in : (C : Type 0) (l : List A) → any f l ≡ true → ((a : A) → In a l → f a ≡ true → C) → C
  any_in C [] e k = absurd (false≢true e)
  any_in C (x ∷ l) e k = go (f x) refl e (any_in C l)
    where
      go : (b : Bool) → f x ≡ b → (b || any f l) ≡ true → (any f l ≡ true → ((a : A) → In a l → f a ≡ true → C) → C) → C
      go true q z r = k x (inl refl) q
      go false q z r = r z (λ a i. k a (inr i))

  in_any : (l : List A) (a : A) → In a l → f a ≡ true → any f l ≡ true
  in_any [] a i e = absurd i
  in_any (x ∷ l) a (inl q) e = or_left (f x) (any f l) (ap f (sym q) ∙ e)
  in_any (x ∷ l) a (inr i) e = or_right (f x) (any f l) (in_any l a i e)

  module _ (d : A) where
    first_at : (l : List A) (i k : ℕ) → i < length l → f (get_or l i d) ≡ true → ((j : ℕ) → j < i → f (get_or l j d) ≡ false) → first f k l ≡ some (k + i)
    unfolding first
    first_at [] i k h e o = absurd (omega arith)
    first_at (x ∷ l) zero k h e o = rw e (ap some (omega arith))
    first_at (x ∷ l) (suc i) k h e o =
        rw (o 0 (omega arith)) (first_at l i (k + 1) (omega arith) e (λ j z. o (suc j) (omega arith)) ∙ ap some (omega arith))

    first_none : (l : List A) (k : ℕ) → ((j : ℕ) → j < length l → f (get_or l j d) ≡ false) → first f k l ≡ none
    unfolding first
    first_none [] k o = refl
    first_none (x ∷ l) k o = rw (o 0 (omega arith)) (first_none l (k + 1) (λ j z. o (suc j) (omega arith)))

-- ---- boxes

inside_sound : (a b : Std.Option PixelBox) (c r : ℕ) → inside_of a b ≡ true → in_bounds a c r ≡ true → in_bounds b c r ≡ true
inside_sound Std.None b c r e h = absurd (false≢true h)
inside_sound (Std.Some a) Std.None c r e h = absurd (false≢true e)
inside_sound (Std.Some a) (Std.Some b) c r e h =
    let p = and_parts (leb b.x0 a.x0 && leb a.x1 b.x1) (leb b.y0 a.y0 && leb a.y1 b.y1) e in
    let x = and_parts (leb b.x0 a.x0) (leb a.x1 b.x1) p.0 in
    let y = and_parts (leb b.y0 a.y0) (leb a.y1 b.y1) p.1 in
    let q = and_parts (span a.x0 a.x1 c) (span a.y0 a.y1 r) h in
    let u = in_span a.x0 a.x1 c q.0 in
    let v = in_span a.y0 a.y1 r q.1 in
    and_from _ _ (to_span b.x0 b.x1 c (omega (arith, leb-true b.x0 a.x0 x.0, u.0)) (omega (arith, leb-true a.x1 b.x1 x.1, u.1)))
    (to_span b.y0 b.y1 r (omega (arith, leb-true b.y0 a.y0 y.0, v.0)) (omega (arith, leb-true a.y1 b.y1 y.1, v.1)))

outside_sound : (a b : Std.Option PixelBox) (c r : ℕ) → outside_of a b ≡ true → in_bounds a c r ≡ true → in_bounds b c r ≡ true → ⊥
outside_sound Std.None b c r e h k = false≢true h
outside_sound (Std.Some a) Std.None c r e h k = false≢true k
outside_sound (Std.Some a) (Std.Some b) c r e h k =
    let q = and_parts (span a.x0 a.x1 c) (span a.y0 a.y1 r) h in
    let u = in_span a.x0 a.x1 c q.0 in
    let v = in_span a.y0 a.y1 r q.1 in
    let p = and_parts (span b.x0 b.x1 c) (span b.y0 b.y1 r) k in
    let w = in_span b.x0 b.x1 c p.0 in
    let z = in_span b.y0 b.y1 r p.1 in
    go u v w z (leb a.x1 b.x0) (leb b.x1 a.x0) (leb a.y1 b.y0) (leb b.y1 a.y0) refl refl refl refl e
  where
    go : (a.x0 ≤ c) × (c < a.x1) → (a.y0 ≤ r) × (r < a.y1) → (b.x0 ≤ c) × (c < b.x1) → (b.y0 ≤ r) × (r < b.y1)
        → (i j m n : Bool) → leb a.x1 b.x0 ≡ i → leb b.x1 a.x0 ≡ j → leb a.y1 b.y0 ≡ m → leb b.y1 a.y0 ≡ n → cond i true (cond j true (cond m true n)) ≡ true → ⊥
    go u v w z true j m n p q s t o = omega (arith, leb-true a.x1 b.x0 p, u.1, w.0)
    go u v w z false true m n p q s t o = omega (arith, leb-true b.x1 a.x0 q, w.1, u.0)
    go u v w z false false true n p q s t o = omega (arith, leb-true a.y1 b.y0 s, v.1, z.0)
    go u v w z false false false true p q s t o = omega (arith, leb-true b.y1 a.y0 t, z.1, v.0)
    go u v w z false false false false p q s t o = false≢true o

-- a pixel of the cut box
bounded : (w h : ℕ) (b : Std.Option ScissorBox) (p : ℕ) → pixel_in w h b p ≡ true → in_bounds (bounds_of w h b) (p % w) (p / w) ≡ true
bounded w h b p e = bounds_are w h b (p % w) (p / w) ∙ e

-- ---- parts of the store

covered_has : (l : List Part) (place n b : ℕ) → covered l place n ≡ true → in_run place n b ≡ true → has_byte l b ≡ true
unfolding covered has_byte
covered_has l place n b e i = go (eqb n 0) refl e
  where
    z : (place ≤ b) × (b < place + n)
    z = run_in place n b i

    go : (t : Bool) → eqb n 0 ≡ t → cond t true (any (lies_in place n) l) ≡ true → any (λ r. in_run r.place r.size b) l ≡ true
    go true q k = absurd (omega (arith, eqb-true n 0 q, z.0, z.1))
    go false q k = any_in _ _ l k (λ r j o. in_any _ l r j
        (let p = and_parts (leb r.place place) (leb (place + n) (r.place + r.size)) o in
        is_in_run r.place r.size b (omega (arith, leb-true r.place place p.0, z.0)) (omega (arith, leb-true (place + n) (r.place + r.size) p.1, z.1))))

untouched_not : (l : List Part) (place n b : ℕ) → untouched l place n ≡ true → in_run place n b ≡ true → has_byte l b ≡ true → ⊥
unfolding untouched has_byte
untouched_not l place n b e i o = go (eqb n 0) refl e
  where
    z : (place ≤ b) × (b < place + n)
    z = run_in place n b i

    off : (r : Part) → clear_of place n r ≡ true → in_run r.place r.size b ≡ true → ⊥
    off r k q = start (run_in r.place r.size b q) (eqb r.size 0) refl k
      where
        pick : (r.place ≤ b) × (b < r.place + r.size) → (t : Bool) → leb (place + n) r.place ≡ t → cond t true (leb (r.place + r.size) place) ≡ true → ⊥
        pick y true p m = omega (arith, leb-true (place + n) r.place p, z.1, y.0)
        pick y false p m = omega (arith, leb-true (r.place + r.size) place m, z.0, y.1)

        start : (r.place ≤ b) × (b < r.place + r.size) → (t : Bool) → eqb r.size 0 ≡ t
            → cond t true (cond (leb (place + n) r.place) true (leb (r.place + r.size) place)) ≡ true → ⊥
        start y true p m = omega (arith, eqb-true r.size 0 p, y.0, y.1)
        start y false p m = pick y (leb (place + n) r.place) refl m

    go : (t : Bool) → eqb n 0 ≡ t → cond t true (all (clear_of place n) l) ≡ true → ⊥
    go true q k = omega (arith, eqb-true n 0 q, z.0, z.1)
    go false q k = any_in _ ⊥ l o (λ r j x. off r (all_in _ l k r j) x)

apart_sound : (l m : List Part) (b : ℕ) → parts_apart l m ≡ true → has_byte l b ≡ true → has_byte m b ≡ true → ⊥
unfolding has_byte
apart_sound l m b e h k = any_in _ ⊥ l h (λ r j x. untouched_not m r.place r.size b (all_in _ l e r j) x k)

-- ---- owners

owner_g : (g : Guest) (o : Option Guest) → is_own g o ≡ true → o ≡ some g
owner_g g none e = absurd (false≢true e)
owner_g g (some h) e = ap some (eqb-true h g e)

usable : (g : Guest) (o : Option Guest) → may_use g o ≡ true → Own g o
usable g none e = tt
usable g (some h) e = eqb-true h g e

own_mine : (g : Guest) (o : Option Guest) → o ≡ some g → Own g o
own_mine g o e = subst (λ (x : Option Guest). Own g x) (sym e) refl

-- no pixel is in the window of no guest
no_pixel : (w h p : ℕ) → pixel_in w h (Std.Some no_guest.window) p ≡ true → ⊥
unfolding in_box
no_pixel w h p e =
    let a = (and_parts (ltb (p % w) w && ltb (p / w) h) _ e).1 in
    let b = (and_parts (leb 0 (p % w) && ltb (p % w) 0) _ a).0 in
    omega (arith, ltb-true (p % w) 0 (and_parts (leb 0 (p % w)) (ltb (p % w) 0) b).1)

no_byte : (b : ℕ) → has_byte [] b ≡ true → ⊥
unfolding has_byte
no_byte b e = false≢true e

untouched_none : (place n : ℕ) → untouched [] place n ≡ true
unfolding untouched
untouched_none place n = go (eqb n 0)
  where
    go : (t : Bool) → cond t true true ≡ true
    go true = refl
    go false = refl

picked : (b : Bool) {x : Bool} → b ≡ true → cond b x true ≡ true → x ≡ true
picked true q e = e
picked false q e = absurd (false≢true q)

absent_passes : (guests : List Entry) (o : Option Guest) → level_test guests o absent ≡ true
absent_passes guests none = refl
absent_passes guests (some h) = refl

module _ (guests : List Entry) (s : Shared) (passed : may_start guests s ≡ true) where
  abbrev plan : Plan
  plan = plan_of guests

  parted : (all_below (length guests) (λ h. all_below h (λ g. pair_test guests s g h)) ≡ true) × (all_below (length guests) (λ g. all (turn_test guests s g) (calls_of guests g)) ≡ true)
  unfolding may_start
  parted = and_parts _ _ passed

  pair : (g h : Guest) → g < h → h < length guests → pair_test guests s g h ≡ true
  pair g h a b = below_at (λ i. pair_test guests s i h) h (below_at (λ j. all_below j (λ i. pair_test guests s i j)) (length guests) parted.0 h b) g a

  past : (g : Guest) → (g < length guests → ⊥) → entry_at guests g ≡ no_guest
  past g n = get_or-eq_default guests no_guest (omega arith)

  -- ---- windows

  abbrev boxes : Guest → Std.Option PixelBox
  boxes g = bounds_of s.width s.height (Std.Some (entry_at guests g).window)

  windows_apart : (g h : Guest) → g < h → h < length guests → (p : ℕ) → InWindow plan.window s.width s.height g p → InWindow plan.window s.width s.height h p → ⊥
  windows_apart g h a b p x y =
      outside_sound (boxes g) (boxes h) (p % s.width) (p / s.width) (and_parts (outside_of (boxes g) (boxes h)) (parts_apart (entry_at guests g).parts (entry_at guests h).parts) (pair g h a b)).0
      (bounded s.width s.height (Std.Some (entry_at guests g).window) p x) (bounded s.width s.height (Std.Some (entry_at guests h).window) p y)

  in_list : (g : Guest) (p : ℕ) → InWindow plan.window s.width s.height g p → g < length guests
  in_list g p x = go (dec_lt g (length guests))
    where
      go : Dec (g < length guests) → g < length guests
      go (yes h) = h
      go (no n) = absurd (no_pixel s.width s.height p (rw (past g n) at x))

  disjoint : (g h : Guest) → g ≢ h → (p : ℕ) → InWindow plan.window s.width s.height g p → InWindow plan.window s.width s.height h p → ⊥
  disjoint g h ne p x y = go (dec_lt g h)
    where
      go : Dec (g < h) → ⊥
      go (yes a) = windows_apart g h a (in_list h p y) p x y
      go (no a) = windows_apart h g (other a) (in_list g p x) p y x
        where
          other : (g < h → ⊥) → h < g
          other n = flip (dec_lt h g)
            where
              flip : Dec (h < g) → h < g
              flip (yes k) = k
              flip (no k) = absurd (ne (omega arith))

  -- ---- bytes

  byte_in_list : (g : Guest) (b : ℕ) → has_byte (entry_at guests g).parts b ≡ true → g < length guests
  byte_in_list g b x = go (dec_lt g (length guests))
    where
      go : Dec (g < length guests) → g < length guests
      go (yes h) = h
      go (no n) = absurd (no_byte b (rw (past g n) at x))

  owner_is : (g : Guest) (b : ℕ) → has_byte (entry_at guests g).parts b ≡ true → plan.byte b ≡ some g
  owner_is g b x =
      first_at (λ e. has_byte e.parts b) no_guest guests g 0 (byte_in_list g b x) x
      (λ j z. false_from_ne_true _ (λ k. apart_sound (entry_at guests j).parts (entry_at guests g).parts b (and_parts (outside_of (boxes j) (boxes g)) (parts_apart (entry_at guests j).parts (entry_at guests g).parts) (pair j g z (byte_in_list g b x))).1 k x))
      ∙ ap some (omega arith)

  level_sound : (o : Option Guest) (m : MipLevel) (b : ℕ) → level_test guests o m ≡ true → InLevel m b → plan.byte b ≡ o
  level_sound none m b e i =
      first_none (λ y. has_byte y.parts b) no_guest guests 0
      (λ j z. false_from_ne_true _ (λ k. untouched_not (entry_at guests j).parts m.place (size_of m) b
      (all_get_d (λ y. untouched y.parts m.place (size_of m)) no_guest guests (picked m.present i.0 e) (untouched_none m.place (size_of m)) j) i.1 k))
  level_sound (some h) m b e i = owner_is h b (covered_has (entry_at guests h).parts m.place (size_of m) b (picked m.present i.0 e) i.1)

  tidy_sound : (n : ℕ) → tidy_test guests s n ≡ true → Tidy plan n (s.textures n)
  unfolding tidy_test level_of
  tidy_sound n e k b i =
      level_sound (plan.name n) (get_or (levels_of (s.textures n).levels) k absent) b
      (all_get_d (level_test guests (plan.name n)) absent (levels_of (s.textures n).levels) e (absent_passes guests (plan.name n)) k) i

  -- ---- one call

  box_sound : (g : Guest) (b : Std.Option ScissorBox) → box_test guests s g b ≡ true → (p : ℕ) → pixel_in s.width s.height b p ≡ true → InWindow plan.window s.width s.height g p
  box_sound g b e p i =
      sym (bounds_are s.width s.height (Std.Some (entry_at guests g).window) (p % s.width) (p / s.width))
      ∙ inside_sound (bounds_of s.width s.height b) (boxes g) (p % s.width) (p / s.width) e (bounded s.width s.height b p i)

  -- a name that is the guest's own
  own_name : (g : Guest) (n : ℕ) → own_test guests s g n ≡ true → (m : ℕ) → m ≡ n → plan.name m ≡ some g
  own_name g n e m q = ap plan.name q ∙ owner_g g (plan.name n) (and_parts (is_own g (plan.name n)) (tidy_test guests s n) e).0

  own_tidy : (g : Guest) (n : ℕ) → own_test guests s g n ≡ true → (m : ℕ) → m ≡ n → Tidy plan m (s.textures m)
  own_tidy g n e m q = subst (λ (k : ℕ). Tidy plan k (s.textures k)) (sym q) (tidy_sound n (and_parts (is_own g (plan.name n)) (tidy_test guests s n) e).1)

  clear_fair : (g : Guest) (c : GuestCall) → ((p : ℕ) → InBox drawing scissor_of s.width s.height c p → InWindow plan.window s.width s.height g p)
      → ((n : ℕ) → Names c n → ⊥) → ((n : ℕ) → Changes c n → ⊥) → ((b : ℕ) → Fills c b → ⊥) → Fair plan s g c
  clear_fair g c f x y z = record { boxed = f; named = λ n i. absurd (x n i); tidy = λ n i. absurd (x n i); changed = λ n i. absurd (y n i); filled = λ b i. absurd (z b i) }

  call_sound : (g : Guest) (c : GuestCall) → call_test guests s g c ≡ true → Fair plan s g c
  call_sound g (clear_color b rgba) e = clear_fair g (clear_color b rgba) (box_sound g b e) (λ n x. x) (λ n x. x) (λ n x. x)
  call_sound g (clear_depth b v) e = clear_fair g (clear_depth b v) (box_sound g b e) (λ n x. x) (λ n x. x) (λ n x. x)
  call_sound g (draw x) e =
      let a = and_parts (box_test guests s g (scissor_of x)) (all (use_test guests s g) (names_of x)) e in
      record {
        boxed = box_sound g (scissor_of x) a.0;
        named = λ n i. usable g (plan.name n) (and_parts (may_use g (plan.name n)) (tidy_test guests s n) (all_in (use_test guests s g) (names_of x) a.1 n i)).0;
        tidy = λ n i. tidy_sound n (and_parts (may_use g (plan.name n)) (tidy_test guests s n) (all_in (use_test guests s g) (names_of x) a.1 n i)).1;
        changed = λ n i. absurd i;
        filled = λ b i. absurd i;
      }
  call_sound g (define_level n k w h place rgba) e =
      let a = and_parts (own_test guests s g n) (covered (entry_at guests g).parts place (length rgba)) e in
      record {
        boxed = λ p i. absurd i;
        named = λ m q. own_mine g (plan.name m) (own_name g n a.0 m q);
        tidy = own_tidy g n a.0;
        changed = own_name g n a.0;
        filled = λ b i. owner_is g b (covered_has (entry_at guests g).parts place (length rgba) b a.1 i);
      }
  call_sound g (patch_level n k x y w h rgba) e =
      record { boxed = λ p i. absurd i; named = λ m q. own_mine g (plan.name m) (own_name g n e m q); tidy = own_tidy g n e; changed = own_name g n e; filled = λ b i. absurd i }
  call_sound g (set_parameter n code value) e =
      record { boxed = λ p i. absurd i; named = λ m q. own_mine g (plan.name m) (own_name g n e m q); tidy = own_tidy g n e; changed = own_name g n e; filled = λ b i. absurd i }
  call_sound g (new_record n) e =
      record { boxed = λ p i. absurd i; named = λ m q. absurd q; tidy = λ m q. absurd q; changed = λ m q. ap plan.name q ∙ owner_g g (plan.name n) e; filled = λ b i. absurd i }

  fair : (g : Guest) (c : GuestCall) → In c (calls_of guests g) → admitted s c ≡ true → Fair plan s g c
  fair g c i a = go (dec_lt g (length guests))
    where
      go : Dec (g < length guests) → Fair plan s g c
      go (yes h) = call_sound g c (rw a at (all_in (turn_test guests s g) (calls_of guests g) (below_at (λ k. all (turn_test guests s k) (calls_of guests k)) (length guests) parted.1 g h) c i))
      go (no n) = absurd (subst (λ (e : Entry). In c e.calls) (past g n) i)

  pub ready : Ready plan (calls_of guests) s
  ready = record { disjoint = disjoint; fair = fair }

-- A YES
pub yes_any_order : Yes
yes_any_order guests s e = one_for_all (plan_of guests) (calls_of guests) s (ready guests s e)
