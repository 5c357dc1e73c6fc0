-- The two clears keep the laws of a call: what they leave at a pixel hangs on that pixel and the sizes. Assumes nothing.
use Rattle.lists.proofs.Choice.{neither}
use Rattle.std.specs.Prelude.{Option}
use mathlib.Core.Path.{◌≡◌, refl, sym, ◌∙◌, subst}
use mathlib.Core.Logic.{inl, inr}
use mathlib.Core.Bool.{Bool, true, false, cond, not, true≢false}
use mathlib.Core.List.{List}
use Prim.Native.Nat.{ℕ, ◌/◌, ◌%◌, ◌<◌}
use native.Mathlib.Decide.{dec_lt}
use native.Mathlib.Omega.{arith}
use lib.Dec.{eqb}
use lib.ListN.{length, get_or, get_or-eq_default}
use lib.Ieee.{Float, nan}
use Rattle.lists.proofs.Tables.{length_tab, get_or_tab}
use Rattle.settings.specs.declared.ScissorBox.{ScissorBox}
use Rattle.scissor.specs.Scissor.{pixel_in}
use Rattle.scissor.specs.Check.{target_fits}
use Rattle.render_target.specs.Clear.{clear_color_check, clear_depth_check, cleared_of, clear_color_of, clear_depth_of}
use Rattle.isolation.specs.Machine.{Act, Agree, Alike, Guest}
use Rattle.isolation.specs.Acts.{check, Uses}
use Rattle.frames.specs.State.{SameSizes, Place, sizes, pixel, byte, texture, Same, places, Answer, done, refused}
use Rattle.frames.specs.Windows.{Owed}
use Rattle.frames.proofs.Pixels.{pixel_is_of, byte_of, at_depth}
use Rattle.frames.proofs.Calls.{KeptOn, check_kept, owed_by}
use Rattle.guests.specs.Calls.{Shared, answer_of, with_colors, with_depths, clear_color_number, clear_depth_number, BoxReads, box_writes}
use Rattle.guests.specs.Guests.{Call, clear_color, clear_depth, meaning, InBox, InWindow, bad_target}
use Rattle.guests.proofs.Choices.{chosen, left, same, JustSizes}

-- ---- what a clear leaves at an index

module _ {A : Type 0} (k : ℕ) (v : ℕ → A) (z : A) (width height : ℕ) (b : Option ScissorBox) where
  pub length_cleared : (l : List A) → length (cleared_of k v z width height b l) ≡ length l
  unfolding cleared_of
  length_cleared l = length_tab _ (length l)

  -- an element of no pixel in the box stays
  pub cleared_out : (l : List A) (i : ℕ) → pixel_in width height b (i / k) ≡ false → get_or (cleared_of k v z width height b l) i z ≡ get_or l i z
  cleared_out l i e = go (dec_lt i (length l))
    where
      go : Dec (i < length l) → get_or (cleared_of k v z width height b l) i z ≡ get_or l i z
      go (yes h) = unfold cleared_of in (get_or_tab _ (length l) i z h ∙ rw e refl)
      go (no h) = get_or-eq_default (cleared_of k v z width height b l) z (rw (length_cleared l) (omega arith)) ∙ sym (get_or-eq_default l z (omega arith))

  -- one of a pixel in the box is the same whatever stood there
  pub cleared_in : (l m : List A) (i : ℕ) → length l ≡ length m → pixel_in width height b (i / k) ≡ true
      → get_or (cleared_of k v z width height b l) i z ≡ get_or (cleared_of k v z width height b m) i z
  cleared_in l m i q e = go (dec_lt i (length l))
    where
      one : (n : List A) → i < length n → get_or (cleared_of k v z width height b n) i z ≡ v (i % k)
      one n h = unfold cleared_of in (get_or_tab _ (length n) i z h ∙ rw e refl)

      go : Dec (i < length l) → get_or (cleared_of k v z width height b l) i z ≡ get_or (cleared_of k v z width height b m) i z
      go (yes h) = one l h ∙ sym (one m (omega arith))
      go (no h) = get_or-eq_default (cleared_of k v z width height b l) z (rw (length_cleared l) (omega arith))
          ∙ sym (get_or-eq_default (cleared_of k v z width height b m) z (rw (length_cleared m) (omega arith)))

-- ---- a clear past its checks

-- it uses the pixels of its box
abbrev WipeReads : Option ScissorBox → Shared → Place → Type 0
WipeReads b s sizes = Unit {0}
WipeReads b s (pixel p) = pixel_in s.width s.height b p ≡ true
WipeReads b s (byte a) = ⊥
WipeReads b s (texture n) = ⊥

abbrev wipe_writes : Option ScissorBox → Shared → Place → Bool
wipe_writes b s sizes = false
wipe_writes b s (pixel p) = pixel_in s.width s.height b p
wipe_writes b s (byte a) = false
wipe_writes b s (texture n) = false

abbrev wipe : Option ScissorBox → (Shared → Shared) → Act Shared Answer Place
wipe b f = record { does = λ s. (done, f s); Reads = WipeReads b; writes = wipe_writes b }

-- what it takes for such a clear to keep the laws
record Wipes (b : Option ScissorBox) (f : Shared → Shared) : Type 0 where
  sizes_stay : (s : Shared) → SameSizes s (f s)
  rest_stays : (s : Shared) → ((f s).store ≡ s.store) × ((f s).textures ≡ s.textures)
  out_stays : (s : Shared) (p : ℕ) → pixel_in s.width s.height b p ≡ false → Same (pixel p) s (f s)
  in_same : (s t : Shared) (p : ℕ) → SameSizes s t → Same (pixel p) s t → pixel_in s.width s.height b p ≡ true → Same (pixel p) (f s) (f t)

wipe_kept : (B : Shared → Type 0) (Q : Shared → ℕ → Type 0) (b : Option ScissorBox) (f : Shared → Shared) → Wipes b f
    → ((s : Shared) (p : ℕ) → B s → pixel_in s.width s.height b p ≡ true → Q s p) → KeptOn B Q (wipe b f)
wipe_kept B Q b f w good = record { laws = record { alike_on = alike; frame_on = frame }; keeps = λ s. refl; stays = λ s p k u. (refl, good s p k (stay s p u)) }
  where
    stay : (s : Shared) (p : ℕ) → Uses (wipe b f) s (pixel p) → pixel_in s.width s.height b p ≡ true
    stay s p (inl r) = r
    stay s p (inr r) = r

    print : (s t : Shared) → SameSizes s t → (l : Place) → wipe_writes b s l ≡ wipe_writes b t l
    print s t z sizes = refl
    print s t z (pixel p) = rw (z.same_width, z.same_height)
    print s t z (byte a) = refl
    print s t z (texture n) = refl

    after : (s t : Shared) → Agree places (wipe b f) s t → (l : Place) → wipe_writes b s l ≡ true → Same l (f s) (f t)
    after s t g sizes e = absurd (true≢false (sym e))
    after s t g (pixel p) e = w.in_same s t p (g sizes tt) (g (pixel p) e) e
    after s t g (byte a) e = absurd (true≢false (sym e))
    after s t g (texture n) e = absurd (true≢false (sym e))

    alike : (s t : Shared) → B s → B t → Agree places (wipe b f) s t → Alike places (wipe b f) s t
    alike s t x y g = record { answer = refl; footprint = print s t (g sizes tt); written = after s t g }

    frame : (s : Shared) (l : Place) → B s → wipe_writes b s l ≡ false → Same l s (f s)
    frame s sizes k e = w.sizes_stay s
    frame s (pixel p) k e = w.out_stays s p e
    frame s (byte a) k e = rw (w.rest_stays s).0
    frame s (texture n) k e = rw (w.rest_stays s).1

abbrev colored : Option ScissorBox → List ℕ → Shared → Shared
colored b rgba s = with_colors s (cleared_of 4 (λ c. get_or rgba c 0) 0 s.width s.height b s.colors)

wipes_colors : (b : Option ScissorBox) (rgba : List ℕ) → Wipes b (colored b rgba)
wipes_colors b rgba = record {
  sizes_stay = λ s. record { same_width = refl; same_height = refl; same_depths = refl; same_store = refl; same_colors = sym (length_cleared 4 (λ c. get_or rgba c 0) 0 s.width s.height b s.colors) };
  rest_stays = λ s. (refl, refl);
  out_stays = λ s p e. pixel_is_of _ _ _ _ p
      (λ j x y. sym (cleared_out 4 (λ c. get_or rgba c 0) 0 s.width s.height b s.colors j (subst (λ (q : ℕ). pixel_in s.width s.height b q ≡ false) (omega arith) e))) refl;
  in_same = λ s t p z k e. pixel_is_of _ _ _ _ p
      (λ j x y. cleared_in 4 (λ c. get_or rgba c 0) 0 s.width s.height b s.colors t.colors j z.same_colors (subst (λ (q : ℕ). pixel_in s.width s.height b q ≡ true) (omega arith) e)
      ∙ rw (z.same_width, z.same_height) refl)
      (at_depth _ _ _ _ p k);
}

abbrev deepened : Option ScissorBox → Float → Shared → Shared
deepened b v s = with_depths s (cleared_of 1 (λ c. v) nan s.width s.height b s.depths)

wipes_depths : (b : Option ScissorBox) (v : Float) → Wipes b (deepened b v)
wipes_depths b v = record {
  sizes_stay = λ s. record { same_width = refl; same_height = refl; same_colors = refl; same_store = refl; same_depths = sym (length_cleared 1 (λ c. v) nan s.width s.height b s.depths) };
  rest_stays = λ s. (refl, refl);
  out_stays = λ s p e. pixel_is_of _ _ _ _ p (λ j x y. refl)
      (sym (cleared_out 1 (λ c. v) nan s.width s.height b s.depths p (subst (λ (q : ℕ). pixel_in s.width s.height b q ≡ false) (omega arith) e)));
  in_same = λ s t p z k e. pixel_is_of _ _ _ _ p (λ j x y. byte_of _ _ _ _ p j k x y)
      (cleared_in 1 (λ c. v) nan s.width s.height b s.depths t.depths p z.same_depths (subst (λ (q : ℕ). pixel_in s.width s.height b q ≡ true) (omega arith) e)
      ∙ rw (z.same_width, z.same_height) refl);
}

-- ---- with their checks

-- a number of 0 means that 1 takes the target
fits_of : (fits : Bool) (rest : ℕ) → eqb (cond fits rest 1) 0 ≡ true → not fits ≡ false
fits_of true rest e = refl
fits_of false rest e = absurd (true≢false (sym e))

-- a check in front of a clear, and the footprints of the whole
check_reads : (number : Shared → ℕ) (b : Option ScissorBox) (f : Shared → Shared) (s : Shared) (l : Place)
    → (check number JustSizes refused (wipe b f)).Reads s l → BoxReads (number s) b s l
check_reads number b f s sizes r = tt
check_reads number b f s (pixel p) (inl r) = absurd r
check_reads number b f s (pixel p) (inr r) = r
check_reads number b f s (byte a) (inl r) = r
check_reads number b f s (byte a) (inr r) = r.1
check_reads number b f s (texture n) (inl r) = r
check_reads number b f s (texture n) (inr r) = r.1

check_writes : (number : Shared → ℕ) (b : Option ScissorBox) (f : Shared → Shared) (s : Shared) (l : Place)
    → (check number JustSizes refused (wipe b f)).writes s l ≡ box_writes (number s) b s l
check_writes number b f s sizes = neither (eqb (number s) 0)
check_writes number b f s (pixel p) = refl
check_writes number b f s (byte a) = neither (eqb (number s) 0)
check_writes number b f s (texture n) = neither (eqb (number s) 0)

module _ {Draw : Type 0} (drawing : Draw → Act Shared Answer Place) (scissor_of : Draw → Option ScissorBox) (window : Guest → ScissorBox) where
  abbrev act : Call Draw → Act Shared Answer Place
  act = meaning drawing scissor_of

  abbrev Owes : Call Draw → Type 0
  Owes = Owed act (InBox drawing scissor_of) (InWindow window) bad_target

  -- a call that refuses by `number`, does f otherwise, and uses its box
  clear_owed : (c : Call Draw) (b : Option ScissorBox) (number : Shared → ℕ) (f : Shared → Shared) → Wipes b f
      → ((s t : Shared) → SameSizes s t → number s ≡ number t)
      → ((s : Shared) → eqb (number s) 0 ≡ true → bad_target s.width s.height (length s.colors) (length s.depths) ≡ false)
      → ((w h p : ℕ) → pixel_in w h b p ≡ true → InBox drawing scissor_of w h c p)
      → ((s : Shared) → answer_of (number s) ≡ ((act c).does s).0) → ((s : Shared) → cond (eqb (number s) 0) (f s) s ≡ ((act c).does s).1)
      → ((s : Shared) (l : Place) → BoxReads (number s) b s l → (act c).Reads s l) → ((s : Shared) (l : Place) → box_writes (number s) b s l ≡ (act c).writes s l)
      → ((s : Shared) (p : ℕ) → (act c).Reads s (pixel p) → BoxReads (number s) b s (pixel p)) → Owes c
  clear_owed c b number f w numbers good in_box answers leaves reads writes back =
      owed_by act (InBox drawing scissor_of) (InWindow window) bad_target c (check number JustSizes refused (wipe b f))
      (check_kept (λ s. Unit {0}) _ number JustSizes (wipe b f) (λ p x. x) (λ s t x y g. numbers s t (g sizes tt))
      (wipe_kept _ _ b f w (λ s p k e. (good s k.1, in_box s.width s.height p e))))
      (λ s. chosen (eqb (number s) 0) done (refused (number s)) (f s) s ∙ answers s)
      (λ s l. same _ _ (left (eqb (number s) 0) done (refused (number s)) (f s) s ∙ leaves s) l)
      (λ s l r. reads s l (check_reads number b f s l r))
      (λ s l. check_writes number b f s l ∙ writes s l)
      (λ s p r. inr (back s p r))

  pub clear_color_owed : (b : Option ScissorBox) (rgba : List ℕ) → Owes (clear_color b rgba)
  clear_color_owed b rgba = clear_owed (clear_color b rgba) b (clear_color_number b) (colored b rgba) (wipes_colors b rgba)
      (λ s t z. rw (z.same_width, z.same_height, z.same_colors, z.same_depths))
      (λ s e. unfold clear_color_check in fits_of (target_fits s.width s.height (length s.colors) (length s.depths)) _ e)
      (λ w h p e. e) (λ s. refl)
      (λ s. unfold clear_color_of in leaves s (eqb (clear_color_number b s) 0))
      (λ s l r. r) (λ s l. refl) (λ s p r. r)
    where
      leaves : (s : Shared) (x : Bool) → cond x (colored b rgba s) s ≡ with_colors s (cond x (cleared_of 4 (λ c. get_or rgba c 0) 0 s.width s.height b s.colors) s.colors)
      leaves s true = refl
      leaves s false = refl

  pub clear_depth_owed : (b : Option ScissorBox) (v : Float) → Owes (clear_depth b v)
  clear_depth_owed b v = clear_owed (clear_depth b v) b (clear_depth_number b v) (deepened b v) (wipes_depths b v)
      (λ s t z. rw (z.same_width, z.same_height, z.same_colors, z.same_depths))
      (λ s e. unfold clear_depth_check in fits_of (target_fits s.width s.height (length s.colors) (length s.depths)) _ e)
      (λ w h p e. e) (λ s. refl)
      (λ s. unfold clear_depth_of in leaves s (eqb (clear_depth_number b v s) 0))
      (λ s l r. r) (λ s l. refl) (λ s p r. r)
    where
      leaves : (s : Shared) (x : Bool) → cond x (deepened b v s) s ≡ with_depths s (cond x (cleared_of 1 (λ c. v) nan s.width s.height b s.depths) s.depths)
      leaves s true = refl
      leaves s false = refl
