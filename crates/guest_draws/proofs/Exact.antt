-- What a draw reads and writes is 01's list, no less and no more. Assumes nothing.
use mathlib.Core.Path.{◌≡◌, refl, sym, ◌∙◌, subst}
use mathlib.Core.Logic.{◌⊎◌, inl, inr}
use mathlib.Core.Bool.{Bool, true, false, cond}
use mathlib.Core.List.{List, [], ◌∷◌}
use Prim.Native.Nat.{ℕ, zero, suc, ◌<◌, ◌≤◌}
use native.Mathlib.Omega.{arith}
use lib.Dec.{eqb, ltb, leb}
use borrow.Author.Tests.{eqb-true, ltb-true, leb-true, lt-ltb}
use Rattle.std.proofs.lemmas.Bool.{true≢false, false≢true}
use Rattle.lists.specs.Lists.{tab}
use Rattle.lists.proofs.Choice.{was_true}
use Rattle.lists.proofs.Tables.{get_or_tab}
use Rattle.levels.specs.declared.Texture.{Texture}
use Rattle.settings.specs.declared.PipelineState.{PipelineState}
use Rattle.settings.specs.declared.TextureStage.{TextureStage}
use Rattle.scissor.specs.Scissor.{pixel_in}
use Rattle.scissor.specs.Check.{target_fits, scissor_fits}
use Rattle.isolation.specs.Machine.{In}
use Rattle.frames.specs.State.{Place, sizes, pixel, byte, texture, refused, is_refused}
use Rattle.frames.proofs.Fragments.{in_either}
use Rattle.stages.specs.Stages.{stage_at, texture_at, no_texture}
use Rattle.draw_checks.specs.Checks.{viewport_fits, state_fits, fog_fits, stage_fits, stages_fit, early_check}
use Rattle.draw.specs.Draw.{bound_at, bound_to, draw_check, draw_passed, draw_of, drew_all, outcome}
use Rattle.draw_checks.proofs.Below.{below_at}
use Rattle.draw_reads.proofs.Takes.{takes, takes_in}
use Rattle.guests.specs.Calls.{Shared}
use Rattle.guest_draws.specs.Draw.{DrawCall, name_at, records_of, stage_records, names_of, scissor_of, early_number, late_number, draw_number, drawing_of, Passed, drawing}
use Rattle.guests.specs.Exact.{Done}
use Rattle.guest_draws.specs.Exact.{Named, TakesByte, DrawExact}
use Rattle.guest_draws.proofs.Named.{names_stage, unit_record}

-- ---- two checks in a row

both_pass : (a b : ℕ) → eqb (cond (eqb a 0) b a) 0 ≡ true → (eqb a 0 ≡ true) × (eqb b 0 ≡ true)
both_pass a b e = go (eqb a 0) refl e
  where
    go : (y : Bool) → eqb a 0 ≡ y → eqb (cond y b a) 0 ≡ true → (y ≡ true) × (eqb b 0 ≡ true)
    go true p k = (refl, k)
    go false p k = absurd (true≢false (sym k ∙ p))

one_fails : (a b : ℕ) (z : Bool) → eqb (cond (eqb a 0) b a) 0 ≡ false → cond (eqb a 0) (cond (eqb b 0) z false) false ≡ false
one_fails a b z e = go (eqb a 0) refl e
  where
    go : (y : Bool) → eqb a 0 ≡ y → eqb (cond y b a) 0 ≡ false → cond y (cond (eqb b 0) z false) false ≡ false
    go true p k = rw k refl
    go false p k = refl

-- ---- the numbers of the checks before 8

either : (P : ℕ → Type 0) (b : Bool) (m n : ℕ) → P m → P n → P (cond b m n)
either P true m n x y = x
either P false m n x y = y

-- neither 8 nor 5
abbrev Early : ℕ → Type 0
Early n = (n ≡ 8 → ⊥) × (n ≡ 5 → ⊥)

early_number_is : (width height colors depths : ℕ) (s : PipelineState) (stages : List TextureStage) (n : ℕ) → Early (early_check width height colors depths s stages n)
unfolding early_check
early_number_is width height colors depths s stages n =
    either Early (target_fits width height colors depths) _ 1
    (either Early (scissor_fits s.scissor) _ 2
    (either Early (viewport_fits s.viewport) _ 3
    (either Early (state_fits s) _ 4
    (either Early (fog_fits s) _ 7
    (either Early (stages_fit stages n) 0 6 ((λ e. omega arith), (λ e. omega arith)) ((λ e. omega arith), (λ e. omega arith)))
    ((λ e. omega arith), (λ e. omega arith))) ((λ e. omega arith), (λ e. omega arith))) ((λ e. omega arith), (λ e. omega arith))) ((λ e. omega arith), (λ e. omega arith)))
    ((λ e. omega arith), (λ e. omega arith))

record Entry {A : Type 0} (n : ℕ) (f : ℕ → A) (a : A) : Type 0 where
  at : ℕ
  below : at < n
  is : a ≡ f at

tab_entry : {A : Type 0} (n : ℕ) (f : ℕ → A) (a : A) → In a (tab n f) → Entry n f a
unfolding tab
tab_entry zero f a m = absurd m
tab_entry {A} (suc n) f a m = go (in_either a (tab n f) (f n ∷ []) m) (tab_entry n f a)
  where
    go : In a (tab n f) ⊎ In a (f n ∷ []) → (In a (tab n f) → Entry n f a) → Entry (suc n) f a
    go (inl y) r = let p = r y in record { at = p.at; below = omega (arith, p.below); is = p.is }
    go (inr (inl e)) r = record { at = n; below = omega arith; is = e }
    go (inr (inr y)) r = absurd y

module _ (x : DrawCall) (s : Shared) where
  passes : eqb (draw_number x s) 0 ≡ true → Passed x s
  unfolding draw_check
  passes e = both_pass (early_number x s) (late_number x s) e

  -- ---- a draw that is not refused

  -- it writes the pixels of its box and nothing else
  pub draw_writes_are : eqb (draw_number x s) 0 ≡ true
      → ((p : ℕ) → (drawing x).writes s (pixel p) ≡ pixel_in s.width s.height (scissor_of x) p) × ((b : ℕ) → (drawing x).writes s (byte b) ≡ false) × ((n : ℕ) → (drawing x).writes s (texture n) ≡ false)
  draw_writes_are e = let k = passes e in ((λ p. rw (k.0, k.1)), (λ b. refl), (λ n. refl))

  -- it reads the pixels of its box
  pub draw_reads_pixels : (p : ℕ) → eqb (draw_number x s) 0 ≡ true → pixel_in s.width s.height (scissor_of x) p ≡ true → (drawing x).Reads s (pixel p)
  draw_reads_pixels p e i = (passes e, i)

  -- it reads these and no other
  pub draw_takes : (b : ℕ) → (drawing x).Reads s (byte b) → TakesByte x s b
  draw_takes b r = takes s.store (drawing_of x s.textures) s.width _ _ b r.1

  pub draw_takes_all : (b : ℕ) → eqb (draw_number x s) 0 ≡ true → TakesByte x s b → (drawing x).Reads s (byte b)
  draw_takes_all b e t = (passes e, takes_in s.store (drawing_of x s.textures) s.width _ _ b t)

  -- ---- the records

  -- once the checks before 8 are passed it has read those of the units that its stages name, and no other
  pub draw_reads_records : eqb (early_number x s) 0 ≡ true → (i : ℕ) → i < x.args.count → (drawing x).Reads s (texture (name_at x (stage_at x.args.stages i).unit))
  draw_reads_records e i b = (e, names_stage x i b)

  pub draw_reads_named : (n : ℕ) → (drawing x).Reads s (texture n) → Named x n
  unfolding names_of
  draw_reads_named n r = let p = tab_entry x.args.count _ n r.1 in record { stage = p.at; used = p.below; name = p.is }

  -- refused before 8 it has read none
  pub draw_unread : (n : ℕ) → eqb (early_number x s) 0 ≡ false → (drawing x).Reads s (texture n) → ⊥
  draw_unread n e r = true≢false (sym r.0 ∙ e)

  -- refused by 8 or 5 it has read them
  answered : (n : ℕ) → ((drawing x).does s).0 ≡ refused n → draw_number x s ≡ n
  unfolding draw_of
  answered n e = go (eqb (draw_number x s) 0) e
    where
      go : (y : Bool) → (cond y (drew_all (draw_passed s.store s.width s.height x.args (records_of x s.textures) s.colors s.depths)) (outcome (refused (draw_number x s)) s.colors s.depths)).answer ≡ refused n → draw_number x s ≡ n
      go true k = let z : ◌≡◌ {A = ℕ} 0 1 = cc in absurd (omega arith)
      go false k = cc

  past_early : (n : ℕ) → (early_number x s ≡ n → ⊥) → draw_number x s ≡ n → eqb (early_number x s) 0 ≡ true
  unfolding draw_check
  past_early n h e = go (eqb (early_number x s) 0) refl e
    where
      go : (y : Bool) → eqb (early_number x s) 0 ≡ y → cond y (late_number x s) (early_number x s) ≡ n → y ≡ true
      go true p k = refl
      go false p k = absurd (h k)

  pub refused_late_reads : ((drawing x).does s).0 ≡ refused 8 ⊎ ((drawing x).does s).0 ≡ refused 5 → (i : ℕ) → i < x.args.count → (drawing x).Reads s (texture (name_at x (stage_at x.args.stages i).unit))
  refused_late_reads (inl e) i b = draw_reads_records (past_early 8 (early_number_is _ _ _ _ x.args.state x.args.stages x.args.count).0 (answered 8 e)) i b
  refused_late_reads (inr e) i b = draw_reads_records (past_early 5 (early_number_is _ _ _ _ x.args.state x.args.stages x.args.count).1 (answered 5 e)) i b

  -- ---- what is refused writes nothing, and has read no pixel and no byte

  pub draw_refused : (l : Place) → eqb (draw_number x s) 0 ≡ false → (drawing x).writes s l ≡ false
  unfolding draw_check
  draw_refused sizes e = refl
  draw_refused (pixel p) e = one_fails (early_number x s) (late_number x s) (pixel_in s.width s.height (scissor_of x) p) e
  draw_refused (byte b) e = refl
  draw_refused (texture n) e = refl

  not_both : Passed x s → eqb (draw_number x s) 0 ≡ false → ⊥
  unfolding draw_check
  not_both k e = true≢false (sym (rw k.0 k.1) ∙ e)

  pub draw_refused_reads : eqb (draw_number x s) 0 ≡ false → ((p : ℕ) → (drawing x).Reads s (pixel p) → ⊥) × ((b : ℕ) → (drawing x).Reads s (byte b) → ⊥)
  draw_refused_reads e = ((λ p r. not_both r.0 e), (λ b r. not_both r.0 e))

-- ---- stage i reads the record named by its unit

stages_do_fit : (width height colors depths : ℕ) (s : PipelineState) (stages : List TextureStage) (n : ℕ) → eqb (early_check width height colors depths s stages n) 0 ≡ true → stages_fit stages n ≡ true
unfolding early_check
stages_do_fit width height colors depths s stages n e =
    let a = was_true (target_fits width height colors depths) (eqb-true _ 0 e) (λ z. omega arith) in
    let b = was_true (scissor_fits s.scissor) a.1 (λ z. omega arith) in
    let c = was_true (viewport_fits s.viewport) b.1 (λ z. omega arith) in
    let d = was_true (state_fits s) c.1 (λ z. omega arith) in
    let f = was_true (fog_fits s) d.1 (λ z. omega arith) in
    (was_true (stages_fit stages n) f.1 (λ z. omega arith)).0

-- 6: at most four stages, each of a unit below 4
few_units : (stages : List TextureStage) (n : ℕ) → stages_fit stages n ≡ true → (n ≤ 4) × ((i : ℕ) → i < n → (stage_at stages i).unit < 4)
unfolding stages_fit stage_fits
few_units stages n e =
    let a = was_true (leb n 4) e false≢true in
    (leb-true n 4 a.0, λ i b. ltb-true _ 4 (was_true (ltb (stage_at stages i).unit 4) (below_at _ n a.1 i b) false≢true).0)

pub stage_record : (x : DrawCall) (s : Shared) (f : ℕ → Texture) (i : ℕ) → eqb (early_number x s) 0 ≡ true → i < x.args.count
    → texture_at (stage_records x f) i ≡ f (name_at x (stage_at x.args.stages i).unit)
unfolding bound_to
stage_record x s f i e b =
    let k = few_units x.args.stages x.args.count (stages_do_fit _ _ _ _ x.args.state x.args.stages x.args.count e) in
    get_or_tab (bound_at x.args.stages x.args.count (records_of x f)) 4 i no_texture (omega (arith, k.0))
    ∙ rw (lt-ltb i x.args.count b) (unit_record x f _ (k.1 i b))

-- ---- EXACTLY 01's LIST

module _ (x : DrawCall) (s : Shared) where
  is_drawn : Done (drawing x) s → eqb (draw_number x s) 0 ≡ true
  unfolding draw_of
  is_drawn e = go (eqb (draw_number x s) 0) e
    where
      go : (y : Bool) → is_refused (cond y (drew_all (draw_passed s.store s.width s.height x.args (records_of x s.textures) s.colors s.depths)) (outcome (refused (draw_number x s)) s.colors s.depths)).answer ≡ false
          → y ≡ true
      go true k = refl
      go false k = absurd (true≢false k)

  is_done : Passed x s → Done (drawing x) s
  unfolding draw_of draw_check
  is_done k = rw (k.0, k.1) refl

  writes_inside : (p : ℕ) → (drawing x).writes s (pixel p) ≡ true → Done (drawing x) s × (pixel_in s.width s.height (scissor_of x) p ≡ true)
  writes_inside p w =
      let a = was_true (eqb (early_number x s) 0) w false≢true in
      let b = was_true (eqb (late_number x s) 0) a.1 false≢true in
      (is_done (a.0, b.0), b.1)

  names_in : (n : ℕ) → eqb (early_number x s) 0 ≡ true → Named x n → (drawing x).Reads s (texture n)
  names_in n e m = subst (λ (i : ℕ). (drawing x).Reads s (texture i)) (sym m.name) (draw_reads_records x s e m.stage m.used)

  pub draw_exact : DrawExact x s
  draw_exact = record {
    reads_sizes = tt;
    writes_no_sizes = refl;
    reads_pixel = λ p. ((λ r. (is_done r.0, r.1)), (λ k. draw_reads_pixels x s p (is_drawn k.0) k.1));
    reads_byte = λ b. ((λ r. (is_done r.0, draw_takes x s b r)), (λ k. draw_takes_all x s b (is_drawn k.0) k.1));
    reads_texture = λ n. ((λ r. (r.0, draw_reads_named x s n r)), (λ k. names_in n k.0 k.1));
    reads_late = refused_late_reads x s;
    stage_record = stage_record x s;
    writes_pixel = λ p. (writes_inside p, (λ k. (draw_writes_are x s (is_drawn k.0)).0 p ∙ k.1));
    writes_no_byte = λ b. refl;
    writes_no_texture = λ n. refl;
    answers = refl;
    leaves_colors = refl;
    leaves_depths = refl;
  }
