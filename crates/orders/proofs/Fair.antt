-- A call that is fair by a plan keeps to it, on any state whose sizes are the start's and whose named records are tidy; and it leaves
-- every tidy record tidy. Assumes nothing.
use mathlib.Core.Path.{◌≡◌, refl, sym, ◌∙◌, subst}
use mathlib.Core.Logic.{◌⊎◌, inl, inr, ◌≢◌}
use mathlib.Core.Bool.{Bool, true, false, cond}
use mathlib.Core.Option.{Option, some}
use Prim.Native.Nat.{ℕ, ◌<◌}
use native.Mathlib.Decide.{ℕ_discrete}
use lib.Dec.{eqb}
use lib.ListN.{length}
use borrow.Author.Tests.{eqb-true}
use Rattle.std.proofs.lemmas.Bool.{true≢false, false≢true}
use Rattle.lists.proofs.Choice.{was_true}
use Rattle.levels.specs.declared.Texture.{Texture}
use Rattle.levels.specs.Levels.{new_texture, level_at, level_of, valid_of}
use Rattle.texture.specs.Define.{define_check, define_record, Outcome, define_of, define_writes}
use Rattle.texture.specs.Patch.{patch_check, patch_writes}
use Rattle.std.proofs.Common.{Result, Ok, Err}
use Rattle.answers.specs.declared.Refusal.{Refusal}
use Rattle.levels.specs.declared.MinFilter.{MinFilter}
use Rattle.levels.specs.declared.Filter.{Filter}
use Rattle.levels.specs.declared.Wrap.{Wrap}
use Rattle.levels.specs.Codes.{min_filter_of, filter_of, wrap_of}
use Rattle.consts.specs.Codes.{GL_TEXTURE_MAG_FILTER, GL_TEXTURE_MIN_FILTER, GL_TEXTURE_WRAP_S, GL_TEXTURE_WRAP_T}
use Rattle.texture.specs.Parameters.{with_min_filter, with_mag_filter, with_wrap_s, with_wrap_t, set_check, set_record, setting, set_of}
use Rattle.texture.proofs.Defining.{Sound, sound}
use Rattle.texture.proofs.Patching.{patch_sound}
use Rattle.texture.proofs.Written.{define_done, define_refused}
use Rattle.stages.specs.Stages.{stage_at, texture_at}
use Rattle.draw_checks.specs.Checks.{records_fit}
use Rattle.draw_checks.proofs.Below.{below_at}
use Rattle.draw_checks.proofs.Passed.{late_records}
use Rattle.isolation.specs.Machine.{Guest, In, Own}
use Rattle.frames.specs.State.{SameSizes, Place, sizes, pixel, byte, texture}
use Rattle.frames.specs.Windows.{Owed}
use Rattle.guests.specs.Calls.{Shared, sides_check}
use Rattle.guests.specs.Guests.{clear_color, clear_depth, draw, define_level, patch_level, set_parameter, new_record, meaning, InBox, InWindow, bad_target}
use Rattle.guests.proofs.Clears.{clear_color_owed, clear_depth_owed}
use Rattle.guests.proofs.Settings.{set_parameter_owed}
use Rattle.guests.proofs.NewRecords.{new_record_owed}
use Rattle.guests.proofs.Defines.{define_level_owed}
use Rattle.guests.proofs.Patches.{patch_level_owed}
use Rattle.settings.specs.declared.ScissorBox.{ScissorBox}
use Rattle.guest_draws.specs.Draw.{DrawCall, name_at, stage_records, names_of, late_number, drawing, scissor_of}
use Rattle.guest_draws.specs.EveryCall.{GuestCall}
use Rattle.guest_draws.proofs.Demand3.{draw_triangle_owed}
use Rattle.guest_draws.proofs.Named.{names_stage}
use Rattle.guest_draws.proofs.Exact.{draw_takes, stage_record}
use Rattle.orders.specs.Plans.{Plan, admitted, Names, InLevel, Tidy, Fair}
use Rattle.orders.proofs.Admitted.{sides_pass}
use Rattle.orders.proofs.Regions.{Somewhere, sample_in, rows_in, define_in, new_out}

-- what each call owes
pub call_owed : (window : Guest → ScissorBox) (c : GuestCall) → Owed (meaning drawing scissor_of) (InBox drawing scissor_of) (InWindow window) bad_target c
call_owed window (clear_color b rgba) = clear_color_owed drawing scissor_of window b rgba
call_owed window (clear_depth b v) = clear_depth_owed drawing scissor_of window b v
call_owed window (draw d) = draw_triangle_owed window d
call_owed window (define_level n k w h place rgba) = define_level_owed n k w h place rgba drawing scissor_of window
call_owed window (patch_level n k x y w h rgba) = patch_level_owed n k x y w h rgba drawing scissor_of window
call_owed window (set_parameter n code value) = set_parameter_owed n code value drawing scissor_of window
call_owed window (new_record n) = new_record_owed n drawing scissor_of window

-- ---- owners

pub some_is : (g h : Guest) → some g ≡ some h → g ≡ h
some_is g h e = cc

pub own_some : (g h : Guest) (o : Option Guest) → Own g o → o ≡ some h → h ≡ g
own_some g h o k e = subst (λ (x : Option Guest). Own g x) e k

-- ---- what a draw takes

pub draw_in : (x : DrawCall) (s : Shared) (b : ℕ) → (drawing x).Reads s (byte b) → (C : Type 0) → ((n : ℕ) → In n (names_of x) → Somewhere (s.textures n) b → C) → C
unfolding records_fit
draw_in x s b r C f =
    let t = (draw_takes x s b r).takes in
    let e = stage_record x s s.textures t.stage r.0.0 t.used in
    let v : valid_of (length s.store) (texture_at (stage_records x s.textures) t.stage) ≡ true = valid t.stage t.used in
    let i = sample_in (length s.store) (texture_at (stage_records x s.textures) t.stage) _ b v t.taken in
    f (name_at x (stage_at x.args.stages t.stage).unit) (names_stage x t.stage t.used)
    (subst (λ (y : Texture). Somewhere y b) e i)
  where
    valid : (i : ℕ) → i < x.args.count → valid_of (length s.store) (texture_at (stage_records x s.textures) i) ≡ true
    valid i k =
        below_at (λ j. valid_of (length s.store) (texture_at (stage_records x s.textures) j)) x.args.count
        (late_records (length s.store) x.args.count (stage_records x s.textures) x.args.a x.args.b x.args.c (eqb-true (late_number x s) 0 r.0.1)) i k

-- ---- what a setting leaves of a record

module _ (t : Texture) (p v : ℕ) where
  min_levels : (c : Result MinFilter Refusal) → (with_min_filter c t).levels ≡ t.levels
  min_levels (Ok f) = refl
  min_levels (Err why) = refl

  mag_levels : (c : Result Filter Refusal) → (with_mag_filter c t).levels ≡ t.levels
  mag_levels (Ok f) = refl
  mag_levels (Err why) = refl

  wrap_s_levels : (c : Result Wrap Refusal) → (with_wrap_s c t).levels ≡ t.levels
  wrap_s_levels (Ok w) = refl
  wrap_s_levels (Err why) = refl

  wrap_t_levels : (c : Result Wrap Refusal) → (with_wrap_t c t).levels ≡ t.levels
  wrap_t_levels (Ok w) = refl
  wrap_t_levels (Err why) = refl

  either : (a c : Texture) → a.levels ≡ t.levels → c.levels ≡ t.levels → (b : Bool) → (cond b a c).levels ≡ t.levels
  either a c p q true = p
  either a c p q false = q

  set_levels : (set_of t p v).texture.levels ≡ t.levels
  unfolding set_of set_record
  set_levels = here (eqb (set_check p v) 0)
    where
      changed : (set_record t p v).levels ≡ t.levels
      changed =
          either _ _ (min_levels (min_filter_of v))
          (either _ _ (mag_levels (filter_of v))
          (either _ _ (wrap_s_levels (wrap_of v))
          (either _ _ (wrap_t_levels (wrap_of v)) refl (eqb p GL_TEXTURE_WRAP_T))
          (eqb p GL_TEXTURE_WRAP_S))
          (eqb p GL_TEXTURE_MAG_FILTER))
          (eqb p GL_TEXTURE_MIN_FILTER)

      here : (b : Bool) → (cond b (setting 0 (set_record t p v)) (setting (set_check p v) t)).texture.levels ≡ t.levels
      here true = changed
      here false = refl

-- what hangs on the levels alone
by_levels : (t u : Texture) → t.levels ≡ u.levels → (k : ℕ) → level_of t k ≡ level_of u k
unfolding level_of
by_levels t u e k = rw e

-- ---- a plan

module _ (plan : Plan) where
  -- which places are whose, on a target of the start's sides
  abbrev pub Owns : Shared → Guest → Place → Type 0
  Owns s g sizes = ⊥
  Owns s g (pixel p) = InWindow plan.window s.width s.height g p
  Owns s g (byte b) = plan.byte b ≡ some g
  Owns s g (texture n) = plan.name n ≡ some g

  -- a record put under one name
  put : (t : Shared) (n : ℕ) (r : Texture) → (Tidy plan n (t.textures n) → Tidy plan n r)
      → (m : ℕ) → Tidy plan m (t.textures m) → Tidy plan m (cond (eqb m n) r (t.textures m))
  put t n r f m h = go (eqb m n) refl
    where
      go : (b : Bool) → eqb m n ≡ b → Tidy plan m (cond b r (t.textures m))
      go true e = let q : n ≡ m = sym (eqb-true m n e) in subst (λ (j : ℕ). Tidy plan j (t.textures j) → Tidy plan j r) q f h
      go false e = h

  module _ (s : Shared) (g : Guest) where
    -- a tidy record stays tidy
    pub fair_next : (c : GuestCall) (t : Shared) → (admitted t c ≡ true → Fair plan s g c) → (m : ℕ) → Tidy plan m (t.textures m) → Tidy plan m (((meaning drawing scissor_of c).does t).1.textures m)
    fair_next (clear_color b rgba) t f m h = h
    fair_next (clear_depth b v) t f m h = h
    fair_next (draw x) t f m h = h
    fair_next (define_level n k w h place rgba) t f m z = put t n o.texture (λ y. go y (eqb d 0) refl) m z
      where
        o : Outcome
        o = define_of t.store (t.textures n) k w h place rgba

        d : ℕ
        d = define_check (length t.store) (t.textures n) k w h place (length rgba)

        done : Tidy plan n (t.textures n) → d ≡ 0 → Tidy plan n (define_record (t.textures n) k (level_at place w h))
        done y e j b i =
            let q : Sound (length t.store) (t.textures n) k w h place (length rgba) = sound (length t.store) (t.textures n) k w h place (length rgba) e in
            let p : eqb (sides_check k w h) 0 ≡ true = sides_pass k w h (length t.store) (t.textures n) place (length rgba) q in
            pick q p (define_in (t.textures n) k w h place q.level_in j b i)
          where
            pick : Sound (length t.store) (t.textures n) k w h place (length rgba) → eqb (sides_check k w h) 0 ≡ true
                → InLevel (level_at place w h) b ⊎ InLevel (level_of (t.textures n) j) b → plan.byte b ≡ plan.name n
            pick q p (inl r) = (f p).filled b (rw q.bytes r.1) ∙ sym ((f p).changed n refl)
            pick q p (inr r) = y j b r

        go : Tidy plan n (t.textures n) → (b : Bool) → eqb d 0 ≡ b → Tidy plan n o.texture
        go y true e = let q = eqb-true d 0 e in subst (λ (x : Outcome). Tidy plan n x.texture) (sym (define_done t.store (t.textures n) k w h place rgba q)) (done y q)
        go y false e = subst (λ (x : Outcome). Tidy plan n x.texture) (sym (define_refused t.store (t.textures n) k w h place rgba e)) y
    fair_next (patch_level n k x y w h rgba) t f m z = put t n (t.textures n) (λ u. u) m z
    fair_next (set_parameter n code value) t f m z =
        put t n (set_of (t.textures n) code value).texture
        (λ u k b i. u k b (rw (by_levels (set_of (t.textures n) code value).texture (t.textures n) (set_levels (t.textures n) code value) k) at i)) m z
    fair_next (new_record n) t f m z = put t n new_texture (λ u k b i. absurd (new_out k b i)) m z

    module _ (c : GuestCall) (f : Fair plan s g c) (t : Shared) (z : SameSizes s t) (tidy : (n : ℕ) → Names c n → Tidy plan n (t.textures n)) where
      -- a pixel that it uses is in its guest's window
      in_own_window : (p : ℕ) → ((meaning drawing scissor_of c).Reads t (pixel p)) ⊎ ((meaning drawing scissor_of c).writes t (pixel p) ≡ true) → Owns s g (pixel p)
      in_own_window p u = f.boxed p (rw (z.same_width, z.same_height) ((call_owed plan.window c).stays t p u).2)

    -- the bytes and the names that it writes
    writes_byte : (c : GuestCall) → Fair plan s g c → (t : Shared) → ((n : ℕ) → Names c n → Tidy plan n (t.textures n))
        → (b : ℕ) → (meaning drawing scissor_of c).writes t (byte b) ≡ true → plan.byte b ≡ some g
    unfolding define_writes patch_writes
    writes_byte (clear_color q rgba) f t tidy b e = absurd (false≢true e)
    writes_byte (clear_depth q v) f t tidy b e = absurd (false≢true e)
    writes_byte (draw x) f t tidy b e = absurd (false≢true e)
    writes_byte (define_level n k w h place rgba) f t tidy b e =
        let d = was_true (eqb (define_check (length t.store) (t.textures n) k w h place (length rgba)) 0) e false≢true in
        f.filled b d.1
    writes_byte (patch_level n k x y w h rgba) f t tidy b e =
        let d = was_true (eqb (patch_check (length t.store) (t.textures n) k x y w h (length rgba)) 0) e false≢true in
        let q = patch_sound (length t.store) (t.textures n) k x y w h (length rgba) (eqb-true _ 0 d.0) in
        tidy n refl k b (rows_in (level_of (t.textures n) k) x y w h q.kept q.right h q.bottom b d.1) ∙ f.changed n refl
    writes_byte (set_parameter n code value) f t tidy b e = absurd (false≢true e)
    writes_byte (new_record n) f t tidy b e = absurd (false≢true e)

    writes_name : (c : GuestCall) → Fair plan s g c → (t : Shared) (m : ℕ) → (meaning drawing scissor_of c).writes t (texture m) ≡ true → plan.name m ≡ some g
    writes_name (clear_color q rgba) f t m e = absurd (false≢true e)
    writes_name (clear_depth q v) f t m e = absurd (false≢true e)
    writes_name (draw x) f t m e = absurd (false≢true e)
    writes_name (define_level n k w h place rgba) f t m e =
        let d = was_true (eqb (define_check (length t.store) (t.textures n) k w h place (length rgba)) 0) e false≢true in
        f.changed m (eqb-true m n d.1)
    writes_name (patch_level n k x y w h rgba) f t m e =
        let d = was_true (eqb (patch_check (length t.store) (t.textures n) k x y w h (length rgba)) 0) e false≢true in
        f.changed m (eqb-true m n d.1)
    writes_name (set_parameter n code value) f t m e =
        let d = was_true (eqb (set_check code value) 0) e false≢true in
        f.changed m (eqb-true m n d.1)
    writes_name (new_record n) f t m e = f.changed m (eqb-true m n e)

    -- the names that it reads it names
    pub reads_name : (c : GuestCall) (t : Shared) (m : ℕ) → (meaning drawing scissor_of c).Reads t (texture m) → Names c m
    reads_name (clear_color q rgba) t m r = r
    reads_name (clear_depth q v) t m r = r
    reads_name (draw x) t m r = r.1
    reads_name (define_level n k w h place rgba) t m r = r.0
    reads_name (patch_level n k x y w h rgba) t m r = r
    reads_name (set_parameter n code value) t m r = r.0
    reads_name (new_record n) t m r = r

    -- the bytes that it reads are its guest's or nobody's
    reads_byte : (c : GuestCall) → Fair plan s g c → (t : Shared) → ((n : ℕ) → Names c n → Tidy plan n (t.textures n))
        → (b : ℕ) → (meaning drawing scissor_of c).Reads t (byte b) → Own g (plan.byte b)
    reads_byte (clear_color q rgba) f t tidy b r = absurd r
    reads_byte (clear_depth q v) f t tidy b r = absurd r
    reads_byte (draw x) f t tidy b r =
        draw_in x t b r (Own g (plan.byte b)) (λ n i w. subst (λ (o : Option Guest). Own g o) (sym (tidy n i w.level b w.inside)) (f.named n i))
    reads_byte (define_level n k w h place rgba) f t tidy b r = absurd r
    reads_byte (patch_level n k x y w h rgba) f t tidy b r = absurd r
    reads_byte (set_parameter n code value) f t tidy b r = absurd r
    reads_byte (new_record n) f t tidy b r = absurd r

    -- A FAIR CALL KEEPS TO THE PLAN
    pub fair_writes : (c : GuestCall) → Fair plan s g c → (t : Shared) → SameSizes s t → ((n : ℕ) → Names c n → Tidy plan n (t.textures n))
        → (l : Place) → (meaning drawing scissor_of c).writes t l ≡ true → Owns s g l
    fair_writes c f t z tidy sizes e = true≢false (sym e ∙ (call_owed plan.window c).keeps t)
    fair_writes c f t z tidy (pixel p) e = in_own_window c f t z tidy p (inr e)
    fair_writes c f t z tidy (byte b) e = writes_byte c f t tidy b e
    fair_writes c f t z tidy (texture n) e = writes_name c f t n e

    pub fair_reads : ((h : Guest) → h ≢ g → (p : ℕ) → Owns s h (pixel p) → Owns s g (pixel p) → ⊥)
        → (c : GuestCall) → Fair plan s g c → (t : Shared) → SameSizes s t → ((n : ℕ) → Names c n → Tidy plan n (t.textures n))
        → (l : Place) → (meaning drawing scissor_of c).Reads t l → (h : Guest) → Owns s h l → h ≡ g
    fair_reads apart c f t z tidy sizes r h o = absurd o
    fair_reads apart c f t z tidy (pixel p) r h o = go (ℕ_discrete h g)
      where
        go : Dec (h ≡ g) → h ≡ g
        go (yes e) = e
        go (no n) = absurd (apart h n p o (in_own_window c f t z tidy p (inl r)))
    fair_reads apart c f t z tidy (byte b) r h o = own_some g h (plan.byte b) (reads_byte c f t tidy b r) o
    fair_reads apart c f t z tidy (texture n) r h o = own_some g h (plan.name n) (f.named n (reads_name c t n r)) o
