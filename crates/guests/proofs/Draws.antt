-- A draw in parts owes what every call owes: its fragments' law and their box are all that is left to show of a draw. Assumes nothing.
use Rattle.lists.proofs.Choice.{neither}
use Rattle.std.proofs.lemmas.Bool.{and_parts}
use Rattle.std.specs.Prelude.{Option, Some, None}
use mathlib.Core.Path.{◌≡◌, refl, sym, ap, ◌∙◌, subst}
use mathlib.Core.Logic.{inl, inr}
use mathlib.Core.Bool.{Bool, true, false, cond, not, ◌&&◌}
use Prim.Native.Nat.{ℕ, ◌+◌, ◌*◌, ◌/◌, ◌%◌, ◌≤◌, ◌<◌}
use native.Mathlib.Nat.{mul-le-mul_right, suc-mul, mul_comm, mod-add-div'}
use native.Mathlib.Omega.{arith}
use lib.Arith.{digits_div, digits_mod}
use lib.Dec.{eqb, ltb}
use lib.ListN.{length}
use borrow.Author.Tests.{ltb-true}
use Rattle.settings.specs.declared.ScissorBox.{ScissorBox}
use Rattle.scissor.specs.Scissor.{in_box, pixel_in, bounds_of, in_bounds}
use Rattle.scissor.specs.Check.{target_fits}
use Rattle.scissor.proofs.Boxes.{bounds_are}
use Rattle.scissor.proofs.Outcome.{target_is}
use Rattle.isolation.specs.Machine.{Act, Guest, In}
use Rattle.isolation.specs.Acts.{check}
use Rattle.frames.specs.State.{Place, sizes, pixel, byte, texture, Answer, refused}
use Rattle.frames.proofs.Calls.{KeptOn, check_kept, owed_by, paints_kept}
use Rattle.guests.specs.Calls.{Shared}
use Rattle.guests.specs.Guests.{draw, meaning, InBox, InWindow, bad_target, DrawOwes}
use Rattle.guests.specs.Draws.{Draws, in_scissor, painting, DrawReads, draw_writes, draw_does, DrawLaws}
use Rattle.guests.proofs.Choices.{same, JustSizes}

-- ---- a pixel in a box is one of the target

on_target : (width height : ℕ) (b : Option ScissorBox) (p : ℕ) → pixel_in width height b p ≡ true → (p % width < width) × (p / width < height)
unfolding in_box
on_target width height None p e =
    let t = and_parts (ltb (p % width) width) (ltb (p / width) height) e in (ltb-true _ _ t.0, ltb-true _ _ t.1)
on_target width height (Some b) p e =
    let t = and_parts (ltb (p % width) width) (ltb (p / width) height) (and_parts (ltb (p % width) width && ltb (p / width) height) _ e).0 in (ltb-true _ _ t.0, ltb-true _ _ t.1)

below : (width height p : ℕ) → p % width < width → p / width < height → p < width * height
below width height p a b = omega (arith, mod-add-div' p width, mul-le-mul_right width b, suc-mul (p / width) width, mul_comm width height)

-- and so it has its bytes and its depth, where 1 takes the target
pub room : (width height colors depths : ℕ) (b : Option ScissorBox) (p : ℕ) → target_fits width height colors depths ≡ true → pixel_in width height b p ≡ true
    → (p * 4 + 4 ≤ colors) × (p < depths)
room width height colors depths b p t e =
    let o = on_target width height b p e in
    let l : p < width * height = below width height p o.0 o.1 in
    let q = target_is width height colors depths t in
    (omega (arith, q.2), omega (arith, q.3))

-- a column and a row in the cut box make a pixel in the box
in_box_wide : (width height : ℕ) (b : Option ScissorBox) (x y : ℕ) → in_box width height b x y ≡ true → x < width
unfolding in_box
in_box_wide width height None x y e = ltb-true x width (and_parts (ltb x width) (ltb y height) e).0
in_box_wide width height (Some b) x y e = ltb-true x width (and_parts (ltb x width) (ltb y height) (and_parts (ltb x width && ltb y height) _ e).0).0

pub pixel_is_in : (width height : ℕ) (b : Option ScissorBox) (x y : ℕ) → in_bounds (bounds_of width height b) x y ≡ true → pixel_in width height b (y * width + x) ≡ true
pixel_is_in width height b x y e =
    let q : in_box width height b x y ≡ true = sym (bounds_are width height b x y) ∙ e in
    let k : x < width = in_box_wide width height b x y q in
    rw (digits_mod y k, digits_div y k) q

module _ {Item C : Type 0} (d : Draws Item C) (laws : DrawLaws d) where
  -- what 8 and 5 look at
  abbrev Looks : Place → Type 0
  Looks sizes = Unit {0}
  Looks (pixel p) = ⊥
  Looks (byte b) = ⊥
  Looks (texture n) = In n d.names

  abbrev inner : Act Shared Answer Place
  inner = check d.late Looks refused (painting d)

  abbrev whole : Act Shared Answer Place
  whole = check d.early JustSizes refused inner

  -- on states that pass
  abbrev On : Shared → Type 0
  On s = (Unit {0} × (eqb (d.early s) 0 ≡ true)) × (eqb (d.late s) 0 ≡ true)

  kept : (Q : Shared → ℕ → Type 0) → ((s : Shared) (p : ℕ) → On s → in_scissor d s.width s.height p ≡ true → Q s p) → KeptOn (λ s. Unit {0}) Q whole
  kept Q good =
      check_kept (λ s. Unit {0}) Q d.early JustSizes inner (λ p x. x) (λ s t x y g. laws.early_same s t (g sizes tt))
      (check_kept _ Q d.late Looks (painting d) (λ p x. x) (λ s t x y g. laws.late_same s t (g sizes tt) (λ n i. g (texture n) i))
      (record { laws = base.laws; keeps = base.keeps; stays = λ s p o u. ((base.stays s p o u).0, good s p o (base.stays s p o u).1) }))
    where
      base : KeptOn On (λ s p. in_scissor d s.width s.height p ≡ true) (painting d)
      base = paints_kept d.canvas d.names (in_scissor d) d.work laws.work_same On
          (λ s o. laws.fragments s (o.0.1, o.1)) (λ s o. laws.boxed s (o.0.1, o.1))
          (λ s o p e. room s.width s.height (length s.colors) (length s.depths) d.scissor p (laws.early_fits s o.0.1) e)

  reads : (s : Shared) (l : Place) → whole.Reads s l → DrawReads d s l
  reads s sizes r = tt
  reads s (pixel p) (inl r) = absurd r
  reads s (pixel p) (inr (e, inl r)) = absurd r
  reads s (pixel p) (inr (e, inr r)) = ((e, r.0), r.1)
  reads s (byte b) (inl r) = absurd r
  reads s (byte b) (inr (e, inl r)) = absurd r
  reads s (byte b) (inr (e, inr r)) = ((e, r.0), r.1)
  reads s (texture n) (inl r) = absurd r
  reads s (texture n) (inr (e, inl r)) = (e, r)
  reads s (texture n) (inr (e, inr r)) = (e, r.1)

  nothing : (x y : Bool) → cond x (cond y false false) false ≡ false
  nothing true y = neither y
  nothing false y = refl

  writes : (s : Shared) (l : Place) → whole.writes s l ≡ draw_writes d s l
  writes s sizes = nothing (eqb (d.early s) 0) (eqb (d.late s) 0)
  writes s (pixel p) = refl
  writes s (byte b) = nothing (eqb (d.early s) 0) (eqb (d.late s) 0)
  writes s (texture n) = nothing (eqb (d.early s) 0) (eqb (d.late s) 0)

-- THE DRAW: a draw whose parts keep their laws, and whose meaning is what its parts do, owes nothing more
pub draw_owed : {Draw Item C : Type 0} (drawing : Draw → Act Shared Answer Place) (scissor_of : Draw → Option ScissorBox) (window : Guest → ScissorBox) (a : Draw) (d : Draws Item C)
    → DrawLaws d → d.scissor ≡ scissor_of a → ((s : Shared) → draw_does d s ≡ (drawing a).does s)
    → ((s : Shared) (l : Place) → DrawReads d s l → (drawing a).Reads s l) → ((s : Shared) (l : Place) → draw_writes d s l ≡ (drawing a).writes s l)
    → ((s : Shared) (p : ℕ) → (drawing a).Reads s (pixel p) → DrawReads d s (pixel p))
    → DrawOwes drawing scissor_of window a
draw_owed drawing scissor_of window a d laws sc does rd wr back =
    owed_by (meaning drawing scissor_of) (InBox drawing scissor_of) (InWindow window) bad_target (draw a) (whole d laws)
    (kept d laws _ (λ s p o e. (good s o.0.1, subst (λ (b : Option ScissorBox). pixel_in s.width s.height b p ≡ true) sc e)))
    (λ s. ap (λ x. x.0) (does s)) (λ s l. same _ _ (ap (λ x. x.1) (does s)) l)
    (λ s l r. rd s l (reads d laws s l r)) (λ s l. writes d laws s l ∙ wr s l) (λ s p r. used s p (back s p r))
  where
    good : (s : Shared) → eqb (d.early s) 0 ≡ true → bad_target s.width s.height (length s.colors) (length s.depths) ≡ false
    good s e = ap not (laws.early_fits s e)

    used : (s : Shared) (p : ℕ) → DrawReads d s (pixel p) → (whole d laws).Reads s (pixel p)
    used s p r = inr (r.0.0, inr (r.0.1, r.1))
