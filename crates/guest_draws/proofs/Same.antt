-- What a draw's parts do is what draw_of says, and the parts keep the laws of a draw's parts. Assumes nothing.
use mathlib.Core.Path.{◌≡◌, refl, sym, ap, ◌∙◌}
use mathlib.Core.Bool.{Bool, true, false, cond, true≢false}
use Prim.Native.Nat.{ℕ}
use lib.Dec.{eqb}
use lib.ListN.{length}
use Rattle.scissor.specs.Check.{target_fits}
use Rattle.frames.specs.State.{Answer, drew, refused}
use Rattle.frames.specs.Gather.{Drawn}
use Rattle.pixels.specs.Way.{pixel_of, drawn_to}
use Rattle.draw_checks.specs.Checks.{early_check}
use Rattle.draw.specs.Draw.{Outcome, outcome, drew_all, draw_check, draw_passed, draw_of}
use Rattle.draw_reads.proofs.Taken.{items_local}
use Rattle.draw_reads.proofs.Runs.{draw_runs, items_within}
use Rattle.guests.specs.Calls.{Shared}
use Rattle.guests.specs.Draws.{painting, draw_does, DrawLaws}
use Rattle.guests.proofs.Choices.{one_number}
use Rattle.guests.proofs.Draws.{pixel_is_in}
use Rattle.guest_draws.specs.Draw.{DrawCall, records_of, early_number, late_number, drawing_of, parts, with_frame, drawing}
use Rattle.guest_draws.proofs.Named.{records_same}

-- ---- the laws of the parts

fits_of : (fits : Bool) (rest : ℕ) → eqb (cond fits rest 1) 0 ≡ true → fits ≡ true
fits_of true rest e = refl
fits_of false rest e = absurd (true≢false (sym e))

pub laws : (x : DrawCall) → DrawLaws (parts x)
laws x = record {
  early_same = λ s t z. rw (z.same_width, z.same_height, z.same_colors, z.same_depths);
  early_fits = λ s e. unfold early_check in fits_of (target_fits s.width s.height (length s.colors) (length s.depths)) _ e;
  late_same = λ s t z h. rw (z.same_store, records_same x s.textures t.textures h);
  work_same = λ w h f g e. rw (records_same x f g e);
  fragments = λ s p. items_local _ _ _;
  boxed = λ s p i m. pixel_is_in s.width s.height _ i.px i.py (items_within x.args.state s.width s.height x.args.a x.args.b x.args.c i m);
}

-- ---- the parts together

painted_is : (x : DrawCall) (s : Shared)
    → (painting (parts x)).does s ≡ (
      drew (draw_passed s.store s.width s.height x.args (records_of x s.textures) s.colors s.depths).count,
      with_frame s (draw_passed s.store s.width s.height x.args (records_of x s.textures) s.colors s.depths).colors
          (draw_passed s.store s.width s.height x.args (records_of x s.textures) s.colors s.depths).depths,
    )
unfolding draw_passed pixel_of
painted_is x s =
    ap (λ (c : Drawn). (drew c.count, with_frame s c.colors c.depths))
    (sym (draw_runs s.store (drawing_of x s.textures) s.width s.height x.args.a x.args.b x.args.c (drawn_to s.colors s.depths 0)))

pub parts_do : (x : DrawCall) (s : Shared) → draw_does (parts x) s ≡ (drawing x).does s
unfolding draw_of draw_check
parts_do x s =
    one_number (λ n. (refused n, s)) ((painting (parts x)).does s) (early_number x s) (late_number x s)
    ∙ go (eqb (cond (eqb (early_number x s) 0) (late_number x s) (early_number x s)) 0)
  where
    number : ℕ
    number = cond (eqb (early_number x s) 0) (late_number x s) (early_number x s)

    o : Outcome
    o = drew_all (draw_passed s.store s.width s.height x.args (records_of x s.textures) s.colors s.depths)

    left : Outcome → Answer × Shared
    left q = (q.answer, with_frame s q.colors q.depths)

    go : (b : Bool) → cond {A = Answer × Shared} b ((painting (parts x)).does s) (refused number, s) ≡ left (cond b o (outcome (refused number) s.colors s.depths))
    go true = painted_is x s
    go false = refl
