-- What becomes of each pixel of the frame in a draw: its own fragments in order, from its own colour and depth and the texels that
-- they take. The draw's count is the sum of all pixels' writes. Assumes nothing.
use mathlib.Core.Path.{◌≡◌, ap, ◌∙◌}
use mathlib.Core.Bool.{true}
use mathlib.Core.List.{List}
use Prim.Native.Nat.{ℕ, ◌+◌, ◌*◌, ◌≤◌, ◌<◌}
use native.Mathlib.Omega.{arith}
use lib.Dec.{eqb}
use borrow.Author.Tests.{eqb-true, eq-eqb}
use lib.ListN.{length}
use Rattle.scissor.specs.Check.{target_fits}
use Rattle.scissor.proofs.Outcome.{target_is}
use Rattle.frames.specs.State.{pixel_at, drew}
use Rattle.frames.specs.Gather.{Drawn}
use Rattle.pixels.specs.Way.{Drawing, drawn_to}
use Rattle.draw.specs.Draw.{draw_check, draw_passed, draw_of}
use Rattle.draw.proofs.Passed.{zero_first}
use Rattle.draw_reads.specs.Items.{Item, draw_items}
use Rattle.draw_reads.specs.Pixels.{fragments_at, pixel_after, pixel_writes, total}
use Rattle.draw_reads.proofs.Runs.{draw_runs, items_within}
use Rattle.draw_reads.proofs.Pixels.{drawn_pixel}
use Rattle.draw_reads.proofs.Counts.{run_count}
use Rattle.guests.specs.Calls.{Shared}
use Rattle.guests.proofs.Draws.{room, pixel_is_in}
use Rattle.guest_draws.specs.Draw.{DrawCall, scissor_of, early_number, late_number, draw_number, drawing_of, drawing}
use Rattle.guest_draws.proofs.Same.{laws}

pub draw_pixel : (x : DrawCall) (s : Shared) (p : ℕ) → eqb (draw_number x s) 0 ≡ true → p * 4 + 4 ≤ length s.colors → p < length s.depths
    → pixel_at ((drawing x).does s).1.colors ((drawing x).does s).1.depths p
    ≡ pixel_after s.store (drawing_of x s.textures) (fragments_at s.width p (draw_items x.args.state s.width s.height x.args.a x.args.b x.args.c))
    (pixel_at s.colors s.depths p)
unfolding draw_of draw_passed
draw_pixel x s p e f g =
    rw e (drawn_pixel s.store (drawing_of x s.textures) s.width s.height x.args.a x.args.b x.args.c s.colors s.depths 0 p f g)

-- where 1 takes the target, the pixels that have a depth have their bytes, and the fragments lie among them
module _ (x : DrawCall) (s : Shared) (e : eqb (draw_number x s) 0 ≡ true) where
  fits : target_fits s.width s.height (length s.colors) (length s.depths) ≡ true
  unfolding draw_check
  fits = (laws x).early_fits s (eq-eqb _ 0 (zero_first (early_number x s) (late_number x s) (eqb-true _ 0 e)))

  on_frame : (p : ℕ) → p < length s.depths → (p * 4 + 4 ≤ length s.colors) × (p < length s.depths)
  on_frame p b =
      let q = target_is s.width s.height (length s.colors) (length s.depths) fits in
      (omega (arith, q.2, q.3), b)

  -- 01, port order 7: the count is the number of pixel writes
  pub draw_count : ((drawing x).does s).0 ≡ drew (total (length s.depths) (λ p. pixel_writes s.store (drawing_of x s.textures)
      (fragments_at s.width p (draw_items x.args.state s.width s.height x.args.a x.args.b x.args.c)) (pixel_at s.colors s.depths p)))
  unfolding draw_of draw_passed
  draw_count = rw e (ap drew (ap (λ (k : Drawn). k.count) (draw_runs s.store d s.width s.height x.args.a x.args.b x.args.c begun)
      ∙ run_count s.store d s.width (length s.depths) items begun
      (λ i m. (room s.width s.height (length s.colors) (length s.depths) (scissor_of x) _ fits
      (pixel_is_in s.width s.height (scissor_of x) i.px i.py (items_within x.args.state s.width s.height x.args.a x.args.b x.args.c i m))).1) on_frame ∙ from_none _))
    where
      from_none : (n : ℕ) → 0 + n ≡ n
      from_none n = omega arith

      d : Drawing
      d = drawing_of x s.textures

      items : List Item
      items = draw_items x.args.state s.width s.height x.args.a x.args.b x.args.c

      begun : Drawn
      begun = drawn_to s.colors s.depths 0
