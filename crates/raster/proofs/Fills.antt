-- A loop of a fill: what is left of it from here gives the whole. How far a count can have come. Assumes nothing.
use mathlib.Core.Path.{◌≡◌, refl, sym, ap, ◌∙◌}
use mathlib.Core.List.{List}
use mathlib.Core.Option.{Option, none, some}
use Prim.Native.Nat.{ℕ, ◌+◌, ◌*◌, ◌≤◌, ◌<◌}
use native.Mathlib.Omega.{arith}
use Rattle.lists.specs.Lists.{between}
use Rattle.lists.proofs.Turns.{between_more, between_done}
use Rattle.frames.specs.State.{Pixel, pixel_at}
use Rattle.frames.specs.Gather.{Drawn, put_pixel}
use Rattle.coverage.specs.declared.Primitive.{Primitive}
use Rattle.pixels.specs.Way.{Drawing, frag_at, pixel_of}
use Rattle.pixels.specs.declared.target.Target.{Target}
use Rattle.pixels.specs.Targets.{drawn_on, Same}

-- at k of the loop to e; first: the target where it began
pub record Filling (step : ℕ → Drawn → Drawn) (e : ℕ) (whole : Drawn) (first now : Target) (k : ℕ) : Type 0 where
  pub rest : between step k e (drawn_on now) ≡ whole
  pub same : Same first now

pub same_still : {t : Target} → Same t t
same_still = record { width = refl; within = refl; pixels = refl; colors = refl; depths = refl }

pub same_on : {s t u : Target} → Same s t → Same t u → Same s u
same_on a b = record {
  width = b.width ∙ a.width;
  within = b.within ∙ a.within;
  pixels = b.pixels ∙ a.pixels;
  colors = b.colors ∙ a.colors;
  depths = b.depths ∙ a.depths;
}

module _ {step : ℕ → Drawn → Drawn} {e : ℕ} {whole : Drawn} {first now : Target} {k : ℕ} (f : Filling step e whole first now k) where
  pub filled_more : k < e → {next : Target} → drawn_on next ≡ step k (drawn_on now) → Same now next → Filling step e whole first next (k + 1)
  filled_more h q s = record {
    rest = ap (between step (k + 1) e) q ∙ sym (between_more step (drawn_on now) k e h) ∙ f.rest;
    same = same_on f.same s;
  }

  pub fill_end : e ≤ k → drawn_on now ≡ whole
  fill_end h = sym (between_done step (drawn_on now) k e h) ∙ f.rest

-- a pixel adds 1 at most
put_count : (c : Drawn) (p : ℕ) (o : Option Pixel) → (put_pixel c p o).count ≤ c.count + 1
unfolding put_pixel
put_count c p none = omega arith
put_count c p (some x) = omega arith

pub pixel_count : (store : List ℕ) (d : Drawing) (t : Primitive) (width py px : ℕ) (c : Drawn) {s : Drawn} → s ≡ pixel_of store d t width py px c → s.count ≤ c.count + 1
unfolding pixel_of
pixel_count store d t width py px c e =
    rw e (put_count c (py * width + px) (frag_at store d t px py (pixel_at c.colors c.depths (py * width + px))).put)
