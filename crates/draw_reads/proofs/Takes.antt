-- A run of fragments takes a byte exactly if one of them gets as far as its stages and one of these takes it. Assumes nothing.
use mathlib.Core.Path.{◌≡◌, refl, ap, subst}
use mathlib.Core.Logic.{◌⊎◌, inl, inr}
use mathlib.Core.Bool.{Bool, true, false, cond}
use mathlib.Core.Option.{none}
use mathlib.Core.List.{List, [], ◌∷◌, ◌++◌}
use Prim.Native.Nat.{ℕ, zero, suc, ◌<◌}
use native.Mathlib.Decide.{dec_lt}
use native.Mathlib.Omega.{arith}
use Rattle.lists.specs.Lists.{flat}
use Rattle.coverage.specs.Coverage.{covered_by}
use Rattle.stages.specs.Stages.{stages_addresses}
use Rattle.isolation.specs.Machine.{In}
use Rattle.frames.specs.State.{Pixel, pixel_at}
use Rattle.frames.specs.Fragments.{paint, taken}
use Rattle.frames.specs.Gather.{Drawn, Frag}
use Rattle.frames.proofs.Fragments.{in_left, in_right, in_either}
use Rattle.pixels.specs.Way.{Drawing, reaches, rec_of, fragment_of, left_by, frag_at}
use Rattle.draw_reads.specs.Items.{Item, pixel_no, items_work}
use Rattle.draw_reads.specs.Pixels.{frag_of}
use Rattle.draw_reads.specs.Takes.{item_weights, met, TakesAt, Takes}

-- ---- stage by stage

record Part (n : ℕ) (f : ℕ → List ℕ) (b : ℕ) : Type 0 where
  at : ℕ
  below : at < n
  here : In b (f at)

part_of : (n : ℕ) (f : ℕ → List ℕ) (b : ℕ) → In b (flat n f) → Part n f b
unfolding flat
part_of zero f b m = absurd m
part_of (suc n) f b m = go (in_either b (flat n f) (f n) m) (part_of n f b)
  where
    go : In b (flat n f) ⊎ In b (f n) → (In b (flat n f) → Part n f b) → Part (suc n) f b
    go (inl x) r = let p = r x in record { at = p.at; below = omega (arith, p.below); here = p.here }
    go (inr x) r = record { at = n; below = omega arith; here = x }

part_in : (n : ℕ) (f : ℕ → List ℕ) (b i : ℕ) → i < n → In b (f i) → In b (flat n f)
unfolding flat
part_in zero f b i k m = absurd (omega arith)
part_in (suc n) f b i k m = go (dec_lt i n) (part_in n f b i)
  where
    go : Dec (i < n) → (i < n → In b (f i) → In b (flat n f)) → In b (flat n f ++ f n)
    go (yes x) r = in_left b (flat n f) (f n) (r x m)
    go (no x) r = let e : i ≡ n = omega arith in in_right b (flat n f) (f n) (subst (λ (j : ℕ). In b (f j)) e m)

module _ (st : List ℕ) (d : Drawing) (width : ℕ) where
  -- ---- one fragment

  abbrev addresses : Item → List ℕ
  addresses i = stages_addresses d.stages d.count d.textures i.tri (item_weights i) (rec_of i.tri (item_weights i))

  pub takes_at : (i : Item) (old : Pixel) (b : ℕ) → In b (frag_of st d i old).took → TakesAt st d width i old b
  unfolding frag_at stages_addresses
  takes_at i old b m = go (covered_by (item_weights i)) (reaches d.state i.tri (item_weights i) old.depth) refl refl m
    where
      go : (x y : Bool) → covered_by (item_weights i) ≡ x → reaches d.state i.tri (item_weights i) old.depth ≡ y
          → In b (cond {A = Frag} x (record { put = left_by d.state (fragment_of st d i.tri (item_weights i) old.depth) old; took = cond y (addresses i) [] }) (record { put = none; took = [] })).took
          → TakesAt st d width i old b
      go true true p q k =
          let z = part_of d.count _ b k in
          record { covered = p; reached = q; stage = z.at; used = z.below; taken = z.here }
      go true false p q k = absurd k
      go false y p q k = absurd k

  pub at_takes : (i : Item) (old : Pixel) (b : ℕ) → TakesAt st d width i old b → In b (frag_of st d i old).took
  unfolding frag_at stages_addresses
  at_takes i old b t = rw (t.covered, t.reached) (part_in d.count _ b t.stage t.used t.taken)

  -- ---- a run of them

  abbrev run_took : List Item → Drawn → List ℕ
  run_took is c = taken ((items_work d width is).step st) ((items_work d width is).took st) is c

  pub takes : (is : List Item) (c : Drawn) (b : ℕ) → In b (run_took is c) → Takes st d width is c b
  unfolding taken paint
  takes [] c b m = absurd m
  takes (i ∷ is) c b m = go (in_either b (frag_of st d i old).took _ m) (takes is ((items_work d width is).step st i c) b)
    where
      old : Pixel
      old = pixel_at c.colors c.depths (pixel_no width i)

      go : In b (frag_of st d i old).took ⊎ In b (run_took is ((items_work d width is).step st i c))
          → (In b (run_took is ((items_work d width is).step st i c)) → Takes st d width is ((items_work d width is).step st i c) b) → Takes st d width (i ∷ is) c b
      go (inl x) r = record { before = []; item = i; after = is; parts = refl; takes = takes_at i old b x }
      go (inr x) r = let t = r x in record { before = i ∷ t.before; item = t.item; after = t.after; parts = ap (λ l. i ∷ l) t.parts; takes = t.takes }

  taken_there : (before : List Item) (i : Item) (after : List Item) (c : Drawn) (b : ℕ) → TakesAt st d width i (met st d width before i c) b → In b (run_took (before ++ (i ∷ after)) c)
  unfolding taken paint
  taken_there [] i after c b t = in_left b (frag_of st d i (met st d width [] i c)).took (run_took after ((items_work d width after).step st i c)) (at_takes i _ b t)
  taken_there (j ∷ before) i after c b t =
      let k = (items_work d width before).step st j c in
      in_right b (frag_of st d j (pixel_at c.colors c.depths (pixel_no width j))).took (run_took (before ++ (i ∷ after)) k) (taken_there before i after k b t)

  pub takes_in : (is : List Item) (c : Drawn) (b : ℕ) → Takes st d width is c b → In b (run_took is c)
  takes_in is c b t = rw t.parts (taken_there t.before t.item t.after c b t.takes)
