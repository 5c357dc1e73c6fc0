-- A draw hangs on the records of the units that its stages in use name, and on no byte of another's. Assumes nothing.
use Prim.Native.Nat.{ℕ, ◌*◌, ◌<◌}
use native.Mathlib.Omega.{arith}
use mathlib.Core.Path.{◌≡◌, refl}
use mathlib.Core.Bool.{Bool, true, false, cond}
use mathlib.Core.List.{List}
use lib.Dec.{eqb}
use lib.ListN.{length, take, get_or, length-take}
use lib.Seq.{get_or-take}
use borrow.Author.Tests.{eq-eqb}
use lib.Ieee.{Float}
use Rattle.std.proofs.Common.{Some, None, unwrap_or}
use Rattle.std.proofs.lemmas.List.Folds.{list_any_at}
use Rattle.levels.specs.Levels.{new_texture}
use Rattle.settings.specs.declared.TextureStage.{TextureStage}
use Rattle.draw_layouts.specs.declared.Stages.{Stages}
use Rattle.draw_layouts.specs.Stages.{used, read_stages}
use Rattle.draw_layouts.specs.Units.{read_unit, named, unit_or, four_read, read_units}
use Rattle.tilefringe.specs.DrawCalls.{no_stages, draw_call}

-- two layouts of one length, with the same records at the units that are named
abbrev Alike : List TextureStage → List ℕ → List ℕ → Type 0
Alike stages b b' = (length b ≡ length b') × ((u : ℕ) → named stages u ≡ true → read_unit b (u * 244) ≡ read_unit b' (u * 244))

module _ (stages : List TextureStage) (b b' : List ℕ) (same : Alike stages b b') where
  same_unit : (u : ℕ) → unit_or stages b u ≡ unit_or stages b' u
  unfolding unit_or
  same_unit u = go (named stages u) (same.1 u)
    where
      go : (y : Bool) → (y ≡ true → read_unit b (u * 244) ≡ read_unit b' (u * 244))
          → cond y (read_unit b (u * 244)) (Some new_texture) ≡ cond y (read_unit b' (u * 244)) (Some new_texture)
      go true e = e refl
      go false e = refl

  pub same_units : read_units stages b ≡ read_units stages b'
  unfolding read_units
  same_units = λ i. cond (eqb (same.0 i) 976) (four_read (same_unit 0 i) (same_unit 1 i) (same_unit 2 i) (same_unit 3 i)) None

-- the call answers and leaves the same
pub same_call : (store : List ℕ) (w h : ℕ) (b b' settings stages vertices : List ℕ) (cs : List ℕ) (ds : List Float)
    → Alike (used (unwrap_or (read_stages stages) no_stages)) b b' → draw_call store w h b settings stages vertices cs ds ≡ draw_call store w h b' settings stages vertices cs ds
unfolding draw_call
same_call store w h b b' settings stages vertices cs ds same = rw (same_units _ b b' same) refl

-- and no record of another unit is read: each stage in use, whose unit's record it reads, names it (bound_to of crate draw)
pub in_use_named : (x : Stages) (i : ℕ) (d : TextureStage) → i < x.count → i < length x.first → named (used x) (get_or x.first i d).unit ≡ true
unfolding named used
in_use_named x i d h o =
    let u = (get_or x.first i d).unit in
    list_any_at (λ (s : TextureStage). eqb s.unit u) (take x.count x.first) i d (rw (length-take x.count x.first) (omega arith))
    (rw (get_or-take x.count x.first i d h) (eq-eqb u u refl))
