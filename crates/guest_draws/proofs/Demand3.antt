-- Demand 3, for every kind of call. Assumes nothing.
use mathlib.Core.Path.{◌≡◌, refl}
use Rattle.settings.specs.declared.ScissorBox.{ScissorBox}
use Rattle.isolation.specs.Machine.{Guest}
use Rattle.frames.specs.State.{Place, sizes, pixel, byte, texture}
use Rattle.guests.specs.Calls.{Shared}
use Rattle.guests.specs.Guests.{DrawOwes}
use Rattle.guests.specs.Draws.{DrawReads, draw_writes}
use Rattle.guests.proofs.Draws.{draw_owed}
use Rattle.guests.proofs.Guests.{each_as_alone, always_holds}
use Rattle.guest_draws.specs.Draw.{DrawCall, parts, draw_reads, draw_touches, drawing, scissor_of}
use Rattle.guest_draws.specs.EveryCall.{EveryCall, EveryList}
use Rattle.guest_draws.proofs.Same.{laws, parts_do}

-- ---- what it reads and writes is what its parts read and write

reads : (x : DrawCall) (s : Shared) (l : Place) → DrawReads (parts x) s l → draw_reads x s l
reads x s sizes r = r
reads x s (pixel p) r = r
reads x s (byte b) r = r
reads x s (texture n) r = r

writes : (x : DrawCall) (s : Shared) (l : Place) → draw_writes (parts x) s l ≡ draw_touches x s l
writes x s sizes = refl
writes x s (pixel p) = refl
writes x s (byte b) = refl
writes x s (texture n) = refl

-- what the draw owes
pub draw_triangle_owed : (window : Guest → ScissorBox) (x : DrawCall) → DrawOwes drawing scissor_of window x
draw_triangle_owed window x = draw_owed drawing scissor_of window x (parts x) (laws x) refl (parts_do x) (reads x) (writes x) (λ s p r. r)

-- DEMAND 3
pub demand_3 : (window : Guest → ScissorBox) → EveryCall window
demand_3 window = each_as_alone drawing scissor_of window (draw_triangle_owed window)

-- with no premise
pub always : (window : Guest → ScissorBox) → EveryList window
always window = always_holds drawing scissor_of window (draw_triangle_owed window)
