use Rattle.std.proofs.Common.{◌≡◌, ◌≤◌, length, take}
use Rattle.probes.specs.Corners.{corners_of}
use Rattle.probes.proofs.flat_polygon.put_corners.Given as goal

abbrev pub invariant-loop-i : goal.invariant-loop-i
invariant-loop-i l = (714 ≤ length l.polygon) × (corners_of l.i l.polygon ≡ take l.i l.from)
