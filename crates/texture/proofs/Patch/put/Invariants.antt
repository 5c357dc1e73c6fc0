use Rattle.std.proofs.Common.{◌≡◌}
use Rattle.lists.specs.Lists.{iter}
use Rattle.texture.specs.Patch.{patch_row}
use Rattle.texture.proofs.Patch.put.Given as goal

abbrev pub invariant-loop-r : goal.invariant-loop-r
invariant-loop-r l = l.store ≡ iter l.r (patch_row l.self.m l.self.area.x l.self.area.y l.self.area.width l.self.texels.now) l.initial.store
