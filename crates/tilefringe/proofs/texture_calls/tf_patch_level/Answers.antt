use Rattle.std.proofs.Common.{refl, ap}
use Rattle.tilefringe.specs.TextureCalls.{patched, patch_call}
use Rattle.tilefringe.proofs.texture_calls.tf_patch_level.Goals as goal

pub returns-in_default : goal.returns-in_default
unfolding patch_call
returns-in_default c = rw c.in_default.ensures refl

pub returns : goal.returns
unfolding patch_call
returns c =
    let e = rw c.in-Some.ensures.0 at c.patch_level.ensures in
    rw (c.in-Some.ensures.1, c.number.ensures) (ap (patched c.args.layout.now) e)
