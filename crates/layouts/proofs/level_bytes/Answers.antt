use Rattle.std.proofs.Common.{◌≡◌, Bool, true, false, cond, refl, ◌∙◌}
use Rattle.std.specs.Int.{from_bool}
use Rattle.layouts.specs.Records.{level_bytes}
use Rattle.layouts.proofs.level_bytes.Goals as goal

flag_is : (p : Bool) → from_bool p ≡ cond p 1 0
flag_is true = refl
flag_is false = refl

pub returns : goal.returns
unfolding level_bytes
returns c =
    rw (c.copy_from_slice.ensures.after, c.copy_from_slice-2.ensures.after, c.copy_from_slice-3.ensures.after, c.to_le_bytes.ensures, c.to_le_bytes-2.ensures, c.to_le_bytes-3.ensures, c.from.ensures ∙ flag_is c.args.m.present)
    refl
