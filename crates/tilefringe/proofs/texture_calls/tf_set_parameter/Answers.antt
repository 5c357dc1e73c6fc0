use Rattle.std.proofs.Common.{refl, sym, ap, is_some}
use Rattle.layouts.proofs.RoundTrip.{known_length}
use Rattle.tilefringe.specs.TextureCalls.{set, set_call}
use Rattle.tilefringe.proofs.texture_calls.tf_set_parameter.Goals as goal

pub returns-in_default : goal.returns-in_default
unfolding set_call
returns-in_default c = rw (sym c.in_default.ensures) refl

pub put_set-requires : goal.put_set-requires
put_set-requires c = known_length _ (ap is_some (sym c.in-Some.ensures))

pub returns : goal.returns
unfolding set_call
returns c =
    rw (sym c.in-Some.ensures, c.number.ensures, c.put_set.ensures.number, c.put_set.ensures.layout)
    (ap (set c.args.layout.now c.args.pname c.args.value) c.set_parameter-set.ensures)
