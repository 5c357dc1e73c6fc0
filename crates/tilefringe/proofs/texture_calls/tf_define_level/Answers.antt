use Rattle.std.proofs.Common.{refl, sym, ap, is_some}
use Rattle.layouts.proofs.RoundTrip.{known_length}
use Rattle.tilefringe.specs.TextureCalls.{defined, define_call}
use Rattle.tilefringe.proofs.texture_calls.tf_define_level.Goals as goal

pub returns-in_default : goal.returns-in_default
unfolding define_call
returns-in_default c = rw (sym c.in_default.ensures) refl

pub put_defined-requires : goal.put_defined-requires
put_defined-requires c = known_length _ (ap is_some (sym c.in-Some.ensures))

pub returns : goal.returns
unfolding define_call
returns c =
    rw (sym c.in-Some.ensures, c.number.ensures, c.put_defined.ensures.number, c.put_defined.ensures.layout c.in-Some.texture)
    (ap (defined c.args.layout.now c.args.level) c.define_level-defined.ensures)
