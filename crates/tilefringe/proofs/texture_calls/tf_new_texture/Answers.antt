use mathlib.Core.Path.{refl}
use borrow.Author.Tests.{eq-eqb, ne_eqb}
use Rattle.lists.proofs.Choice.{yes, no}
use Rattle.tilefringe.specs.TextureCalls.{new_call}
use Rattle.tilefringe.proofs.texture_calls.tf_new_texture.Goals as goal

pub returns-then-layout-ne-SIZE : goal.returns-then-layout-ne-SIZE
unfolding new_call
returns-then-layout-ne-SIZE c = no _ (ne_eqb _ _ c.if-layout-ne-SIZE.true) refl

pub returns : goal.returns
unfolding new_call
returns c = yes _ (eq-eqb _ _ c.if-layout-ne-SIZE.false) (rw (c.write_record.ensures, c.new.ensures))
