-- The worked guests pass the test, and so what is computed of one order holds of all. Assumes nothing.
use mathlib.Core.Path.{◌≡◌, refl, sym, ap, ◌∙◌}
use mathlib.Core.Bool.{true}
use Rattle.scissor.specs.Scissor.{cut_of, bounds_of}
use Rattle.draw_checks.specs.Checks.{all_below}
use Rattle.isolation.specs.Machine.{run}
use Rattle.orders.specs.Plans.{M, EveryOrder}
use Rattle.orders.specs.Tests.{calls_of, first, has_byte, covered, untouched, tidy_test, may_start, turns_from, in_turn}
use Rattle.orders.proofs.Tests.{yes_any_order}
use Rattle.orders.proofs.InTurn.{in_turn_is, one_run}
use Rattle.worked_draws.specs.Worked.{start}
use Rattle.worked_draws.proofs.Opened.{opened}
use Rattle.worked_orders.specs.Worked.{guests, plan, Comes, InEveryOrder, Rules}

pub passes : may_start guests start ≡ true
unfolding opened may_start tidy_test untouched covered has_byte first all_below bounds_of cut_of
passes = refl

pub every : EveryOrder plan (calls_of guests) start
every = yes_any_order guests start passes

-- guest after guest is one order, and what comes of it is computed
in_turn_comes : Comes (in_turn guests)
unfolding opened turns_from
in_turn_comes = record {
  answers_0 = refl;
  answers_1 = refl;
  answers_2 = refl;
  bill_0 = refl;
  bill_1 = refl;
  bill_2 = refl;
  colours = refl;
  depths = refl;
  store = refl;
  record_0 = refl;
  record_1 = refl;
}

pub in_every_order : InEveryOrder
in_every_order ms same =
    let one = in_turn_is guests in
    let left : run (M plan) ms start ≡ run (M plan) (in_turn guests) start = one_run guests start passes ms same in
    record {
      answers_0 = every.answers ms same 0 ∙ sym (every.answers (in_turn guests) one 0) ∙ in_turn_comes.answers_0;
      answers_1 = every.answers ms same 1 ∙ sym (every.answers (in_turn guests) one 1) ∙ in_turn_comes.answers_1;
      answers_2 = every.answers ms same 2 ∙ sym (every.answers (in_turn guests) one 2) ∙ in_turn_comes.answers_2;
      bill_0 = every.bills ms same 0 ∙ sym (every.bills (in_turn guests) one 0) ∙ in_turn_comes.bill_0;
      bill_1 = every.bills ms same 1 ∙ sym (every.bills (in_turn guests) one 1) ∙ in_turn_comes.bill_1;
      bill_2 = every.bills ms same 2 ∙ sym (every.bills (in_turn guests) one 2) ∙ in_turn_comes.bill_2;
      colours = ap (λ t. t.colors) left ∙ in_turn_comes.colours;
      depths = ap (λ t. t.depths) left ∙ in_turn_comes.depths;
      store = ap (λ t. t.store) left ∙ in_turn_comes.store;
      record_0 = ap (λ t. t.textures 0) left ∙ in_turn_comes.record_0;
      record_1 = ap (λ t. t.textures 1) left ∙ in_turn_comes.record_1;
    }

pub rules : Rules
unfolding opened may_start tidy_test untouched covered has_byte first all_below bounds_of cut_of
rules = record {
  windows_apart = (refl, refl);
  parts_share_none = (refl, refl);
  color_within = (refl, refl);
  depth_within = (refl, refl);
  draw_within = (refl, refl);
  read_own = (refl, refl);
  define_own = (refl, refl);
  patch_own = (refl, refl);
  set_own = (refl, refl);
  new_own = (refl, refl);
  filled_own = (refl, refl);
  held_own = (refl, refl);
  shared_nobodys = (refl, refl);
  refused_names = (refl, refl);
}
