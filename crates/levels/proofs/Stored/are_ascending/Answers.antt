use Rattle.std.proofs.Common.{◌∙◌, sym, arith}
use Rattle.levels.proofs.Valid.{fits_at, fits_known, complete_present}
use Rattle.levels.proofs.Apart.{ascending_on, ascending_stop, ascending_end, starts_in, starts_late, end_in, starts_idle, end_idle}
use Rattle.levels.proofs.Stored.are_ascending.Goals as goal
use Rattle.levels.proofs.Stored.are_ascending.Goals.{then-is_complete+else-m-end, else-is_complete}

pub returns-then-m-end : goal.returns-then-m-end
returns-then-m-end c =
    sym (ascending_stop c.args.self.now.levels c.loop-m.m-index c.loop-m.end (omega arith) (starts_late _ _ (sym c.is_complete.ensures ∙ c.if-is_complete.true) c.if-m-end.true))
    ∙ c.loop-m.invariant

pub size_of-requires : goal.size_of-requires
size_of-requires c =
    let k = fits_known _ _ (fits_at _ _ c.args.self.now.fit c.loop-m.m-index) (complete_present _ (sym c.is_complete.ensures ∙ c.if-is_complete.true)) in
    (k.wide, k.high)

pub overflow_add-end : goal.overflow_add-end
overflow_add-end c =
    let k = fits_known _ _ (fits_at _ _ c.args.self.now.fit c.loop-m.m-index) (complete_present _ (sym c.is_complete.ensures ∙ c.if-is_complete.true)) in
    let e = c.size_of.ensures in
    omega (arith, k.within)

pub loop-m-preserved : goal.loop-m-preserved
loop-m-preserved c = elim c.if-is_complete.branch [
  | then-is_complete+else-m-end w ↦
      let t = sym c.is_complete.ensures ∙ w.if-is_complete.true in
      rw (w.end-is, w.size_of.ensures, sym (end_in c.loop-m.end _ t))
      (ascending_on c.args.self.now.levels c.loop-m.m-index c.loop-m.end (omega arith) (starts_in _ _ t w.if-m-end.false) ∙ c.loop-m.invariant)
  | else-is_complete w ↦
      let t = sym c.is_complete.ensures ∙ w.if-is_complete.false in
      rw (w.end-is, sym (end_idle c.loop-m.end _ t))
      (ascending_on c.args.self.now.levels c.loop-m.m-index c.loop-m.end (omega arith) (starts_idle _ _ t) ∙ c.loop-m.invariant)
]

pub returns : goal.returns
returns c = sym (ascending_end c.args.self.now.levels c.loop-m.m-index c.loop-m.end (omega arith)) ∙ c.loop-m.invariant
