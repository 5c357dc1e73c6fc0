use Rattle.std.proofs.Common.{mod-lt, arith, lit<}
use Rattle.detail.proofs.Fractions.{reach, lowest}
use Rattle.detail.proofs.LevelTable.start.Goals as goal

pub returns-then-s-self : goal.returns-then-s-self
returns-then-s-self c = (omega arith, lowest c.args.s.m c.args.s.at_least_one)

pub returns : goal.returns
returns c =
    let i = mod-lt c.guess.result (lit< {m = 0} {n = 128} tt) in
    (i, reach _ _ _ (c.args.self.now.are_thresholds.entry _ i) c.args.s.positive c.if-s-self.false)
