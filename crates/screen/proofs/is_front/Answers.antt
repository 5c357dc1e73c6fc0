use Rattle.screen.proofs.is_front.Goals as goal

pub returns-in-Ccw : goal.returns-in-Ccw
returns-in-Ccw c = rw c.in-Ccw.is

pub returns-in-Cw : goal.returns-in-Cw
returns-in-Cw c = rw c.in-Cw.is
