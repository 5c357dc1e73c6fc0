use Rattle.settings.proofs.CompareFunc.test.Goals as goal

pub returns-in-Less : goal.returns-in-Less
returns-in-Less c = rw c.in-Less.is

pub returns-in-Equal : goal.returns-in-Equal
returns-in-Equal c = rw c.in-Equal.is

pub returns-in-Lequal : goal.returns-in-Lequal
returns-in-Lequal c = rw c.in-Lequal.is

pub returns-in-Greater : goal.returns-in-Greater
returns-in-Greater c = rw c.in-Greater.is

pub returns-in-Notequal : goal.returns-in-Notequal
returns-in-Notequal c = rw c.in-Notequal.is

pub returns-in-Gequal : goal.returns-in-Gequal
returns-in-Gequal c = rw c.in-Gequal.is
