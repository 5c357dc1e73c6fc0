use mathlib.Core.Path.{sym, ◌∙◌}
use Rattle.levels.proofs.Apart.{ascending_apart}
use Rattle.levels.proofs.Stored.are_apart.Goals as goal

pub returns-then-are_ascending : goal.returns-then-are_ascending
returns-then-are_ascending c = c.if-are_ascending.true ∙ sym (ascending_apart _ 0 (sym c.are_ascending.ensures ∙ c.if-are_ascending.true))
