use Rattle.std.proofs.Common.{sym, ◌∙◌}
use Rattle.clip.proofs.Laws.{clip_all_in, clip_walked}
use Rattle.clip.proofs.clip_plane.Goals as goal

pub returns-then-are_inside : goal.returns-then-are_inside
returns-then-are_inside c = clip_all_in c.args.plane c.args.polygon.now (sym c.are_inside.ensures ∙ c.if-are_inside.true)

pub returns : goal.returns
returns c = c.walk_edges.ensures ∙ clip_walked c.args.plane c.args.polygon.now (sym c.are_inside.ensures ∙ c.if-are_inside.false)
