use borrow.Author.Rules.{rules}
use mathlib.Core.Path.{◌≡◌, ◌∙◌}
use native.Mathlib.Omega.{arith}
use lib.ListN.{length}
use Rattle.std.proofs.lemmas.List.{length_push}
use Rattle.std.proofs.lemmas.Slice.Zip.{zip_turn, zip_end}
use Rattle.lists.proofs.Turns.{iter_none, iter_more}
use Rattle.stages.specs.Stages.{no_stage, no_texture, stage_step, stages_color}
use Rattle.stages.proofs.Stages.color.Goals as goal

pub loop-stage-init : goal.loop-stage-init
loop-stage-init c = iter_none _ _

pub loop-stage-preserved : goal.loop-stage-preserved
unfolding stage_step
loop-stage-preserved c =
    let at = zip_turn c.args.self.now.stages.now c.args.self.now.textures.now c.loop-stage.yielded _ _ c.next.new.self _ (search rules) (search rules) c.loop-stage.yielded_by _ c.in-Some.is c.next.ensures.steps in
    let one = length_push c.loop-stage.yielded (c.in-Some.stage, c.in-Some.texture) in
    c.stage_at-color.ensures ∙ rw (one, at.2 no_stage, at.3 no_texture, c.loop-stage.invariant) (iter_more _ _ _)

pub returns : goal.returns
unfolding stages_color
returns c =
    let end = zip_end c.args.self.now.stages.now c.args.self.now.textures.now c.loop-stage.yielded _ _ c.next.new.self _ (search rules) (search rules) c.loop-stage.yielded_by c.in-None.is c.next.ensures.steps in
    let e : length c.loop-stage.yielded ≡ length c.args.self.now.stages.now = omega (arith, end, c.args.self.now.each) in
    c.loop-stage.invariant ∙ rw e
