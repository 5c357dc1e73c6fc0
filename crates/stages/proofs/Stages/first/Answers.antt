use native.Mathlib.Omega.{arith}
use mathlib.Core.Path.{◌∙◌}
use Rattle.stages.proofs.Single.{one_stage}
use Rattle.stages.proofs.Stages.first.Goals as goal

pub stage_at-requires : goal.stage_at-requires
stage_at-requires c = record { valid = (c.args.self.now.fit.valid 0 (omega (arith, c.requires)), c.args.self.now.fit.units 0 (omega (arith, c.requires))) }

pub returns : goal.returns
returns c = c.stage_at.ensures ∙ one_stage _ _ _ _ c.args.t c.args.w _ _ c.requires
