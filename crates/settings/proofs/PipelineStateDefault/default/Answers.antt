use Rattle.settings.proofs.PipelineStateDefault.default.Goals as goal

pub returns : goal.returns
returns c = c.new.ensures
