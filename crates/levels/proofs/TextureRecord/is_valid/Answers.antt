use Rattle.levels.proofs.TextureRecord.is_valid.Goals as goal

pub returns : goal.returns
returns c = c.is_valid.ensures
