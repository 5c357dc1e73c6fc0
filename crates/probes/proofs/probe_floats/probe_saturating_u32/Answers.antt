use Rattle.probes.proofs.probe_floats.probe_saturating_u32.Goals as goal

-- Kept: without it the must-fail edit u32_wraps is refused at a limit of the search, and not for a fact (8a)
pub returns : goal.returns
returns c = cc
