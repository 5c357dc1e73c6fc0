use Rattle.fragment.proofs.env.Goals as goal

-- With it the edit env_blend_without_its_color is refused for the equation, and not where a search gives up.
pub returns-in-Blend : goal.returns-in-Blend
returns-in-Blend c = rw c.in-Blend.is c.env_blend.ensures
