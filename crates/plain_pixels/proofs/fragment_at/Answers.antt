use mathlib.Core.Path.{◌∙◌, sym}
use mathlib.Core.List.{[]}
use Rattle.lists.specs.Lists.{iter}
use Rattle.stages.specs.Stages.{stages_color}
use Rattle.pixels.specs.Way.{drawing, shaded_of, fog_depth_of}
use Rattle.pixels.proofs.Fragments.{flat_is, flat_dropped, flat_kept, unreached, reached, reached_at}
use Rattle.plain_pixels.proofs.fragment_at.Goals as goal

pub returns-in_err-z : goal.returns-in_err-z
returns-in_err-z c = rw c.from_residual.ensures (unreached [] (drawing c.args.state [] 0 []) c.args.t c.args.w c.args.stored (sym c.reached.ensures ∙ c.in_err-z.was))

pub returns-then-not-alpha_passes : goal.returns-then-not-alpha_passes
returns-then-not-alpha_passes c =
    let f = flat_is c.args.state.smooth_shading c.args.state.fog c.is_flat.ensures c.if-is_flat.true in
    flat_dropped c.args.state c.args.t c.args.w c.args.w _ _ c.color_between-flat.ensures f.0 f.1 c.alpha_passes.ensures c.if-not-alpha_passes.true-raw ∙ reached [] (drawing c.args.state [] 0 []) c.args.t c.args.w c.args.stored (sym c.reached.ensures ∙ c.in_ok-z.was)

pub returns-then-is_flat : goal.returns-then-is_flat
returns-then-is_flat c =
    let e = sym c.reached.ensures ∙ c.in_ok-z.was in
    let f = flat_is c.args.state.smooth_shading c.args.state.fog c.is_flat.ensures c.if-is_flat.true in
    rw (reached_at [] (drawing c.args.state [] 0 []) c.args.t c.args.w c.args.stored e).0 (flat_kept c.args.state c.args.t c.args.w c.args.w _ _ c.color_between-flat.ensures f.0 f.1 c.alpha_passes.ensures c.if-not-alpha_passes.false-raw ∙ reached [] (drawing c.args.state [] 0 []) c.args.t c.args.w c.args.stored e)

pub returns : goal.returns
unfolding shaded_of fog_depth_of stages_color iter
returns c =
    let e = sym c.reached.ensures ∙ c.in_ok-z.was in
    let h = reached_at [] (drawing c.args.state [] 0 []) c.args.t c.args.w c.args.stored e in
    c.finish.ensures ∙ rw (c.fog_depth_at.ensures, c.color_between-color.ensures, c.shares_of-p.ensures, h.1, h.0) (reached [] (drawing c.args.state [] 0 []) c.args.t c.args.w c.args.stored e)
