use Rattle.std.proofs.Common.{◌≡◌, arith, refl, sym, ap, ◌∙◌, length, get_or}
use Rattle.vertices.specs.declared.Plane.TheVariants.{Left}
use Rattle.vertices.specs.Vertex.{planes}
use Rattle.clip.specs.Clip.{clip_plane, clipped}
use Rattle.clip.proofs.Laws.{caps, caps_below, caps_next, clip_on, clip_out, clip_end}
use Rattle.clip.proofs.clip_frustum.Goals.{then-clip_plane, else-clip_plane}
use Rattle.clip.proofs.clip_frustum.Goals as goal

pub loop-plane-init : goal.loop-plane-init
unfolding caps clipped
loop-plane-init c = record { few = c.requires; rest = refl }

pub clip_plane-requires : goal.clip_plane-requires
clip_plane-requires c = omega (arith, c.loop-plane.invariant.few, caps_below c.loop-plane.plane-index c.loop-plane-test.true)

pub returns-then-corners-lt3 : goal.returns-then-corners-lt3
returns-then-corners-lt3 c =
    let left : c.if-clip_plane.polygon.now ≡ clip_plane (get_or planes c.loop-plane.plane-index Left) c.loop-plane.polygon.now = elim c.if-clip_plane.branch [ then-clip_plane w ↦ rw (w.polygon-is, w.swap.ensures.x_after) w.if-clip_plane.ensures | else-clip_plane w ↦ rw w.polygon-is w.if-clip_plane.ensures ] in
    c.clear.ensures ∙ sym (clip_out planes c.loop-plane.plane-index Left c.loop-plane.polygon.now c.loop-plane-test.true (omega (arith, ap length left, ap length c.corners.ensures.same))) ∙ c.loop-plane.invariant.rest

pub loop-plane-preserved : goal.loop-plane-preserved
loop-plane-preserved c =
    let left : c.if-clip_plane.polygon.now ≡ clip_plane (get_or planes c.loop-plane.plane-index Left) c.loop-plane.polygon.now = elim c.if-clip_plane.branch [ then-clip_plane w ↦ rw (w.polygon-is, w.swap.ensures.x_after) w.if-clip_plane.ensures | else-clip_plane w ↦ rw w.polygon-is w.if-clip_plane.ensures ] in
    rw left (record {
      few = caps_next c.loop-plane.plane-index _ c.loop-plane.polygon.now c.loop-plane.invariant.few;
      rest = clip_on planes c.loop-plane.plane-index Left c.loop-plane.polygon.now c.loop-plane-test.true (omega (arith, ap length left, ap length c.corners.ensures.same)) ∙ c.loop-plane.invariant.rest;
    })

pub returns : goal.returns
returns c = sym (clip_end planes c.loop-plane.plane-index Left c.loop-plane.polygon.now c.loop-plane-test.false) ∙ c.loop-plane.invariant.rest
