use mathlib.Core.Path.{◌≡◌, refl, sym, ◌∙◌}
use Prim.Native.Nat.{◌+◌, ◌*◌, ◌/◌, ◌%◌, ◌<◌}
use native.Mathlib.Omega.{arith}
use borrow.Author.Rules.{rules}
use lib.Arith.{digits_lt}
use Rattle.std.proofs.lemmas.Bool.{true≢false}
use Rattle.lists.proofs.Turns.{iter_more}
use Rattle.texels.proofs.Lents.{same_on}
use Rattle.blocks.specs.Blocks.{texel_from}
use Rattle.block_images.specs.Walk.{put_nth, put_block}
use Rattle.block_images.proofs.Walks.{put_inside, put_outside}
use Rattle.block_images.proofs.put_texels.Goals as goal
use Rattle.block_images.proofs.put_texels.Goals.{then-this-ne0-via-then-this-ne0, then-this-ne0-via-else-this-ne0+then-has, then-this-ne0, else-this-ne0+else-has}

pub put4-requires : goal.put4-requires
put4-requires g c =
    let a = c.args in
    let i = c.loop-i.i in
    let sides = a.image.now.sides in
    let long = rw c.loop-i.invariant.1.sides at c.loop-i.image.fit in
    elim c.then-this-ne0.branch [
      | then-this-ne0-via-then-this-ne0 w ↦
          let k = w.if-this-ne0.true in
          let r = c.requires (search rules) in
          let x : a.place.bx * 4 + i % 4 < sides.w = omega (arith, r.0) in
          let y : a.place.by * 4 + i / 4 < sides.h = omega (arith, r.1) in
          omega (arith, long, digits_lt y x)
      | then-this-ne0-via-else-this-ne0+then-has w ↦
          let x : a.place.bx * 4 + i % 4 < sides.w = (w.has.ensures.0 (search rules)).0 in
          let y : a.place.by * 4 + i / 4 < sides.h = (w.has.ensures.0 (search rules)).1 in
          omega (arith, long, digits_lt y x)
    ]

pub loop-i-preserved : goal.loop-i-preserved
loop-i-preserved g c =
    let a = c.args in
    let p = a.place in
    let i = c.loop-i.i in
    let sides = a.image.now.sides in
    let texel = texel_from a.rgb a.alpha in
    let s = c.loop-i.invariant.1 in
    elim c.if-this-ne0.branch [
      | then-this-ne0 w ↦
          let put : w.put4.new.out ≡ put_nth sides.w sides.h texel p.bx p.by i c.loop-i.image.out.now =
          w.put4.ensures
          ∙ (elim w.then-this-ne0.branch [
            | then-this-ne0-via-then-this-ne0 v ↦
                let k = v.if-this-ne0.true in
                let r = c.requires (search rules) in
                sym (put_inside sides.w sides.h texel p.bx p.by i c.loop-i.image.out.now (omega (arith, r.0)) (omega (arith, r.1)))
            | then-this-ne0-via-else-this-ne0+then-has v ↦
                let r = v.has.ensures.0 (search rules) in
                sym (put_inside sides.w sides.h texel p.bx p.by i c.loop-i.image.out.now r.0 r.1)
          ]) in
          rw w.image-is (rw (← iter_more, ← c.loop-i.invariant.0) put, same_on s (record { sides = refl; out = refl }))
      | else-this-ne0+else-has w ↦
          let kept : c.loop-i.image.out.now ≡ put_nth sides.w sides.h texel p.bx p.by i c.loop-i.image.out.now =
          sym (put_outside sides.w sides.h texel p.bx p.by i c.loop-i.image.out.now (λ x y. true≢false (sym (w.has.ensures.1 (x, y)) ∙ w.if-has.false))) in
          rw w.image-is (rw (← iter_more, ← c.loop-i.invariant.0) kept, s)
    ]

pub returns : goal.returns
unfolding put_block
returns g c =
    let e : c.loop-i.i ≡ 16 = omega arith in
    record { drawn = rw (sym e) c.loop-i.invariant.0; same = c.loop-i.invariant.1 }
