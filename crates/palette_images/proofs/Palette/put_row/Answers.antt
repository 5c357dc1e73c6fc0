use mathlib.Core.Path.{◌≡◌, refl, ◌∙◌}
use Prim.Native.Nat.{◌+◌, ◌*◌, ◌≤◌, ◌<◌}
use native.Mathlib.Nat.{mul_assoc, add-mul}
use native.Mathlib.Omega.{arith}
use lib.Arith.{digits_lt}
use lib.ListN.{length}
use Rattle.lists.proofs.Cells.{row_none, row_more}
use Rattle.texels.proofs.Lents.{same_still, same_on}
use Rattle.palette_images.specs.Paletted.{index_bits, index_at, entry_at}
use Rattle.palette_images.proofs.Indices.{entry_four}
use Rattle.palette_images.proofs.Palette.put_row.Goals as goal

pub loop-x-init : goal.loop-x-init
loop-x-init c =
    let a = c.args in
    let p = a.self.now in
    let bits = index_bits p.bits in
    let i = a.image.now in
    (row_none 4 (entry_at bits p.entries a.s.now a.at) (entry_four bits p.entries a.s.now a.at) i.out.now (a.y * (i.sides.w * 4)), same_still)

pub put4-requires : goal.put4-requires
put4-requires c =
    let sides = c.args.image.now.sides in
    let long = rw c.loop-x.invariant.1.sides at c.loop-x.image.fit in
    let x : c.loop-x.x < sides.w = omega arith in
    let y : c.args.y < sides.h = omega arith in
    omega (arith, long, digits_lt y x)

pub loop-x-preserved : goal.loop-x-preserved
unfolding entry_at index_at
loop-x-preserved c =
    let a = c.args in
    let p = a.self.now in
    let bits = index_bits p.bits in
    let i = a.image.now in
    let w = i.sides.w in
    let x : c.loop-x.x < w = omega arith in
    let y : a.y < i.sides.h = omega arith in
    let place : (a.y * w + c.loop-x.x) * 4 ≡ a.y * (w * 4) + c.loop-x.x * 4 = add-mul (a.y * w) c.loop-x.x 4 ∙ rw mul_assoc in
    let room : a.y * (w * 4) + c.loop-x.x * 4 + 4 ≤ length i.out.now = omega (arith, i.fit, digits_lt y x, place) in
    (rw (c.put4.ensures, c.loop-x.invariant.0, c.index_in.ensures.0, c.bits-bits.ensures, place) (row_more 4 (entry_at bits p.entries a.s.now a.at) (entry_four bits p.entries a.s.now a.at) i.out.now (a.y * (w * 4)) c.loop-x.x room), same_on c.loop-x.invariant.1 (record { sides = refl; out = refl }))

pub returns : goal.returns
returns c =
    let e : c.loop-x.x ≡ c.args.image.now.sides.w = omega arith in
    record { drawn = rw e at c.loop-x.invariant.0; same = c.loop-x.invariant.1 }
