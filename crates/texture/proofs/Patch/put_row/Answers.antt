use Rattle.std.proofs.Common.{◌≡◌, ◌∙◌, ◌+◌, ◌*◌, ◌-◌, arith, length, take, drop, length-drop}
use native.Mathlib.Nat.{le_refl}
use lib.ListN.{length-take}
use lib.Seq.{length-take-le, take-take}
use Rattle.lists.proofs.Rows.{row_in}
use Rattle.levels.specs.Levels.{size_of}
use Rattle.texture.specs.Patch.{row_place, patch_row}
use Rattle.texture.proofs.Patch.put_row.Goals as goal

pub overflow_mul-at-2 : goal.overflow_mul-at-2
unfolding size_of
overflow_mul-at-2 c = let a = c.args.self in omega (arith, row_in (a.area.y + c.args.r) a.m.height a.m.width a.area.x a.area.width (omega arith) (omega arith))

pub overflow_add-at-3 : goal.overflow_add-at-3
unfolding size_of
overflow_add-at-3 c = let a = c.args.self in omega (arith, row_in (a.area.y + c.args.r) a.m.height a.m.width a.area.x a.area.width (omega arith) (omega arith))

pub copy_in-requires : goal.copy_in-requires
unfolding size_of
copy_in-requires c =
    let a = c.args.self in
    simp (length-take, length-drop) (omega (arith, row_in (a.area.y + c.args.r) a.m.height a.m.width a.area.x a.area.width (omega arith) (omega arith)))

pub returns : goal.returns
unfolding patch_row row_place
returns c =
    let a = c.args.self in
    let n = a.area.width * 4 in
    let from = c.args.r * n in
    let e : from + n - from ≡ n = omega arith in
    let g : length (take n (drop from a.texels.now)) ≡ n = length-take-le n (drop from a.texels.now) (simp length-drop (omega (arith, row_in c.args.r a.area.height n 0 n (omega arith) (omega arith)))) in
    c.copy_in.ensures ∙ rw (e, g, take-take n n (drop from a.texels.now) (le_refl n))
