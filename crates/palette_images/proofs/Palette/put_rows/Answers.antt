use mathlib.Core.Path.{◌≡◌, ◌∙◌}
use mathlib.Core.List.{List}
use Prim.Native.Nat.{ℕ, ◌+◌, ◌*◌}
use native.Mathlib.Nat.{mul_assoc}
use native.Mathlib.Omega.{arith}
use lib.ListN.{length}
use Rattle.lists.specs.Lists.{flat}
use Rattle.lists.proofs.Rows.{length_flat, flat_none, flat_more, flat_all}
use Rattle.texels.proofs.Lents.{same_still, same_on}
use Rattle.texels.specs.Image.{image}
use Rattle.palette_images.specs.Paletted.{index_bits, entry_at}
use Rattle.palette_images.proofs.Indices.{entry_four}
use Rattle.palette_images.proofs.Palette.put_rows.Goals as goal

-- the rows of an image of indices of b bits, w wide, and their length
module _ (b : ℕ) (table : List (List ℕ)) (s : List ℕ) (start row w : ℕ) where
  rows : ℕ → List ℕ
  rows j = flat w (entry_at b table s (start + j * row))

  long : (j : ℕ) → length (rows j) ≡ w * 4
  unfolding rows
  long j = length_flat 4 (entry_at b table s (start + j * row)) (entry_four b table s (start + j * row)) w

pub loop-y-init : goal.loop-y-init
unfolding rows
loop-y-init c =
    let a = c.args in
    let p = a.self.now in
    let i = a.image.now in (
      flat_none (i.sides.w * 4) (rows (index_bits p.bits) p.entries a.s.now a.start c.row_bytes-row.result i.sides.w)
          (long (index_bits p.bits) p.entries a.s.now a.start c.row_bytes-row.result i.sides.w) i.out.now,
      same_still,
    )

pub loop-y-preserved : goal.loop-y-preserved
unfolding rows
loop-y-preserved c =
    let a = c.args in
    let p = a.self.now in
    let i = a.image.now in
    let s = c.loop-y.invariant.1 in (
      rw (rw s.sides at c.put_row.ensures.drawn, c.loop-y.invariant.0)
          (flat_more (i.sides.w * 4) (rows (index_bits p.bits) p.entries a.s.now a.start c.row_bytes-row.result i.sides.w)
          (long (index_bits p.bits) p.entries a.s.now a.start c.row_bytes-row.result i.sides.w) c.loop-y.y i.out.now),
      same_on s c.put_row.ensures.same,
    )

pub returns : goal.returns
unfolding rows image
returns c =
    let a = c.args in
    let p = a.self.now in
    let i = a.image.now in
    let e : c.loop-y.y ≡ i.sides.h = omega arith in
    let whole : length i.out.now ≡ i.sides.h * (i.sides.w * 4) = i.fit ∙ mul_assoc i.sides.h i.sides.w 4 in
    record {
      drawn = c.loop-y.invariant.0 ∙ rw e
          (flat_all (i.sides.w * 4) (rows (index_bits p.bits) p.entries a.s.now a.start c.row_bytes-row.result i.sides.w)
          (long (index_bits p.bits) p.entries a.s.now a.start c.row_bytes-row.result i.sides.w) i.sides.h i.out.now (omega arith)
          ∙ rw (c.row_bytes-row.ensures, c.bits.ensures));
      same = c.loop-y.invariant.1;
    }
