use mathlib.Core.Path.{◌≡◌, ◌∙◌}
use mathlib.Core.Bool.{Bool, true, false, ◌&&◌}
use lib.IntN.{ℤ}
use mir.Syntax.{w32}
use mir.Val.{SFits, to_z, of_z}
use Rattle.scissor.specs.Check.{numbers_fit, number_fits}
use Rattle.std.proofs.lemmas.Int.{to_z-of_z}
use Rattle.std.proofs.Common.{rules}
use Rattle.scissor.proofs.box_fits.Goals as goal
use Rattle.scissor.proofs.box_fits.Goals.{then-number_fits, else-number_fits, then-number_fits-2, else-number_fits-2}

abbrev fits : ℤ → Bool
fits z = number_fits (to_z w32 (of_z w32 z))

all_four : {v w : Bool} (x y z : Bool) {h : Bool} → v ≡ (x && y) → w ≡ (v && z) → w ≡ true → h ≡ ((x && y) && (z && h))
all_four true true z e f g = cc
all_four true false z e f g = cc
all_four false y z e f g = cc

pub returns-then-number_fits-3 : goal.returns-then-number_fits-3
unfolding numbers_fit
returns-then-number_fits-3 c =
    let b = c.args.b in
    let v : c.if-number_fits.value ≡ (fits b.x && fits b.y) = elim c.if-number_fits.branch [ then-number_fits w ↦ search rules | else-number_fits w ↦ search rules ] in
    let w : c.if-number_fits-2.value ≡ (c.if-number_fits.value && fits b.width) = elim c.if-number_fits-2.branch [ then-number_fits-2 w ↦ rw w.if-number_fits-2.true (w.value-is ∙ w.number_fits-then-number_fits-2.ensures) | else-number_fits-2 w ↦ search rules ] in
    let i : SFits w32 b.x = search rules in
    let j : SFits w32 b.y = search rules in
    let k : SFits w32 b.width = search rules in
    let l : SFits w32 b.height = search rules in
    rw (← to_z-of_z w32 b.x i, ← to_z-of_z w32 b.y j, ← to_z-of_z w32 b.width k, ← to_z-of_z w32 b.height l, c.number_fits-then-number_fits-3.ensures) (all_four (fits b.x) (fits b.y) (fits b.width) v w c.if-number_fits-3.true)
