use Rattle.std.proofs.Common.{◌≡◌, refl, sym, arith, ap, ◌∙◌, false}
use Rattle.std.proofs.lemmas.Result.{err_from_is_err_and}
use borrow.Author.Tests.{not-true, not-false, lt-ltb, le-ltb}
use Rattle.answers.proofs.Answered.{refused_test}
use Rattle.levels.specs.declared.MipLevel.{MipLevel}
use Rattle.levels.specs.Levels.{level_of}
use Rattle.levels.proofs.Valid.{valid_level}
use Rattle.texture.specs.Patch.{patch_check, settle_patch, patch_of}
use Rattle.texture.proofs.Patching.{patch_within, patch_done, patch_refused}
use Rattle.texture.proofs.patch_level.Goals as goal
use Rattle.texture.proofs.patch_level.Goals.{then-k-ge-LEVELS-via-then-k-ge-LEVELS, then-k-ge-LEVELS-via-else-k-ge-LEVELS+then-not-m}

pub returns-then-not-is_valid : goal.returns-then-not-is_valid
unfolding patch_of patch_check settle_patch
returns-then-not-is_valid g c = rw (sym c.is_valid.ensures ∙ c.if-not-is_valid.true) refl

pub returns-then-k-ge-LEVELS : goal.returns-then-k-ge-LEVELS
unfolding patch_of patch_check settle_patch
returns-then-k-ge-LEVELS g c =
    elim c.then-k-ge-LEVELS.branch [
      | then-k-ge-LEVELS-via-then-k-ge-LEVELS w ↦ rw (sym c.is_valid.ensures ∙ c.if-not-is_valid.false, lt-ltb 10 c.args.level (omega (arith, w.if-k-ge-LEVELS.true))) refl
      | then-k-ge-LEVELS-via-else-k-ge-LEVELS+then-not-m w ↦
          let p : (level_of (g.R.Record.texture c.args.texture) c.args.level).present ≡ false = ap (λ (m : MipLevel). m.present) (sym c.image_level-m.ensures) ∙ not-true _ w.if-not-m.true in
          rw (sym c.is_valid.ensures ∙ c.if-not-is_valid.false, le-ltb 10 c.args.level (omega (arith, w.if-k-ge-LEVELS.false)), p) refl
    ]

pub new-requires : goal.new-requires
unfolding level_of
new-requires g c =
    let k = valid_level _ _ (sym c.is_valid.ensures ∙ c.if-not-is_valid.false) c.args.level (rw (sym c.image_level-m.ensures) (not-false _ c.if-not-m.false)) in
    rw c.image_level-m.ensures (k.wide, k.high)

pub returns-in_err-patch : goal.returns-in_err-patch
unfolding level_of
returns-in_err-patch g c =
    let a = c.args in
    let p = err_from_is_err_and c.from_residual.result c.from_residual.ensures.1 in
    let n = c.in_err-patch.ensures.number in
    patch_within a.store.now (g.R.Record.texture a.texture) a.level a.xoffset a.yoffset a.width a.height a.patch.now (sym c.is_valid.ensures ∙ c.if-not-is_valid.false) (omega (arith, c.if-k-ge-LEVELS.false)) c.image_level-m.result c.image_level-m.ensures (not-false _ c.if-not-m.false) _
    (rw (p.1, p.2, n) (sym (patch_refused _ _ _ (refused_test _ _ n))))

pub put-requires : goal.put-requires
unfolding level_of
put-requires g c =
    let k = valid_level _ _ (sym c.is_valid.ensures ∙ c.if-not-is_valid.false) c.args.level (rw (sym c.image_level-m.ensures) (not-false _ c.if-not-m.false)) in
    rw (c.in_ok-patch.ensures.patch.0, c.image_level-m.ensures) k.within

pub returns : goal.returns
unfolding level_of
returns g c =
    let a = c.args in
    let p = c.in_ok-patch.ensures.patch in
    patch_within a.store.now (g.R.Record.texture a.texture) a.level a.xoffset a.yoffset a.width a.height a.patch.now (sym c.is_valid.ensures ∙ c.if-not-is_valid.false) (omega (arith, c.if-k-ge-LEVELS.false)) c.image_level-m.result c.image_level-m.ensures (not-false _ c.if-not-m.false) _
    (rw (c.put.ensures, p.0, p.1, p.2) (sym (patch_done _ _ _ (sym c.in_ok-patch.ensures.number))))
