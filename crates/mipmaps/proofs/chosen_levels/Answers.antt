use mathlib.Core.Path.{◌≡◌, refl, sym, ◌∙◌}
use native.Mathlib.Omega.{arith}
use Rattle.std.proofs.lemmas.Bool.{true≢false, false≢true}
use Rattle.std.proofs.Common.{rules, Bool, true, false, not, Option, Some, None}
use Rattle.std.specs.Option.{is_some}
use Rattle.lists.proofs.Choice.{yes, no}
use Rattle.mipmaps.specs.declared.Mipmap.{Mipmap}
use Rattle.detail.proofs.Cut.{cut_le}
use Rattle.mipmaps.specs.Mipmaps.{texel_filter, minified, chosen_of}
use Rattle.mipmaps.proofs.Choices.{level_nought, without_levels, without_mipmaps}
use Rattle.mipmaps.proofs.chosen_levels.Goals as goal
use Rattle.mipmaps.proofs.chosen_levels.Goals.{then-top-eq0, else-top-eq0}

nothing : (m : Option Mipmap) (b : Bool) → is_some m ≡ not b → b ≡ true → m ≡ None
nothing None b e h = refl
nothing (Some m) true e h = absurd (true≢false e)
nothing (Some m) false e h = absurd (false≢true h)

pub returns-then-is_none : goal.returns-then-is_none
returns-then-is_none c =
    let e : texel_filter c.args.min ≡ c.args.mag = let h = c.if-eq.ensures in search rules in
    elim c.if-top-eq0.branch [ then-top-eq0 w ↦ without_levels _ _ _ _ _ _ e w.if-top-eq0.true | else-top-eq0 w ↦ without_mipmaps _ _ _ _ _ _ e (sym c.mipmap_filter-mode.ensures ∙ nothing _ _ w.is_none.ensures (sym w.value-is ∙ c.if-is_none.true)) ]

pub levels-requires : goal.levels-requires
levels-requires c = omega (arith, c.cut_steps.ensures, cut_le c.q-q.result c.args.top, c.requires.top_in)

pub returns-in-Some : goal.returns-in-Some
unfolding chosen_of
returns-in-Some c = rw (sym c.q-q.ensures) (yes _ c.if-q.true (c.levels.ensures ∙ rw (sym c.texel_filter-filter.ensures, sym c.mipmap_filter-mode.ensures, c.in-Some.is, c.cut_steps.ensures)))

pub returns-in_default : goal.returns-in_default
unfolding chosen_of
returns-in_default c =
    rw (sym c.q-q.ensures) (yes _ c.if-q.true (rw (sym c.texel_filter-filter.ensures) (level_nought _ _ _ _ (omega (arith, c.if-top-gt0.false)))))

pub returns-in_default-2 : goal.returns-in_default-2
unfolding chosen_of minified
returns-in_default-2 c = rw (sym c.q-q.ensures) (yes _ c.if-q.true (rw (sym c.texel_filter-filter.ensures, sym c.mipmap_filter-mode.ensures, c.in_default.is)))

pub returns : goal.returns
unfolding chosen_of
returns c = rw (sym c.q-q.ensures) (no _ c.if-q.false refl)
