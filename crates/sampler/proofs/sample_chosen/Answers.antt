use Prim.Native.Nat.{ℕ, ◌+◌, ◌-◌, ◌<◌}
use mathlib.Core.Path.{◌≡◌, ap, ◌∙◌}
use native.Mathlib.Omega.{arith}
use Rattle.std.proofs.Common.{rules, add-zero, Option}
use Rattle.std.specs.Int.{from_bool}
use Rattle.std.specs.Option.{is_some}
use Rattle.sampler.specs.Samples.{level_texel}
use Rattle.sampler.proofs.Chosen.{chosen_one, chosen_pair}
use Rattle.sampler.proofs.Records.{level_ready}
use Rattle.sampler.proofs.Turns.{end_in, part_at, turns, turned}
use Rattle.sampler.proofs.sample_chosen.Goals as goal

pub sample_filter-upper-requires : goal.sample_filter-upper-requires
sample_filter-upper-requires c =
    let x = c.args.texture.now in
    let k = c.args.chosen.level in
    let i = c.loop-m.m-index in
    let q : c.from-count.result ≡ from_bool (is_some c.args.chosen.part) = c.from-count.ensures ∙ ap from_bool c.is_some.ensures in
    let long = turns x c.args.chosen _ (search rules) c.requires.readable.few c.requires.chosen_within q in
    let l : i < k + (1 + c.from-count.result) - k = omega (arith, long, c.loop-m-test.true) in
    rw (part_at x k _ i l) (level_ready _ _ c.requires.readable (k + i) (omega (arith, q, end_in _ c.args.chosen c.requires.chosen_within, l)))

pub loop-m-preserved : goal.loop-m-preserved
loop-m-preserved c =
    let x = c.args.texture.now in
    let k = c.args.chosen.level in
    let i = c.loop-m.m-index in
    let q : c.from-count.result ≡ from_bool (is_some c.args.chosen.part) = c.from-count.ensures ∙ ap from_bool c.is_some.ensures in
    let long = turns x c.args.chosen _ (search rules) c.requires.readable.few c.requires.chosen_within q in
    let n = k + (1 + c.from-count.result) - k in
    let l : i < n = omega (arith, long, c.loop-m-test.true) in
    (λ j h. turned _ x _ _ _ k n i l _ c.sample_filter-upper.ensures j h, λ j h. c.loop-m.invariant.0 j (omega arith))

pub returns-in-Some : goal.returns-in-Some
returns-in-Some c =
    let x = c.args.texture.now in
    let k = c.args.chosen.level in
    let q : c.from-count.result ≡ from_bool (is_some c.args.chosen.part) = c.from-count.ensures ∙ ap from_bool c.is_some.ensures in
    let long = turns x c.args.chosen _ (search rules) c.requires.readable.few c.requires.chosen_within q in
    let e : c.from-count.result ≡ 1 = q ∙ ap (λ (o : Option ℕ). from_bool (is_some o)) c.in-Some.is in
    c.mix_texels.ensures
    ∙ rw c.part_weight.ensures
    (chosen_pair _ _ _ _ c.args.chosen _ c.in-Some.is _ _
    (c.loop-m.invariant.1 0 (omega (arith, e, long, c.loop-m.auto.m-index-end, c.loop-m-test.false)) ∙ ap (λ (j : ℕ). level_texel c.args.store.now x j c.args.chosen.filter c.args.s c.args.t) (add-zero k))
    (c.loop-m.invariant.0 1 (omega (arith, e, long, c.loop-m.auto.m-index-end, c.loop-m-test.false))))

pub returns-in-None : goal.returns-in-None
returns-in-None c =
    let x = c.args.texture.now in
    let k = c.args.chosen.level in
    let q : c.from-count.result ≡ from_bool (is_some c.args.chosen.part) = c.from-count.ensures ∙ ap from_bool c.is_some.ensures in
    let long = turns x c.args.chosen _ (search rules) c.requires.readable.few c.requires.chosen_within q in
    let e : c.from-count.result ≡ 0 = q ∙ ap (λ (o : Option ℕ). from_bool (is_some o)) c.in-None.is in
    c.loop-m.invariant.0 0 (omega (arith, e, long, c.loop-m.auto.m-index-end, c.loop-m-test.false)) ∙ ap (λ (j : ℕ). level_texel c.args.store.now x j c.args.chosen.filter c.args.s c.args.t) (add-zero k)
    ∙ chosen_one _ _ _ _ c.args.chosen c.in-None.is
