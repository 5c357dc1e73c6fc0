use Rattle.std.proofs.Common.{◌≡◌, ℕ, ◌+◌, ◌-◌, ◌*◌, ◌%◌, ◌^◌, ◌<◌, ◌≤◌, Bool, true, T, sym, subst, mod-lt, mul-pos, arith, pow_pos}
use lib.Ieee.{binary64, to_bits, of_bits}
use lib.Ieee.Bits.{to_bits-lt}
use lib.Ieee.Positive.{positive_of_value}
use Rattle.detail.proofs.Fields.{no_nan, read, Read, significand, significand_number, field_of_one}
use Rattle.detail.proofs.Largest.{found, times, from_one, largest_is}
use Rattle.detail.proofs.LevelTable.steps.Goals as goal

held : {b : Bool} → b ≡ true → T b
held e = subst T (sym e) tt

some : (t : ℕ) → 0 < (t + 2 ^ 52) * 2 ^ 1022
some t = mul-pos (omega arith) (pow_pos 1022)

offset : (x : ℕ) → 1023 ≤ x → x - 1 ≡ x - 1023 + 1022
offset x h = omega arith

pub float_to_bits-bits : goal.float_to_bits-bits
float_to_bits-bits c = no_nan _ c.requires.above_one

pub overflow_sub-exponent : goal.overflow_sub-exponent
overflow_sub-exponent c = (read c.args.q (held c.well_formed.1.0.1) c.requires.above_one c.requires.finite).high

pub float_from_bits-s : goal.float_from_bits-s
float_from_bits-s c = significand_number _ (mod-lt _ (pow_pos 52))

pub overflow_mul-result : goal.overflow_mul-result
overflow_mul-result c = omega (arith, to_bits-lt binary64 c.args.q (held c.well_formed.1.0.1))

pub invariant_of-s : goal.invariant_of-s
invariant_of-s c =
    let t = to_bits binary64 c.args.q % 2 ^ 52 in
    let h : t < 2 ^ 52 = mod-lt (to_bits binary64 c.args.q) (pow_pos 52) in
    let v = significand t h in
    let m = of_bits binary64 (t + field_of_one) in
    let o = from_one m t h v in
    record { positive = positive_of_value m ((t + 2 ^ 52) * 2 ^ 1022) (2 ^ 1074) v (some t); at_least_one = o.0; below_two = o.1; twelve = omega arith }

pub overflow_add-result : goal.overflow_add-result
overflow_add-result c = omega (arith, to_bits-lt binary64 c.args.q (held c.well_formed.1.0.1), c.step_of.ensures.0)

pub returns : goal.returns
returns c =
    let q = c.args.q in
    let t = to_bits binary64 q % 2 ^ 52 in
    let r : Read q _ _ _ = read q (held c.well_formed.1.0.1) c.requires.above_one c.requires.finite in
    let v = significand t (mod-lt (to_bits binary64 q) (pow_pos 52)) in
    largest_is q _ (found q _ _ (times q (of_bits binary64 (t + field_of_one)) _ _ _ (offset _ r.high) r.value v) c.step_of.result c.step_of.ensures.1)
