use Rattle.std.proofs.Common.{◌≡◌, ap, ◌∙◌, ℕ, ◌+◌, ◌-◌, take, drop, arith}
use Rattle.layouts.specs.Records.{read_of}
use Rattle.draw_layouts.specs.Units.{read_unit}
use Rattle.draw_layouts.proofs.unit_at.Goals as goal

pub returns : goal.returns
unfolding read_unit
returns c =
    let a = c.args in
    let e : a.at + 244 - a.at ≡ 244 = omega arith in
    c.read_record.ensures ∙ ap (λ (n : ℕ). read_of (take n (drop a.at a.b.now))) e
