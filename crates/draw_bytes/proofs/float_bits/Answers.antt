use Rattle.draw_bytes.specs.Write.{float_bits}
use Rattle.draw_bytes.proofs.float_bits.Goals as goal

pub returns : goal.returns
unfolding float_bits
returns c = c.f32_to_bits_with_nan.ensures
