-- The arithmetic that a worked list computes with: who unfolds `numbers` unfolds it all.
use lib.Ieee.{span, climb, size, odd, units, round, neg, sum, add, sub, mul, div, rem, is_nan, lt, eq, le, ne, of_int, to_unsigned, to_signed, of_fields, of_bits}
use Rattle.lists.specs.Lists.{tab, flat, iter, turns, between}
use Rattle.floats.specs.Num.{min_of, max_of, clamp_of, abs_of, finite_of, bounded_of}
use Rattle.rounding.specs.Rounding.{whole_by, floor_of, ceil_of, round_of, next_of}
use Rattle.channels.specs.Channel.{unit_of, byte_of, round_byte_of, held_of}
use Rattle.detail.specs.Pairs.{infinite, pair_of, q_of}

unfoldable pub numbers : Unit {0}
unfolding span climb size odd units round neg sum add sub mul div rem is_nan lt eq le ne of_int to_unsigned to_signed of_fields of_bits tab flat iter turns between min_of max_of clamp_of abs_of finite_of bounded_of whole_by floor_of ceil_of round_of next_of unit_of byte_of round_byte_of held_of infinite pair_of q_of
numbers = tt
