use native.Mathlib.Omega.{arith}
use lib.ListN.{length-set}
use Rattle.fragment.specs.Fragment.{put_color_of}
use Rattle.fragment.proofs.put_color.Goals as goal

pub bounds-colors-i-6 : goal.bounds-colors-i-6
bounds-colors-i-6 c = simp length-set (omega (arith, c.requires))

pub bounds-colors-i-7 : goal.bounds-colors-i-7
bounds-colors-i-7 c = simp length-set (omega (arith, c.requires))

pub returns : goal.returns
unfolding put_color_of
returns c = rw (c.masked_byte-r.ensures, c.masked_byte-g.ensures, c.masked_byte-b.ensures, c.masked_byte-a.ensures)
