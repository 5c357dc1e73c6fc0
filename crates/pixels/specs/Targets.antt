-- What a draw writes: colours, depths and a count, in memory that stays where it is.
use Rattle.std.specs.Prelude.{◌*◌, ◌≡◌, ◌≤◌, length}
use Rattle.scissor.specs.declared.PixelBox.{PixelBox}
use Rattle.frames.specs.Gather.{Drawn}
use Rattle.pixels.specs.declared.target.Target.{Target}
use Rattle.pixels.specs.Way.{drawn_to}

-- colours, depths and the count so far
abbrev pub drawn_on : Target → Drawn
drawn_on t = drawn_to t.colors.now t.depths.now t.written

-- the same memory, as long, with the same width and box
pub record Same (s t : Target) : Type 0 where
  pub width : t.width ≡ s.width
  pub within : t.within ≡ s.within
  pub pixels : length t.depths.now ≡ length s.depths.now
  pub colors : t.colors.ghost_name ≡ s.colors.ghost_name
  pub depths : t.depths.ghost_name ≡ s.depths.ghost_name

-- the pixels of a box lie in the target
pub record Holds (t : Target) (b : PixelBox) : Type 0 where
  pub columns : b.x1 ≤ t.width
  pub rows : b.y1 ≤ 4096
  pub long : b.y1 * t.width ≤ length t.depths.now
