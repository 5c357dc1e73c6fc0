use mathlib.Core.Path.{◌≡◌, ap, ◌∙◌}
use Prim.Native.Nat.{◌<◌}
use lib.ListN.{length, get_or}
use mir.Syntax.{w32}
use Rattle.std.specs.Int.{from_le_bytes}
use Rattle.std.proofs.Common.{rules}
use Rattle.export.proofs.Exported.{four, packed_bytes}
use Rattle.export.proofs.pixel.Goals as goal

pub returns : goal.returns
returns c =
    let long : length c.args.rgba ≡ 4 = search rules in
    let r : get_or c.args.rgba 0 0 < 256 = search rules in
    let g : get_or c.args.rgba 1 0 < 256 = search rules in
    let b : get_or c.args.rgba 2 0 < 256 = search rules in
    let a : get_or c.args.rgba 3 0 < 256 = search rules in
    c.to_le_bytes.ensures ∙ packed_bytes _ _ _ _ _ r g b a (c.from_le_bytes-rgba.ensures ∙ ap (from_le_bytes w32) (four c.args.rgba long))
