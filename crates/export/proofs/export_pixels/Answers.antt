use Prim.Native.Nat.{◌/◌}
use mathlib.Core.Path.{◌∙◌}
use lib.ListN.{length}
use native.Mathlib.Omega.{arith}
use Rattle.export.proofs.Exported.{export_none, export_more, chunk_bytes}
use Rattle.export.proofs.export_pixels.Goals as goal

pub loop-p-init : goal.loop-p-init
loop-p-init c = export_none c.args.colors.now c.args.out.now

pub loop-p-preserved : goal.loop-p-preserved
loop-p-preserved c = export_more c.args.colors.now c.args.out.now _ c.pixel.result c.loop-p.p c.loop-p.invariant c.loop-p.auto.out (omega arith)
    (rw c.as_chunks.ensures.front at c.pixel.ensures ∙ chunk_bytes c.args.colors.now _ (length c.args.colors.now / 4) c.loop-p.p (omega arith))
