use Rattle.std.proofs.Common.{◌≡◌, arith, refl, sym, ◌++◌, drop}
use Rattle.std.proofs.lemmas.List.Edits.{sets, sets-eq}
use Rattle.probes.specs.Told.{floats_of, ends_of}
use Rattle.probes.proofs.probe_clip.tell.Goals as goal

pub returns : goal.returns
returns c =
    let r = c.args.r in
    let f : floats_of r ++ drop 13 c.args.out.now ≡ sets c.args.out.now 0 (floats_of r) = sym (sets-eq (floats_of r) c.args.out.now 0 (omega arith)) in
    let e : ends_of r.pixels ++ drop 4 c.args.ends.now ≡ sets c.args.ends.now 0 (ends_of r.pixels) = sym (sets-eq (ends_of r.pixels) c.args.ends.now 0 (omega arith)) in
    rw (c.copy_from_slice.ensures.after, c.copy_from_slice-2.ensures.after, f, e) (refl, refl)
