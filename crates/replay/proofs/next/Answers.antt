use Rattle.std.proofs.Common.{◌≡◌, length, rules}
use Rattle.std.specs.Int.{w32, from_le_bytes}
use Rattle.std.specs.Io.KnownBytes.{Consumes}
use Rattle.replay.proofs.Consumed.{consumes_both}
use Rattle.replay.proofs.next.Goals as goal

pub returns-clause-bytes : goal.returns-clause-bytes
returns-clause-bytes g c =
    let four : length c.read_exact.new.buf ≡ 4 = c.read_exact.auto.buf in
    let long : length c.read_exact-2.new.buf ≡ from_le_bytes w32 c.read_exact.new.buf = search rules in
    let head : Consumes (g.R.Read.remaining c.args.input.now) (g.R.Read.remaining c.read_exact.new.self) c.read_exact.new.buf = search rules in
    let rest : Consumes (g.R.Read.remaining c.read_exact.new.self) (g.R.Read.remaining c.read_exact-2.new.self) c.read_exact-2.new.buf = search rules in
    (_, four, long, consumes_both _ _ _ _ _ head rest)
