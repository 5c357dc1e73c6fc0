use mathlib.Core.Path.{refl}
use native.Mathlib.Omega.{arith}
use Rattle.sampler.specs.Addresses.{index_of}
use Rattle.sampler.proofs.Indices.{row_few, index_in}
use Rattle.sampler.proofs.LevelTexels.index.Goals as goal

pub overflow_mul-result : goal.overflow_mul-result
overflow_mul-result c = let i = c.args.self.now.image in record { fits = omega (arith, row_few c.args.self.now.x.size c.args.y c.args.self.now.y.size i.wide c.requires.1 i.high) }

pub overflow_add-result : goal.overflow_add-result
overflow_add-result c = let i = c.args.self.now.image in record { fits = omega (arith, row_few c.args.self.now.x.size c.args.y c.args.self.now.y.size i.wide c.requires.1 i.high, c.requires.0, i.wide) }

pub overflow_mul-result-2 : goal.overflow_mul-result-2
overflow_mul-result-2 c = let i = c.args.self.now.image in record { fits = omega (arith, row_few c.args.self.now.x.size c.args.y c.args.self.now.y.size i.wide c.requires.1 i.high, c.requires.0, i.wide) }

pub overflow_cast-result : goal.overflow_cast-result
overflow_cast-result c = let i = c.args.self.now.image in record { fits = omega (arith, row_few c.args.self.now.x.size c.args.y c.args.self.now.y.size i.wide c.requires.1 i.high, c.requires.0, i.wide) }

pub returns : goal.returns
unfolding index_of
returns c = let i = c.args.self.now.image in (refl, rw i.bytes (index_in c.args.self.now.x.size c.args.self.now.y.size c.args.x c.args.y c.requires.0 c.requires.1))
