-- `family_products::try_pair` meets its contract: the symmetric difference of two sets is a set (`xor_lt`),
-- and is put into the part. Assumes nothing.
use native.Mathlib.Omega.{arith}
use lib.Bits.{xor_lt}
use Rattle.family_products.proofs.try_pair.Goals as goal

pub overflow_cast-set : goal.overflow_cast-set
overflow_cast-set c = omega (arith, xor_lt 10 c.args.set c.args.other c.requires.1 c.requires.2)

pub insert-requires : goal.insert-requires
insert-requires c = omega (arith, xor_lt 10 c.args.set c.args.other c.requires.1 c.requires.2)
