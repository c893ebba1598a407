use Rattle.std.proofs.Common.{arith}
use Rattle.wall.specs.Laws.Writing.{one_size, two_size, three_size}
use Rattle.wall.proofs.numbers.number_size.Goals as goal

pub returns-in-0-to-9 : goal.returns-in-0-to-9
returns-in-0-to-9 c = (one_size _ (omega arith), omega arith)

pub returns-in-10-to-99 : goal.returns-in-10-to-99
returns-in-10-to-99 c = (two_size _ (omega arith) (omega arith), omega arith)

pub returns-in_default : goal.returns-in_default
returns-in_default c = (three_size _ (omega arith) (omega arith), omega arith)
