use Rattle.std.proofs.Common.{arith}
use Rattle.records.specs.Text.{eight_at}
use Rattle.records.proofs.text.eight.Goals as goal

pub returns : goal.returns
unfolding eight_at
returns c = omega arith
