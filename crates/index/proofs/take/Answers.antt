use Rattle.std.proofs.Common.{rules}
use Rattle.index.specs.Taking.{takes_no, takes_on}
use Rattle.index.proofs.take.Goals as goal

pub returns-in_err-t : goal.returns-in_err-t
returns-in_err-t c = rw c.from_residual.ensures (search takes_no)

pub returns : goal.returns
returns c = search (rules, takes_on)
