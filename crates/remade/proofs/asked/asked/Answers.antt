use Rattle.remade.specs.Asked.{asks_short, asks_long}
use Rattle.remade.proofs.asked.asked.Goals as goal

pub returns-then-n-gt128 : goal.returns-then-n-gt128
returns-then-n-gt128 c = search asks_long

pub returns : goal.returns
returns c = search asks_short
