use Rattle.remade.specs.Asked.{asked_in_lem}
use Rattle.remade.proofs.asked.ask.Goals as goal

pub returns : goal.returns
returns c = search asked_in_lem
