use Rattle.cycles.specs.Laws.Walks.{free_end}
use Rattle.cycles.proofs.lowest.Goals as goal

pub returns : goal.returns
returns c = search free_end
