use Rattle.again.specs.Sum.{sum_small}
use Rattle.remade.proofs.reports.add.Goals as goal

pub sum_after-requires : goal.sum_after-requires
sum_after-requires c = search sum_small
