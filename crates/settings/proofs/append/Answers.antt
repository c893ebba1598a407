use Rattle.settings.specs.Laws.Ways.{append_via}
use Rattle.settings.proofs.Found.{found_or}
use Rattle.settings.proofs.append.Goals as goal

pub returns : goal.returns
returns c = append_via _ _ _ _ _ _ _ (found_or _ _ _ c.lowest_of.ensures c.unwrap_or-w.ensures) c.put.ensures.wrote
