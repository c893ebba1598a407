use Rattle.remade.specs.Seasons.{added_parts}
use Rattle.remade.proofs.reports.season.Goals as goal

pub returns : goal.returns
returns c = search added_parts
