use Rattle.labels.proofs.Ways.{label_whole}
use Rattle.labels.proofs.label.Goals as goal

pub returns : goal.returns
returns c = search label_whole
