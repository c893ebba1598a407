use Rattle.std.proofs.Common.{rules}
use Rattle.index.specs.Found.{reason_text_lem}
use Rattle.views.proofs.reason_text.Goals as goal

pub returns : goal.returns
returns c = search (rules, reason_text_lem)
