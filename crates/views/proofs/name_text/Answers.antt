use Rattle.std.proofs.Common.{rules}
use Rattle.index.specs.Found.{name_text_lem}
use Rattle.views.proofs.name_text.Goals as goal

pub returns : goal.returns
returns c = search (rules, name_text_lem)
