use Rattle.std.proofs.Common.{rules}
use Rattle.index.specs.Found.{requirement_text_lem}
use Rattle.views.proofs.requirement_text.Goals as goal

pub returns : goal.returns
returns c = search (rules, requirement_text_lem)
