use Rattle.std.proofs.Common.{rules}
use Rattle.index.specs.Found.{set_text_lem}
use Rattle.views.proofs.set_text.Goals as goal

pub returns : goal.returns
returns c = search (rules, set_text_lem)
