use Rattle.std.proofs.Common.{rules}
use Rattle.index.specs.Found.{version_text_lem}
use Rattle.views.proofs.version_text.Goals as goal

pub returns : goal.returns
returns c = search (rules, version_text_lem)
