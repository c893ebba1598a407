use Rattle.std.proofs.Common.{◌≡◌, rules, Ok}
use Rattle.writing.specs.Laws.Lent.{concluded_leaves}
use Rattle.writing.proofs.write_in.Goals as goal

pub returns : goal.returns
returns c = search (rules, concluded_leaves)
