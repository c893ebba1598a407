use Rattle.std.proofs.Common.{rules}
use Rattle.settings.proofs.Found.{known_by}
use Rattle.settings.proofs.known.Goals as goal

pub returns : goal.returns
returns c = known_by c.args.v c.args.s c.args.c c.lowest_of.result c.is_some_and.result c.lowest_of.ensures (search rules)
