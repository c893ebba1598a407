use Rattle.std.proofs.Common.{refl}
use Rattle.lists.specs.Entry.{at_word}
use Rattle.lists.proofs.entries.entry_at.Goals as goal

pub returns : goal.returns
returns c = at_word _ _ _ refl
