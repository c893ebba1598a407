use Rattle.std.proofs.Common.{rules}
use Rattle.lists.specs.Listing.{entry_via}
use Rattle.lists.proofs.words.entry.Goals as goal

pub returns : goal.returns
returns c = search entry_via
