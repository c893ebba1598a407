use Rattle.lists.specs.Listing.{list_none, list_next}
use Rattle.lists.proofs.words.list.Goals as goal

pub loop-n-init : goal.loop-n-init
loop-n-init c = search list_none

pub loop-n-preserved : goal.loop-n-preserved
loop-n-preserved c = search list_next
