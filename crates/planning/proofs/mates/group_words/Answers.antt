use Rattle.planning.specs.Grouping.{group_fresh}
use Rattle.planning.proofs.mates.group_words.Goals as goal

pub group_all-requires : goal.group_all-requires
group_all-requires c = search group_fresh
