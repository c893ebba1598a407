-- The laws of each way out.
use Rattle.std.proofs.Common.{rules}
use Rattle.links.specs.Build.{target_small}
use Rattle.links.specs.Queue.{noted_in_via, noted_to_via}
use Rattle.links.proofs.reach.look.Goals as goal

pub note-requires : goal.note-requires
note-requires c = search (rules, target_small, noted_in_via, noted_to_via)
