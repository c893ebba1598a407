-- The laws of each way out.
use Rattle.std.proofs.Common.{rules}
use Rattle.store.specs.Table.{reads}
use Rattle.store.proofs.source_at.Goals as goal

pub returns : goal.returns
returns c = search (rules, reads)
