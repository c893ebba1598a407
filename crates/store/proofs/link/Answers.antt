-- The laws of each way out.
use Rattle.std.proofs.Common.{rules}
use Rattle.store.specs.Adding.{links, held_full, held_at}
use Rattle.store.proofs.link.Goals as goal

ruleset laws = (rules, links, held_full, held_at)

pub returns-then-i-ge128-clause-result_after : goal.returns-then-i-ge128-clause-result_after
returns-then-i-ge128-clause-result_after c = search laws

pub returns-then-i-ge128-clause-growing : goal.returns-then-i-ge128-clause-growing
returns-then-i-ge128-clause-growing c = search laws

pub link_to-requires-clause-growing : goal.link_to-requires-clause-growing
link_to-requires-clause-growing c = search laws

pub returns-clause-result_after : goal.returns-clause-result_after
returns-clause-result_after c = search laws
