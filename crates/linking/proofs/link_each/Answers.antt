-- The laws of the links to candidates.
use Rattle.std.proofs.Common.{rules}
use Rattle.views.specs.Walks.{candidates_less}
use Rattle.linking.specs.Fan.{fannings}
use Rattle.linking.proofs.link_each.Goals as goal

ruleset laws = (rules, candidates_less, fannings)

pub loop-y-smaller : goal.loop-y-smaller
loop-y-smaller c = search laws

pub returns : goal.returns
returns c = search laws
