-- No candidate, no link.
use Rattle.std.proofs.Common.{rules}
use Rattle.linking.specs.Fan.{fan_none}
use Rattle.linking.proofs.link_candidates.Goals as goal

pub returns-then-x-eq0 : goal.returns-then-x-eq0
returns-then-x-eq0 c = search (rules, fan_none)
