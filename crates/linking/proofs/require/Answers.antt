-- One requirer's links.
use Rattle.std.proofs.Common.{rules}
use Rattle.linking.specs.Requiring.{requires_one}
use Rattle.linking.proofs.require.Goals as goal

ruleset laws = (rules, requires_one)

pub returns-then-x-eq0 : goal.returns-then-x-eq0
returns-then-x-eq0 c = search laws

pub returns : goal.returns
returns c = search laws
