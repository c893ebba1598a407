-- The links of a party.
use Rattle.std.proofs.Common.{rules}
use Rattle.linking.specs.Requiring.{party_none, party_some}
use Rattle.linking.proofs.require_party.Goals as goal

ruleset laws = (rules, party_none, party_some)

pub returns-in_default : goal.returns-in_default
returns-in_default c = search laws

pub returns : goal.returns
returns c = search laws
