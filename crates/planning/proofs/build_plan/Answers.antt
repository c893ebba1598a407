use Rattle.planning.specs.Assembly.{leads_ok, tails_short, assembled, made}
use Rattle.planning.proofs.build_plan.Goals as goal

pub group_words-requires-clause-leads_ok : goal.group_words-requires-clause-leads_ok
group_words-requires-clause-leads_ok c = search leads_ok

pub sizes-requires-clause-short : goal.sizes-requires-clause-short
sizes-requires-clause-short c = search tails_short

pub returns-clause-planned : goal.returns-clause-planned
returns-clause-planned c = search assembled

pub returns-clause-plan_made : goal.returns-clause-plan_made
returns-clause-plan_made c = search made
