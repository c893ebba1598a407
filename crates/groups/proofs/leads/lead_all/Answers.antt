use Rattle.groups.specs.Leads.{leads_none, ready_at, leads_next}
use Rattle.groups.proofs.leads.lead_all.Goals as goal

pub loop-n-init : goal.loop-n-init
loop-n-init c = search leads_none

pub lead_of-requires : goal.lead_of-requires
lead_of-requires c = search ready_at

pub loop-n-preserved : goal.loop-n-preserved
loop-n-preserved c = search leads_next
