use Rattle.std.proofs.Common.{rules}
use Rattle.groups.specs.Leads.{none_more, lead_found, lead_last}
use Rattle.groups.proofs.leads.first_fit.Goals as goal

pub returns-then-fits : goal.returns-then-fits
returns-then-fits c = (search lead_found, search rules)

pub loop-m-preserved : goal.loop-m-preserved
loop-m-preserved c = search none_more

pub returns : goal.returns
returns c = (search lead_last, search rules)
