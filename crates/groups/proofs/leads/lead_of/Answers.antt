use Rattle.std.proofs.Common.{rules}
use Rattle.groups.specs.Leads.{lead_lone, lead_kind}
use Rattle.groups.proofs.leads.lead_of.Goals as goal
use Rattle.groups.proofs.leads.lead_of.Goals.{then-twins-eq0-via-then-twins-eq0, then-twins-eq0-via-else-twins-eq0+then-not-solvable_at}

pub returns-then-twins-eq0 : goal.returns-then-twins-eq0
returns-then-twins-eq0 c =
    elim c.then-twins-eq0.branch [
      | then-twins-eq0-via-then-twins-eq0 w ↦ (search lead_lone, search rules)
      | then-twins-eq0-via-else-twins-eq0+then-not-solvable_at w ↦ (search lead_kind, search rules)
    ]
