use Rattle.std.proofs.Common.{◌≡◌}
use Rattle.store.specs.Table.{graph_in}
use Rattle.groups.specs.Leads.{title_in, leads_to}
use Rattle.groups.proofs.leads.lead_all.Given as goal

abbrev pub invariant-loop-n : goal.invariant-loop-n
invariant-loop-n l = l.leads ≡ leads_to (title_in l.ids) (graph_in l.g l.s) l.n l.fn.leads
