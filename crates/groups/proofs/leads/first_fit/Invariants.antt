use Rattle.store.specs.Table.{graph_in}
use Rattle.groups.specs.Leads.{None, title_in}
use Rattle.groups.proofs.leads.first_fit.Given as goal

abbrev pub invariant-loop-m : goal.invariant-loop-m
invariant-loop-m l = None (title_in l.ids) (graph_in l.g l.s) l.n l.m
