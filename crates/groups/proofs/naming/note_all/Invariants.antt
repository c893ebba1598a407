use Rattle.records.specs.Read.{tables_of}
use Rattle.store.specs.Table.{graph_in}
use Rattle.groups.specs.Noted.{Noted}
use Rattle.groups.proofs.naming.note_all.Given as goal

abbrev pub invariant-loop-i : goal.invariant-loop-i
invariant-loop-i l = Noted (tables_of l.file) (graph_in l.g l.fn.s) l.names l.keys l.i
