use Rattle.std.proofs.Common.{◌≡◌}
use Rattle.records.specs.Read.{tables_of}
use Rattle.groups.specs.Firsts.{firsts_to}
use Rattle.groups.specs.Noted.{text_in}
use Rattle.groups.proofs.naming.number_all.Given as goal

abbrev pub invariant-loop-n : goal.invariant-loop-n
invariant-loop-n l = l.ids ≡ firsts_to (text_in (tables_of l.file) l.names) l.n l.fn.ids
