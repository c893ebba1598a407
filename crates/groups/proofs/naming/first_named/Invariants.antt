use Rattle.std.proofs.Common.{◌≡◌}
use Rattle.records.specs.Read.{tables_of}
use Rattle.groups.specs.Firsts.{first_from, first_like}
use Rattle.groups.specs.Noted.{text_in}
use Rattle.groups.proofs.naming.first_named.Given as goal

abbrev pub invariant-loop-m : goal.invariant-loop-m
invariant-loop-m l = first_from (text_in (tables_of l.file) l.names) l.n l.m ≡ first_like (text_in (tables_of l.file) l.names) l.n
