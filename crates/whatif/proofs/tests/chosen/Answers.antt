use Rattle.std.proofs.Common.{◌≡◌, ◌≤◌, rules, arith}
use Rattle.records.specs.Read.{tables_of}
use Rattle.store.specs.Table.{graph_in}
use Rattle.whatif.specs.Laws.Tests.{chosen_of, chosen_place, chosen_none}
use Rattle.whatif.proofs.tests.chosen.Goals as goal

pub returns-then-not-is_reason-clause-none : goal.returns-then-not-is_reason-clause-none
returns-then-not-is_reason-clause-none c =
    let q : c.args.s.nodes ≡ chosen_of (tables_of c.args.file.now) (graph_in c.args.g.now c.args.s) c.args.solvable c.args.reason = search (rules, chosen_none) in
    omega arith

pub returns-then-a-s-clause-some : goal.returns-then-a-s-clause-some
returns-then-a-s-clause-some c = (search rules, search (rules, chosen_place))

pub returns-else-a-s-clause-none : goal.returns-else-a-s-clause-none
returns-else-a-s-clause-none c =
    let q : c.place_of-a.result ≡ chosen_of (tables_of c.args.file.now) (graph_in c.args.g.now c.args.s) c.args.solvable c.args.reason = search (rules, chosen_place) in
    omega arith
