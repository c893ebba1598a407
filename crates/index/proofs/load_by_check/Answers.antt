use Rattle.std.proofs.Common.{◌≡◌, rules, Ok}
use Rattle.index.specs.Load.{load_short, load_candidates, load_clauses, load_held}
use Rattle.index.proofs.load_by_check.Goals as goal

pub fill-requires : goal.fill-requires
fill-requires c =
    let e : c.read.result ≡ Ok c.in_ok-c.c = c.in_ok-c.was in (search (rules, load_short), search (rules, load_candidates), search (rules, load_clauses))

pub returns-clause-held : goal.returns-clause-held
returns-clause-held c = let e : c.read.result ≡ Ok c.in_ok-c.c = c.in_ok-c.was in search (rules, load_held)
