use Rattle.std.proofs.Common.{◌≡◌, rules, Some}
use Rattle.index.specs.Taking.{going_none}
use Rattle.index.specs.Load.{quick_held, quick_few}
use Rattle.index.proofs.load_by_arms.Goals as goal

pub run-requires-clause-going : goal.run-requires-clause-going
run-requires-clause-going c = search (rules, going_none)

pub hang_partners-requires : goal.hang_partners-requires
hang_partners-requires c = let e : c.run.result ≡ Some c.in_ok-c.c = c.in_ok-c.was in search (rules, quick_few)

pub returns : goal.returns
returns c = quick_held _ _ _ _ c.in_ok-c.c c.run.ensures c.in_ok-c.was (search rules) (search rules) c.hang_partners.ensures
