use Rattle.std.proofs.Common.{rules}
use Rattle.lines.specs.PackageLaws.{package_tails}
use Rattle.lines.proofs.package.put_tail.Goals as goal

pub put_reason-requires : goal.put_reason-requires
put_reason-requires c = search (rules, package_tails)

pub put-requires : goal.put-requires
put-requires c = search (rules, package_tails)

pub put-requires-in-2 : goal.put-requires-in-2
put-requires-in-2 c = search (rules, package_tails)

pub put-requires-in-3 : goal.put-requires-in-3
put-requires-in-3 c = search (rules, package_tails)

pub put-requires-in_default : goal.put-requires-in_default
put-requires-in_default c = search (rules, package_tails)

pub returns-in-0 : goal.returns-in-0
returns-in-0 c = search (rules, package_tails)

pub returns-in-1 : goal.returns-in-1
returns-in-1 c = search (rules, package_tails)

pub returns-in-2 : goal.returns-in-2
returns-in-2 c = search (rules, package_tails)

pub returns-in-3 : goal.returns-in-3
returns-in-3 c = search (rules, package_tails)

pub returns-in_default : goal.returns-in_default
returns-in_default c = search (rules, package_tails)
