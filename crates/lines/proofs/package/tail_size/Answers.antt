use Rattle.std.proofs.Common.{rules}
use Rattle.lines.specs.PackageLaws.{package_sizes}
use Rattle.lines.proofs.package.tail_size.Goals as goal

pub returns-in-0 : goal.returns-in-0
returns-in-0 c = search (rules, package_sizes)

pub returns-in-1 : goal.returns-in-1
returns-in-1 c = search (rules, package_sizes)

pub returns-in-2 : goal.returns-in-2
returns-in-2 c = search (rules, package_sizes)

pub returns-in-3 : goal.returns-in-3
returns-in-3 c = search (rules, package_sizes)

pub returns-in_default : goal.returns-in_default
returns-in_default c = search (rules, package_sizes)
