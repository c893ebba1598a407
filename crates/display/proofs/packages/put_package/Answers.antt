use Rattle.std.proofs.Common.{rules}
use Rattle.display.specs.PackageWriting.{package_room, package_wrote}
use Rattle.display.proofs.packages.put_package.Goals as goal

pub put_named-requires-clause-next_in_bounds : goal.put_named-requires-clause-next_in_bounds
put_named-requires-clause-next_in_bounds c = search (rules, package_room, package_wrote)

pub returns : goal.returns
returns c = search (rules, package_room, package_wrote)
