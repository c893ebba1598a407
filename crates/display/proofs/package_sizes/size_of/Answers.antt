use Rattle.std.proofs.Common.{rules}
use Rattle.display.specs.PackageLengths.{size_is}
use Rattle.display.proofs.package_sizes.size_of.Goals as goal

pub returns : goal.returns
returns c = search (rules, size_is)
