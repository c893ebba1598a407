use Rattle.std.proofs.Common.{rules}
use Rattle.lines.specs.PackageLaws.{fits_reason, fits_other}
use Rattle.lines.proofs.package.tail_fits.Goals as goal

pub returns-then-t-eq0 : goal.returns-then-t-eq0
returns-then-t-eq0 c = search (rules, fits_reason)

pub returns : goal.returns
returns c = search (rules, fits_other)
