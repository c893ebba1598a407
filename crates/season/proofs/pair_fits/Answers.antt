use Rattle.std.proofs.Common.{arith, ◌≤◌}
use Rattle.season.specs.Laws.Words.{pair_is}
use Rattle.season.proofs.pair_fits.Goals as goal

pub returns : goal.returns
returns c = let h : c.get-a.result ≤ 18446744073709551615 = omega arith in search pair_is
