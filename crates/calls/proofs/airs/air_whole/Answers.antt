use Rattle.std.proofs.Common.{rules}
use Rattle.calls.specs.Laws.AirWays.{air_denied, air_passed}
use Rattle.calls.proofs.airs.air_whole.Goals as goal

pub returns-in-Refused : goal.returns-in-Refused
returns-in-Refused c = search (rules, air_denied)

pub returns-in-Passed : goal.returns-in-Passed
returns-in-Passed c = search (rules, air_passed)
