use Rattle.std.proofs.Common.{rules}
use Rattle.calls.specs.Laws.AirWays.{air_option, air_file}
use Rattle.calls.proofs.explain_air.Goals as goal

pub returns-then-option-gt1 : goal.returns-then-option-gt1
returns-then-option-gt1 c = search (rules, air_option)

pub returns : goal.returns
returns c = search (rules, air_file)
