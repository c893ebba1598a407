use Rattle.std.proofs.Common.{rules}
use Rattle.whatif.specs.Laws.Tests.{gone_counted}
use Rattle.whatif.proofs.tests.gone.Goals as goal

pub returns : goal.returns
returns c = search (rules, gone_counted)
