use Rattle.std.proofs.Common.{rules}
use Rattle.planning.specs.Assembly.{fresh_plan}
use Rattle.seasons.specs.Laws.SeasonWays.{counted_ready, tells_entered}
use Rattle.seasons.proofs.files.season_marked.Goals as goal

pub plan_file-c-requires-clause-fresh_plan : goal.plan_file-c-requires-clause-fresh_plan
plan_file-c-requires-clause-fresh_plan c = search (rules, fresh_plan)

pub tell-requires-clause-ready : goal.tell-requires-clause-ready
tell-requires-clause-ready c = search (rules, counted_ready)

pub returns : goal.returns
returns c = search (rules, tells_entered)
