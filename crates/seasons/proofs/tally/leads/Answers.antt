use Rattle.std.proofs.Common.{rules, ap, ◌∙◌}
use Rattle.std.specs.Prelude.{not}
use Rattle.seasons.specs.Laws.TallyWays.{leads_no, leads_yes}
use Rattle.seasons.proofs.tally.leads.Goals as goal

pub returns-then-merged : goal.returns-then-merged
returns-then-merged c = leads_yes _ _ c.merged.result (search rules) c.lead.result (search rules) (ap not c.if-merged.true)

pub returns-else-merged : goal.returns-else-merged
returns-else-merged c = c.if-merged.false ∙ leads_no _ _ c.merged.result (search rules) (ap not c.if-merged.false)
