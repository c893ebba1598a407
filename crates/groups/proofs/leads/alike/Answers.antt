use Rattle.std.proofs.Common.{sym, ◌∙◌, eqb-true}
use Rattle.std.proofs.lemmas.Bool.{eqb-false}
use Rattle.groups.specs.Leads.{alike_print, alike_id, alike_lead}
use Rattle.groups.proofs.leads.alike.Goals as goal
use Rattle.groups.proofs.leads.alike.Goals.{then-prints-m, else-prints-m}

pub returns-then-ids-m : goal.returns-then-ids-m
returns-then-ids-m c =
    elim c.if-prints-m.branch [
      | then-prints-m w ↦ alike_lead _ _ _ _ _ _ (eqb-true _ _ (sym w.value-is ∙ c.if-ids-m.true)) w.if-prints-m.true c.from.ensures
      | else-prints-m w ↦ absurd (w.if-prints-m.false (eqb-true _ _ (sym w.value-is ∙ c.if-ids-m.true)))
    ]

pub returns-else-ids-m : goal.returns-else-ids-m
returns-else-ids-m c =
    elim c.if-prints-m.branch [
      | then-prints-m w ↦ c.if-ids-m.false ∙ alike_id _ _ _ _ _ (eqb-false _ _ (sym w.value-is ∙ c.if-ids-m.false)) w.if-prints-m.true
      | else-prints-m w ↦ c.if-ids-m.false ∙ alike_print _ _ _ _ _ w.if-prints-m.false
    ]
