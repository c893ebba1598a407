use Rattle.std.proofs.Common.{◌∙◌, inl, inr}
use borrow.Author.Tests.{lt-leb, ne_eqb}
use Rattle.settings.specs.Laws.Ways.{row_other, row_low, row_high}
use Rattle.settings.proofs.in_row.Goals.{then-s-setting, else-s-setting}
use Rattle.settings.proofs.in_row.Goals as goal

pub returns-then-low-c : goal.returns-then-low-c
returns-then-low-c c = row_high _ _ _ _ _ c.if-low-c.true.0 c.if-low-c.true.1

pub returns-else-low-c : goal.returns-else-low-c
returns-else-low-c c =
    elim c.if-s-setting.branch [
      | then-s-setting w ↦ elim c.if-low-c.either [
        | inl p ↦ w.t-7-is ∙ lt-leb _ _ p.1 ∙ row_low _ _ _ _ _ p.0 p.1
        | inr q ↦ absurd (q w.if-s-setting.true)
      ]
      | else-s-setting w ↦ w.t-7-is ∙ ne_eqb _ _ w.if-s-setting.false ∙ row_other _ _ _ _ _ w.if-s-setting.false
    ]
