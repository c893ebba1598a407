use Rattle.std.proofs.Common.{◌≡◌, true, false, ◌∙◌}
use Rattle.std.proofs.lemmas.Bool.{not-true, not-false}
use Rattle.labels.specs.Passes.{install_none, install_unresolved, install_rest}
use Rattle.labels.proofs.passes.can_install.Goals as goal
use Rattle.labels.proofs.passes.can_install.Goals.{then-every, else-every}

pub returns-then-not-unresolved_at : goal.returns-then-not-unresolved_at
returns-then-not-unresolved_at c =
    elim c.if-every.branch [
      | then-every w ↦ let f : w.unresolved_at.result ≡ false = not-true _ cc in search install_rest
      | else-every w ↦ absurd cc
    ]

pub returns-else-not-unresolved_at : goal.returns-else-not-unresolved_at
returns-else-not-unresolved_at c =
    elim c.if-every.branch [
      | then-every w ↦ let t : w.unresolved_at.result ≡ true = not-false _ cc in c.if-not-unresolved_at.false ∙ search install_unresolved
      | else-every w ↦ c.if-not-unresolved_at.false ∙ search install_none
    ]
