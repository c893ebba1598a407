use Rattle.std.proofs.Common.{◌∙◌, Err, refl, ap, rules}
use Rattle.whatif.specs.Laws.Tests.{test_solvable, test_reason, test_unknown, test_known}
use Rattle.whatif.proofs.tests.tested.Goals as goal
use Rattle.whatif.proofs.tests.tested.Goals.{then-solvable-gt65535-via-then-solvable-gt65535, then-solvable-gt65535-via-else-solvable-gt65535+then-reason-gt65535}

pub returns-then-solvable-gt65535 : goal.returns-then-solvable-gt65535
returns-then-solvable-gt65535 c =
    ap Err c.refused.ensures
    ∙ elim c.then-solvable-gt65535.branch [
      | then-solvable-gt65535-via-then-solvable-gt65535 w ↦ search (rules, test_solvable)
      | then-solvable-gt65535-via-else-solvable-gt65535+then-reason-gt65535 w ↦ search (rules, test_reason)
    ]

pub returns-in-Some : goal.returns-in-Some
returns-in-Some c =
    let a = c.in-Some.ensures.some in
    test_known _ _ _ _ _ _ c.requires.loaded c.requires.chains.stored c.requires.file_value _ a.1 _ a.0 c.tested_graph.ensures

pub returns-in-None : goal.returns-in-None
returns-in-None c =
    ap Err c.refused-in-None.ensures
    ∙ test_unknown _ _ _ _ _ _ c.requires.loaded c.requires.chains.stored c.requires.file_value _ refl c.in-None.ensures.none
