use Rattle.std.proofs.Common.{◌+◌, ◌∙◌, Some, None, Err, refl, ap, arith}
use Rattle.std.proofs.Math.Bool.{not}
use Rattle.cycles.specs.Laws.Found.{found_more}
use Rattle.whatif.specs.Laws.Tests.{test_full, test_cycle, test_passed}
use Rattle.whatif.proofs.tests.tested_graph.Goals as goal

pub returns-then-not-has_room : goal.returns-then-not-has_room
returns-then-not-has_room c =
    ap Err c.refused.ensures ∙ test_full _ _ _ _ _ _ c.has_room.ensures c.clauses-n.ensures.0 _ (ap not c.if-not-has_room.true) refl

pub returns-in-Some : goal.returns-in-Some
returns-in-Some c =
    ap Err c.refused-in-Some.ensures
    ∙ test_cycle _ _ _ _ _ _ c.has_room.ensures c.clauses-n.ensures.0 (ap not c.if-not-has_room.false) (c.in-Some.c + 1)
    (found_more (Some c.in-Some.c) _ c.in-Some.ensures) _ (omega arith) (omega arith)

pub returns-in-None : goal.returns-in-None
returns-in-None c =
    test_passed _ _ _ _ _ _ c.has_room.ensures c.clauses-n.ensures.0 (ap not c.if-not-has_room.false) 0 (found_more None _ c.in-None.ensures) _ (omega arith)
    refl
