use Rattle.std.proofs.Common.{◌≡◌, ◌≤◌, length}
use Rattle.records.specs.Shapes.{records_of}
use Rattle.salvage.specs.Pass.{judge_from, no_work}
use Rattle.salvage.specs.Laws.Pass.{JudgeLeft}
use Rattle.salvage.proofs.judge.judge.Given as goal

abbrev pub invariant-loop-i : goal.invariant-loop-i
invariant-loop-i l = record {
  few : l.w.replaced ≤ l.i;
  left : JudgeLeft l.file l.i l.w l.m l.list (judge_from (records_of l.file) 0 no_work l.fn.m l.fn.list);
}
