use Rattle.std.proofs.Common.{◌≤◌, length}
use Rattle.records.specs.Read.{tables_of}
use Rattle.texts.specs.MarkBits.{marks_in}
use Rattle.plan.specs.Fields.{sets_from}
use Rattle.lines.specs.Said.{sets_said}
use Rattle.lines.specs.SetLaws.{Done, parents}
use Rattle.lines.proofs.sets.set_lines.Given as goal

abbrev pub invariant-loop-i : goal.invariant-loop-i
invariant-loop-i l =
    record {
      within : l.bytes ≤ length l.out;
      fewer : l.units ≤ l.bytes;
      done : Done (sets_said (tables_of l.file) l.g.top (parents (marks_in l.g)) (sets_from l.k l.first l.end))
          (sets_said (tables_of l.file) l.g.top (parents (marks_in l.g)) (sets_from l.k l.first l.i)) l.initial.out l.out l.bytes l.units;
    }
