use Rattle.std.proofs.Common.{◌≡◌, length}
use Rattle.records.specs.Read.{tables_of}
use Rattle.explanation.specs.Stand.{indenter_at}
use Rattle.explanation.specs.Walk.{Walking, to_go}
use Rattle.explanation.proofs.walk.walk_plan.Given as goal

abbrev pub invariant-loop-u : goal.invariant-loop-u
invariant-loop-u l =
    record {
      marks : length l.levels ≡ 65;
      walking : Walking (tables_of l.file) l.p l.k l.top l.fr l.seen l.t (indenter_at l.levels l.count l.top) l.initial.out l.out;
    }

abbrev pub decreases-loop-u : goal.decreases-loop-u
decreases-loop-u l = to_go l.out l.t
