use Rattle.season.specs.Laws.Joins.{three_none, three_some}
use Rattle.season.proofs.put_three.Goals.{in-Some, in-None}
use Rattle.season.proofs.put_three.Goals as goal

pub returns : goal.returns
returns c =
    elim c.match-d.branch [
      | in-Some w ↦ rw w.in-Some.is (three_some _ _ _ _ w.in-Some.x (rw w.depth-is at c.put.ensures) (rw w.depth-is at c.put-2.ensures) (rw w.depth-is at c.put-3.ensures))
      | in-None w ↦ rw w.in-None.is (three_none _ _ _ _ (rw w.depth-is at c.put.ensures) (rw w.depth-is at c.put-2.ensures) (rw w.depth-is at c.put-3.ensures))
    ]
