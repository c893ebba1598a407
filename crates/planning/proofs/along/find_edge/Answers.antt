use Rattle.std.specs.Prelude.{refl}
use Rattle.planning.specs.Along.{found_skip, found_one}
use Rattle.planning.proofs.along.find_edge.Goals as goal

pub returns-then-k-eq0 : goal.returns-then-k-eq0
returns-then-k-eq0 c = search found_skip

pub returns-then-o : goal.returns-then-o
returns-then-o c = found_one _ _ _ _ c.requires_at-k.ensures.0 _ _ _ c.if-k-eq0.false c.target_at-t.ensures.0 c.marked-m.ensures (rw c.if-o.true refl)

pub returns-else-o : goal.returns-else-o
returns-else-o c = found_one _ _ _ _ c.requires_at-k.ensures.0 _ _ _ c.if-k-eq0.false c.target_at-t.ensures.0 c.marked-m.ensures (rw c.if-o.false refl)
