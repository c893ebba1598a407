use Rattle.groups.specs.Keys.{way_next, way_less, even_stop, even_next, even_end}
use Rattle.groups.proofs.keys.even_from.Goals as goal

pub returns-then-count_of : goal.returns-then-count_of
returns-then-count_of c = search even_stop

pub loop-e-smaller : goal.loop-e-smaller
loop-e-smaller c = search way_less

pub loop-e-preserved : goal.loop-e-preserved
loop-e-preserved c = (search way_next, search even_next)

pub returns : goal.returns
returns c = search even_end
