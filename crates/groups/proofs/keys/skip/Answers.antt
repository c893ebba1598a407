use Rattle.groups.specs.Keys.{skip_start, skip_done, skip_next, skip_less}
use Rattle.groups.proofs.keys.skip.Goals as goal

pub loop-a-init : goal.loop-a-init
loop-a-init c = search skip_start

pub returns-then-b-eq0 : goal.returns-then-b-eq0
returns-then-b-eq0 c = search skip_done

pub returns-then-key_at : goal.returns-then-key_at
returns-then-key_at c = search skip_done

pub loop-a-smaller : goal.loop-a-smaller
loop-a-smaller c = search skip_less

pub loop-a-preserved : goal.loop-a-preserved
loop-a-preserved c = search skip_next

pub returns : goal.returns
returns c = search skip_done
