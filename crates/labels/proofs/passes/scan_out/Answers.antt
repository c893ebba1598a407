use Rattle.std.proofs.Common.{◌≡◌, ◌||◌, refl, arith}
use Rattle.std.proofs.lemmas.Grind.{common_steps}
use Rattle.labels.specs.Passes.{going_start, going_next, going_less, scan_next, scan_stop, scan_end_lem}
use Rattle.labels.proofs.passes.scan_out.Goals as goal

pub loop-e-init : goal.loop-e-init
loop-e-init c = (search going_start, refl)

pub returns-then-k-eq0 : goal.returns-then-k-eq0
returns-then-k-eq0 c = search scan_stop

pub loop-e-smaller : goal.loop-e-smaller
loop-e-smaller c = search going_less

pub loop-e-preserved : goal.loop-e-preserved
loop-e-preserved c = (search going_next, search scan_next)

pub returns-then-o-2 : goal.returns-then-o-2
returns-then-o-2 c =
    let z : c.if-o.result ≡ c.loop-e.o.lost || c.loop-e.o.bare = grind (arith, common_steps) in
    let y : c.loop-e.o.hit ≡ c.loop-e.o.hit || c.loop-e.o.all = grind (arith, common_steps) in
    search scan_end_lem

pub returns-else-o-2 : goal.returns-else-o-2
returns-else-o-2 c =
    let z : c.if-o.result ≡ c.loop-e.o.lost || c.loop-e.o.bare = grind (arith, common_steps) in
    let y : c.loop-e.o.all ≡ c.loop-e.o.hit || c.loop-e.o.all = grind (arith, common_steps) in
    search scan_end_lem
