use Rattle.std.proofs.Common.{◌≡◌, ◌<◌, ◌≤◌, ◌==◌, slice_index, refl, arith}
use Rattle.std.specs.Int.{from_bool}
use Rattle.std.proofs.lemmas.List.{get_or-take, length-take-le}
use Rattle.groups.specs.Laws.Prints.{twins_none, twins_next}
use Rattle.groups.proofs.Bits.{bool_bump, bool_small}
use Rattle.groups.proofs.prints.twins.Goals as goal

pub loop-x-init : goal.loop-x-init
loop-x-init c = (omega arith, twins_none _ _)

pub loop-x-preserved : goal.loop-x-preserved
loop-x-preserved c =
    let h : c.loop-x.x-index < c.args.n = omega (arith, length-take-le c.args.n c.args.prints.now (omega arith)) in
    let e : c.from-c.result ≡ from_bool (slice_index c.args.prints.now c.loop-x.x-index == slice_index c.args.prints.now c.args.n) =
    rw get_or-take at c.from-c.ensures in
    let s : c.from-c.result ≤ 1 = bool_small _ _ e in
    (omega arith, twins_next _ _ _ _ _ _ c.loop-x.invariant.1 (bool_bump _ _ e) refl)
