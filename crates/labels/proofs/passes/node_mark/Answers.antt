use Rattle.std.proofs.Common.{◌≡◌, ◌||◌, refl, arith}
use Rattle.std.proofs.lemmas.Grind.{common_steps}
use Rattle.labels.specs.Marks.{inst_at, miss_at}
use Rattle.labels.proofs.Ways.{mark_via}
use Rattle.labels.proofs.passes.node_mark.Goals as goal
use Rattle.labels.proofs.passes.node_mark.Goals.{then-can_install, else-can_install, then-v, else-v}

pub returns : goal.returns
returns c =
    let a : c.if-can_install.installable ≡ c.can_install.result || inst_at c.args.marks.now c.args.n =
    elim c.if-can_install.branch [ then-can_install w ↦ grind (arith, common_steps) | else-can_install w ↦ grind (arith, common_steps) ] in
    let b : c.if-v.missing ≡ c.scan_out-v.result.some || miss_at c.args.marks.now c.args.n =
    elim c.if-v.branch [ then-v w ↦ grind (arith, common_steps) | else-v w ↦ grind (arith, common_steps) ] in
    mark_via _ _ _ _ _ _ _ _ _ _ _ _ c.scan_out-v.ensures c.can_install.ensures refl refl a b c.bits.ensures
