use Rattle.std.proofs.Common.{◌≡◌, ◌<◌, ◌∙◌, arith, refl, length, take, get_or, length-take, get_or-take}
use Rattle.salvage.specs.Laws.Paste.{blanks_start, blanks_next, blanks_end}
use Rattle.salvage.proofs.repair.blank_all.Goals as goal

pub loop-l-init : goal.loop-l-init
loop-l-init c = blanks_start c.args.list.now c.args.k c.args.room.now

pub loop-l-preserved : goal.loop-l-preserved
loop-l-preserved c =
    let t = length-take c.args.k c.args.list.now in
    let h : c.loop-l.l-index < c.args.k = omega arith in
    let z = get_or-take c.args.k c.args.list.now c.loop-l.l-index 0 h in
    blanks_next c.args.list.now c.args.k c.loop-l.l-index c.loop-l.room _ c.blank_at.new.room _ c.from.result c.loop-l.invariant h c.requires refl
    (c.from.ensures ∙ z) c.blank_at.ensures

pub returns : goal.returns
returns c =
    let t = length-take c.args.k c.args.list.now in blanks_end c.args.list.now c.args.k c.loop-l.l-index c.loop-l.room _ c.loop-l.invariant (omega arith)
