-- The laws of one triple.
use Rattle.std.proofs.Common.{rules}
use Rattle.std.proofs.lemmas.Result.{err_from_is_err_and}
use Rattle.expansion.specs.Pairing.{onces, once_room, once_new}
use Rattle.expansion.proofs.make_once.Goals as goal

ruleset laws = (rules, onces, once_room)

pub returns-then-made : goal.returns-then-made
returns-then-made c = search laws

pub returns-in_err-a : goal.returns-in_err-a
returns-in_err-a c =
    let p = err_from_is_err_and c.from_residual.result c.from_residual.ensures.1 in
    rw (p.1, p.2) (search laws)

pub make-requires : goal.make-requires
make-requires c = search laws

pub returns : goal.returns
returns c =
    once_new _ _ _ _ _ _ _ _ c.requires c.pack-t.ensures c.made.result c.made.ensures _ c.link.result c.if-made.false c.link.ensures.result_after
    c.link.ensures.growing c.in_ok-a.a c.in_ok-a.was _ _ c.make.ensures.tr_after c.make.ensures.ls_after
