-- The laws of a node with the link from the one before it.
use Rattle.std.proofs.Common.{rules}
use Rattle.std.proofs.lemmas.Result.{err_from_is_err_and}
use Rattle.linking.specs.Growth.{forbids, held_on}
use Rattle.linking.proofs.add_forbidden.Goals as goal

ruleset laws = (rules, forbids, held_on)

pub returns-in_err-a : goal.returns-in_err-a
returns-in_err-a c =
    let p = err_from_is_err_and c.from_residual.result c.from_residual.ensures.1 in
    rw (p.1, p.2) (search laws)

pub returns-then-p-eq0 : goal.returns-then-p-eq0
returns-then-p-eq0 c = search laws

pub returns : goal.returns
returns c = search laws
