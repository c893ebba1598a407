-- The laws of a requirer's node that is found once.
use Rattle.std.proofs.Common.{rules}
use Rattle.std.proofs.lemmas.Result.{err_from_is_err_and}
use Rattle.linking.specs.Growth.{held_on}
use Rattle.linking.specs.Fan.{at_small, fans}
use Rattle.linking.proofs.link_some.Goals as goal

ruleset laws = (rules, held_on, at_small, fans)

pub returns-in_err-a : goal.returns-in_err-a
returns-in_err-a c =
    let p = err_from_is_err_and c.from_residual.result c.from_residual.ensures.1 in
    rw (p.1, p.2) (search laws)

pub returns : goal.returns
returns c = search laws
