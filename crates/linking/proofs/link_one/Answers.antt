-- The laws of one link.
use Rattle.std.proofs.Common.{rules}
use Rattle.std.proofs.lemmas.Result.{err_from_is_err_and}
use Rattle.linking.specs.Growth.{ones}
use Rattle.linking.proofs.link_one.Goals as goal

ruleset laws = (rules, ones)

pub returns-in_err-a : goal.returns-in_err-a
returns-in_err-a c =
    let p = err_from_is_err_and c.from_residual.result c.from_residual.ensures.1 in
    rw (p.1, p.2) (search laws)

pub returns : goal.returns
returns c = search laws
