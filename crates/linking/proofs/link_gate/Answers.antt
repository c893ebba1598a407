-- The laws of the links of a gate's partners.
use Rattle.std.proofs.Common.{rules}
use Rattle.std.proofs.lemmas.Result.{err_from_is_err_and}
use Rattle.views.specs.Walks.{gates_less}
use Rattle.linking.specs.Requiring.{gates}
use Rattle.linking.proofs.link_gate.Goals as goal

ruleset laws = (rules, gates_less, gates)

pub returns-in_err-t : goal.returns-in_err-t
returns-in_err-t c =
    let p = err_from_is_err_and c.from_residual.result c.from_residual.ensures.1 in
    rw (p.1, p.2) (search laws)

pub loop-y-smaller : goal.loop-y-smaller
loop-y-smaller c = search laws

pub loop-y-preserved : goal.loop-y-preserved
loop-y-preserved c = search laws

pub returns : goal.returns
returns c = search laws
