use Rattle.std.proofs.Common.{rules}
use Rattle.std.proofs.lemmas.Result.{err_from_is_err_and}
use Rattle.records.specs.Pass.{left_stop, left_next, left_end}
use Rattle.arms.proofs.rest.Goals as goal

pub returns-in_err-d : goal.returns-in_err-d
returns-in_err-d c =
    let p = err_from_is_err_and c.from_residual.result c.from_residual.ensures.1 in
    rw (p.1, p.2) (search (rules, left_stop))

pub loop-i-preserved : goal.loop-i-preserved
loop-i-preserved c =
    left_next c.args.file.now c.loop-i.i c.loop-i.d c.loop-i.m _ c.loop-i.invariant c.turn.result c.loop-i-test.true c.turn.ensures.value
    c.in_ok-d.d c.turn.new.m c.in_ok-d.was c.turn.ensures.m_after

pub returns : goal.returns
returns c = search (rules, left_end)
