use Rattle.std.proofs.Common.{◌≡◌, ◌<◌, rules, arith, Ok, length, ◌/◌}
use Rattle.std.proofs.lemmas.Result.{err_from_is_err_and}
use Rattle.salvage.specs.Laws.Pass.{left_start, left_next, left_stop, left_stop_list, left_end, left_end_list, turn_count, few_halt}
use Rattle.salvage.proofs.judge.judge.Goals as goal

pub loop-i-init : goal.loop-i-init
loop-i-init c = record { few = search rules; left = search left_start }

pub turn-requires : goal.turn-requires
turn-requires c = (omega arith, c.loop-i.invariant.few)

pub returns-in_err-w-clause-value : goal.returns-in_err-w-clause-value
returns-in_err-w-clause-value c =
    let p = err_from_is_err_and c.from_residual.result c.from_residual.ensures.1 in
    rw (p.1, p.2)
    (left_stop c.args.file.now c.loop-i.i c.loop-i.w c.loop-i.m c.loop-i.list _ c.loop-i.invariant.left c.turn.result c.loop-i-test.true c.turn.ensures.value
    c.in_err-w.field-0.0 c.in_err-w.was)

pub returns-in_err-w-clause-list_after : goal.returns-in_err-w-clause-list_after
returns-in_err-w-clause-list_after c =
    left_stop_list c.args.file.now c.loop-i.i c.loop-i.w c.loop-i.m c.loop-i.list _ c.loop-i.invariant.left c.turn.result c.loop-i-test.true c.turn.ensures.value
    c.in_err-w.field-0.0 c.turn.new.list c.in_err-w.was c.turn.ensures.list_after

pub returns-in_err-w-clause-few : goal.returns-in_err-w-clause-few
returns-in_err-w-clause-few c =
    let p = err_from_is_err_and c.from_residual.result c.from_residual.ensures.1 in
    rw p.1 (record { is = tt })

pub loop-i-preserved : goal.loop-i-preserved
loop-i-preserved c =
    record {
      few = turn_count c.loop-i.w c.loop-i.m _ c.loop-i.i c.loop-i.i c.turn.result c.in_ok-w.w c.turn.ensures.value c.in_ok-w.was c.loop-i.invariant.few;
      left =
          left_next c.args.file.now c.loop-i.i c.loop-i.w c.loop-i.m c.loop-i.list _ c.loop-i.invariant.left c.turn.result c.loop-i-test.true
          c.turn.ensures.value c.in_ok-w.w c.turn.new.m c.turn.new.list c.in_ok-w.was c.turn.ensures.m_after c.turn.ensures.list_after;
    }

pub returns-clause-value : goal.returns-clause-value
returns-clause-value c = search (rules, left_end)

pub returns-clause-list_after : goal.returns-clause-list_after
returns-clause-list_after c = search (rules, left_end_list)
