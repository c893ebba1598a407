use Rattle.std.proofs.Common.{◌≤◌, rules, arith, length}
use Rattle.salvage.specs.Laws.Lent.{answers, rooms, lists}
use Rattle.salvage.proofs.salvage.Goals as goal

pub returns-in-Err-clause-value : goal.returns-in-Err-clause-value
returns-in-Err-clause-value c =
    let h : length c.args.file.now ≤ 65536 = omega arith in search (rules, answers)

pub returns-in-Err-clause-room_after : goal.returns-in-Err-clause-room_after
returns-in-Err-clause-room_after c =
    let h : length c.args.file.now ≤ 65536 = omega arith in search (rules, rooms)

pub returns-in-Err-clause-list_after : goal.returns-in-Err-clause-list_after
returns-in-Err-clause-list_after c =
    let h : length c.args.file.now ≤ 65536 = omega arith in search (rules, lists)

pub returns-in-Ok-clause-value : goal.returns-in-Ok-clause-value
returns-in-Ok-clause-value c =
    let h : length c.args.file.now ≤ 65536 = omega arith in search (rules, answers)

pub returns-in-Ok-clause-room_after : goal.returns-in-Ok-clause-room_after
returns-in-Ok-clause-room_after c =
    let h : length c.args.file.now ≤ 65536 = omega arith in search (rules, rooms)

pub returns-in-Ok-clause-list_after : goal.returns-in-Ok-clause-list_after
returns-in-Ok-clause-list_after c =
    let h : length c.args.file.now ≤ 65536 = omega arith in search (rules, lists)
