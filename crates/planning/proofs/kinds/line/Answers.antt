use Rattle.std.specs.Prelude.{◌≡◌, ◌+◌, ◌-◌}
use Rattle.std.proofs.Common.{arith}
use Rattle.planning.specs.Line.{line_excluded, line_bare, line_forbid, line_constrains, line_requires}
use Rattle.planning.proofs.kinds.line.Goals as goal

pub returns-in-Some : goal.returns-in-Some
returns-in-Some c =
    let q : c.in-Some.r + 1 - 1 ≡ c.in-Some.r = omega arith in
    rw q at (line_excluded _ _ _ _ _ _ c.requires _ c.in-Some.ensures (omega arith) (omega arith))

pub returns-then-e1-eq0 : goal.returns-then-e1-eq0
returns-then-e1-eq0 c = line_bare _ _ _ _ _ _ c.requires _ c.in_default.ensures (omega arith) c.if-e1-eq0.true

pub returns-then-any_forbid : goal.returns-then-any_forbid
returns-then-any_forbid c = line_forbid _ _ _ _ _ _ c.requires _ c.in_default.ensures (omega arith) c.if-e1-eq0.false _ c.any_forbid.ensures c.if-any_forbid.true

pub returns-then-c-kc : goal.returns-then-c-kc
returns-then-c-kc c = line_constrains _ _ _ _ _ _ c.requires _ c.in_default.ensures (omega arith) c.if-e1-eq0.false _ c.any_forbid.ensures c.if-any_forbid.false _ _ c.sets-c.ensures c.if-c-kc.true

pub returns : goal.returns
returns c =
    let q : c.sets-c.result ≡ c.args.kc = omega (arith, c.sets-c.ensures.under) in
    rw q at (line_requires _ _ _ _ _ _ c.requires _ c.in_default.ensures (omega arith) c.if-e1-eq0.false _ c.any_forbid.ensures c.if-any_forbid.false _ _ c.sets-c.ensures c.if-c-kc.false)
