use Rattle.std.proofs.Common.{rules, ◌∙◌}
use Rattle.season.proofs.Sums.{at_none, at_some}
use Rattle.season.proofs.deep_at.Goals as goal

pub returns-then-get-eq0 : goal.returns-then-get-eq0
returns-then-get-eq0 c = search (rules, at_none)

pub returns : goal.returns
returns c =
    rw (c.get-2.ensures, c.get-3.ensures)
    (at_some c.args.ws.now (λ z. c.if-get-eq0.false (c.get.ensures ∙ z)))
