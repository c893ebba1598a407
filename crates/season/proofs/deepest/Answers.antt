use Rattle.season.proofs.Sums.{shown_fits, deep_kept, deep_less}
use Rattle.season.proofs.deepest.Goals as goal

pub returns-in_default-None : goal.returns-in_default-None
returns-in_default-None c =
    deep_kept c.args.n _ _ _ _ (shown_fits _ c.type_inv.report) c.deep_at-a.ensures c.deep_at.ensures c.in_default-None.is-1

pub returns-else-a-b : goal.returns-else-a-b
returns-else-a-b c =
    deep_less c.args.n _ _ _ _ c.in-Some-Some.a c.in-Some-Some.b (shown_fits _ c.type_inv.report) c.deep_at-a.ensures c.deep_at.ensures
    c.in-Some-Some.is-0 c.in-Some-Some.is-1 c.if-a-b.false
