use Rattle.std.proofs.Common.{◌≡◌, refl}
use Rattle.std.proofs.lemmas.Result.{err_from_is_err_and}
use Rattle.whatif.specs.Laws.Tests.{pass_at}
use Rattle.whatif.specs.Laws.Asks.{asks_refused, asks_passing, asks_whole}
use Rattle.whatif.proofs.ask.Goals as goal

pub returns-in_err-c : goal.returns-in_err-c
returns-in_err-c c =
    let p = err_from_is_err_and c.from_residual.result c.from_residual.ensures.1 in
    rw (p.1, p.2)
    (asks_refused _ _ _ _ _ _ _ _ c.requires.loaded c.requires.chains c.requires.file_value c.tested.ensures _ _ _ _ c.in_err-c.was refl)

pub exclude-t-requires-clause-passing : goal.exclude-t-requires-clause-passing
exclude-t-requires-clause-passing c =
    let e : c.tested.result ≡ pass_at c.in_ok-c.c.node c.in_ok-c.c.clause = c.in_ok-c.was in
    asks_passing _ _ _ _ _ _ _ _ c.requires.loaded c.requires.chains c.requires.file_value c.tested.ensures _ _ e

pub returns : goal.returns
returns c =
    let e : c.tested.result ≡ pass_at c.in_ok-c.c.node c.in_ok-c.c.clause = c.in_ok-c.was in
    asks_whole _ _ _ _ _ _ _ _ c.requires.loaded c.requires.chains c.requires.file_value c.tested.ensures _ _ e _ _ _ _ _ _ c.exclude-t.ensures refl
