-- The laws of the whole.
use Rattle.std.proofs.Common.{rules}
use Rattle.std.proofs.lemmas.Result.{err_from_is_err_and}
use Rattle.graph.specs.Drawing.{start_holds, clauses_most, build_refused, build_whole}
use Rattle.graph.proofs.build.Goals as goal

ruleset laws = (rules, start_holds, clauses_most)

pub build_core-requires-clause-holds : goal.build_core-requires-clause-holds
build_core-requires-clause-holds c = search laws

pub build_core-requires-clause-n_bound : goal.build_core-requires-clause-n_bound
build_core-requires-clause-n_bound c = search laws

pub returns-in_err-m : goal.returns-in_err-m
returns-in_err-m c =
    let p = err_from_is_err_and c.from_residual.result c.from_residual.ensures.1 in
    rw (p.1, p.2)
    (build_refused _ _ _ _ _ _ _ _ _ _ c.requires.n_value c.start-s.ensures.0 c.requires.ls_value c.build_core.ensures _ _ c.in_err-m.was)

pub returns : goal.returns
returns c =
    build_whole _ _ _ _ _ _ _ _ _ _ c.requires.n_value c.start-s.ensures.0 c.requires.ls_value c.build_core.ensures _ c.in_ok-m.m _ _ _ c.in_ok-m.was
    c.finish.ensures
