-- The laws of a walk down a chain of triples.
use Rattle.std.proofs.Common.{rules}
use Rattle.basis.specs.Walks.{somes_down, has_start}
use Rattle.expansion.specs.Hashed.{held}
use Rattle.expansion.proofs.triples.made.Goals as goal

ruleset laws = (rules, somes_down)

pub loop-e-init : goal.loop-e-init
loop-e-init c = (search laws, search (rules, has_start, held))

pub returns-then-word_is : goal.returns-then-word_is
returns-then-word_is c = search laws

pub loop-e-smaller : goal.loop-e-smaller
loop-e-smaller c = search laws

pub loop-e-preserved : goal.loop-e-preserved
loop-e-preserved c = (search laws, search laws)

pub returns : goal.returns
returns c = search laws
