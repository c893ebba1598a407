use borrow.Author.Rules.{rules}
use Rattle.texts.specs.Length.{lasts_start, lasts_more, lasts_end}
use Rattle.texts.proofs.marks.lasts.Goals as goal

pub loop-k-init : goal.loop-k-init
loop-k-init c = search (rules, lasts_start)

pub loop-k-preserved : goal.loop-k-preserved
loop-k-preserved c = search (rules, lasts_more)

pub returns : goal.returns
returns c = search (rules, lasts_end)
