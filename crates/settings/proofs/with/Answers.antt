use borrow.Author.Rules.{rules}
use Rattle.settings.specs.Laws.Ways.{put_at_lem, put_none}
use Rattle.settings.proofs.with.Goals as goal

pub returns-in-1 : goal.returns-in-1
returns-in-1 c = search (rules, put_at_lem, put_none)

pub returns-in-2 : goal.returns-in-2
returns-in-2 c = search (rules, put_at_lem, put_none)

pub returns-in-3 : goal.returns-in-3
returns-in-3 c = search (rules, put_at_lem, put_none)

pub returns-in_default : goal.returns-in_default
returns-in_default c = search (rules, put_at_lem, put_none)
