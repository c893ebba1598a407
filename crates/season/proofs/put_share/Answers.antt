use borrow.Author.Rules.{rules}
use Rattle.season.specs.Laws.Share.{share_bare, share_whole}
use Rattle.season.proofs.put_share.Goals as goal

pub returns-then-not-adding : goal.returns-then-not-adding
returns-then-not-adding c = search (rules, share_bare, share_whole)

pub returns : goal.returns
returns c = search (rules, share_bare, share_whole)
