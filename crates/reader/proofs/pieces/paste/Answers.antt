use Rattle.std.proofs.Common.{rules}
use Rattle.reader.specs.Laws.Paste.{pasted_none, pasted_more, pasted_all}
use Rattle.reader.proofs.pieces.paste.Goals as goal

pub loop-i-init : goal.loop-i-init
loop-i-init g c = search (rules, pasted_none)

pub loop-i-preserved : goal.loop-i-preserved
loop-i-preserved g c = search (rules, pasted_more)

pub returns : goal.returns
returns g c = search (rules, pasted_all)
