use Rattle.groups.specs.Noted.{noted_none, noted_next, noted_all}
use Rattle.groups.proofs.naming.note_all.Goals as goal

pub loop-i-init : goal.loop-i-init
loop-i-init c = search noted_none

pub loop-i-preserved : goal.loop-i-preserved
loop-i-preserved c = search noted_next

pub returns : goal.returns
returns c = search noted_all
