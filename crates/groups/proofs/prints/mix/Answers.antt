use Rattle.groups.specs.Laws.Prints.{mix_out, mix_in}
use Rattle.groups.proofs.prints.mix.Goals as goal

pub returns-then-d : goal.returns-then-d
returns-then-d c = search mix_out

pub returns-else-d : goal.returns-else-d
returns-else-d c = search mix_in
