use Rattle.planning.specs.Written.{lone_many, lone_one}
use Rattle.planning.proofs.write.alone.Goals as goal

pub returns-then-many : goal.returns-then-many
returns-then-many c = search lone_many

pub returns : goal.returns
returns c = search lone_one
