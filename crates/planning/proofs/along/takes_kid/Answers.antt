use Rattle.planning.specs.Kids.{takes_plain, takes_unwanted, takes_single, takes_group}
use Rattle.planning.proofs.along.takes_kid.Goals as goal

pub returns-then-not-a : goal.returns-then-not-a
returns-then-not-a c = search takes_plain

pub returns-then-not-b : goal.returns-then-not-b
returns-then-not-b c = search takes_unwanted

pub returns-then-not-m : goal.returns-then-not-m
returns-then-not-m c = search takes_single

pub returns : goal.returns
returns c = search takes_group
