use Rattle.std.proofs.Common.{◌≡◌}
use Rattle.records.specs.Pass.{left_pass}
use Rattle.arms.proofs.rest.Given as goal

abbrev pub invariant-loop-i : goal.invariant-loop-i
invariant-loop-i l = left_pass l.file l.i l.d l.m ≡ left_pass l.file 0 l.fn.c l.fn.m
