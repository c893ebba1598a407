use Rattle.std.proofs.Common.{◌≤◌, rules, arith}
use Rattle.calls.specs.Laws.Says.{says_zeroth, says_option, says_file}
use Rattle.calls.proofs.explain.Goals as goal

pub returns-then-edition-eq0 : goal.returns-then-edition-eq0
returns-then-edition-eq0 c = search (rules, says_zeroth)

pub returns-then-option-gt1 : goal.returns-then-option-gt1
returns-then-option-gt1 c = search (rules, says_option)

pub returns : goal.returns
returns c = let h : c.args.edition ≤ 2 = omega arith in search (rules, says_file)
