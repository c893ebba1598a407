use Rattle.std.proofs.Common.{rules, tests, ◌≡◌, true, false}
use Rattle.std.proofs.lemmas.Iterator.{cases_from_all, YieldsList-from_slice}
use Rattle.records.specs.Text.{in_text, text_by}
use Rattle.records.proofs.text.all_text.Goals as goal

pub returns : goal.returns
returns c =
    text_by c.args.s.now c.all.result
    (cases_from_all _ _ _ (λ x. in_text x ≡ true) (λ x. in_text x ≡ false) c.all.ensures.ran (YieldsList-from_slice c.args.s.now cc)
    (λ x q k. search (rules, tests))
    (λ x q k. search (rules, tests)))
