use Rattle.std.proofs.Common.{rules, ◌≡◌, sym, ◌∙◌, ◌<◌, length, arith}
use Rattle.std.specs.Prelude.{Some, slice_get}
use Rattle.std.proofs.lemmas.Option.{slice_get_within}
use Rattle.tgf.proofs.Bytes.{first_high, first_more}
use Rattle.tgf.proofs.parts.number_at.Goals as goal

pub returns-then-c-gt57-clause-result_value : goal.returns-then-c-gt57-clause-result_value
returns-then-c-gt57-clause-result_value c =
    let s : slice_get c.args.text.now c.args.at ≡ Some c.in_ok-c.c = sym c.byte_at.ensures ∙ c.in_ok-c.was in
    search (rules, first_high)

pub overflow_add-at : goal.overflow_add-at
overflow_add-at c =
    let s : slice_get c.args.text.now c.args.at ≡ Some c.in_ok-c.c = sym c.byte_at.ensures ∙ c.in_ok-c.was in
    let h : c.args.at < length c.args.text.now = slice_get_within _ _ _ s in
    search rules

pub number_on-requires-clause-at_bound : goal.number_on-requires-clause-at_bound
number_on-requires-clause-at_bound c =
    let s : slice_get c.args.text.now c.args.at ≡ Some c.in_ok-c.c = sym c.byte_at.ensures ∙ c.in_ok-c.was in
    let h : c.args.at < length c.args.text.now = slice_get_within _ _ _ s in
    omega arith

pub overflow_add-at-2 : goal.overflow_add-at-2
overflow_add-at-2 c =
    let s : slice_get c.args.text.now c.args.at ≡ Some c.in_ok-c.c = sym c.byte_at.ensures ∙ c.in_ok-c.was in
    let h : c.args.at < length c.args.text.now = slice_get_within _ _ _ s in
    search rules

pub number_on-requires-2-clause-at_bound : goal.number_on-requires-2-clause-at_bound
number_on-requires-2-clause-at_bound c =
    let s : slice_get c.args.text.now c.args.at ≡ Some c.in_ok-c.c = sym c.byte_at.ensures ∙ c.in_ok-c.was in
    let h : c.args.at < length c.args.text.now = slice_get_within _ _ _ s in
    omega arith

pub returns-clause-result_value : goal.returns-clause-result_value
returns-clause-result_value c =
    let s : slice_get c.args.text.now c.args.at ≡ Some c.in_ok-c.c = sym c.byte_at.ensures ∙ c.in_ok-c.was in
    search (rules, first_more)
