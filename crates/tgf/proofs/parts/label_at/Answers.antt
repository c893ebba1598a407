use Rattle.std.proofs.Common.{rules, ◌≡◌, sym, ◌∙◌, ◌<◌, length, arith}
use Rattle.std.specs.Prelude.{Some, None, slice_get}
use Rattle.std.proofs.lemmas.Option.{slice_get_within}
use Rattle.tgf.proofs.Bytes.{label_none, begin_low, begin_high, begin_more}
use Rattle.tgf.proofs.parts.label_at.Goals as goal

pub returns-in_err-c-clause-result_value : goal.returns-in_err-c-clause-result_value
returns-in_err-c-clause-result_value c =
    let s : slice_get c.args.text.now c.args.at ≡ None = sym c.byte_at.ensures ∙ c.in_err-c.was in
    let e : c.from_residual.result ≡ None = search rules in
    rw e (label_none c.args.text.now c.args.at s)

pub returns-then-c-lt32-clause-result_value : goal.returns-then-c-lt32-clause-result_value
returns-then-c-lt32-clause-result_value c =
    let s : slice_get c.args.text.now c.args.at ≡ Some c.in_ok-c.c = sym c.byte_at.ensures ∙ c.in_ok-c.was in
    begin_low c.args.text.now c.args.at _ s c.if-c-lt32.true

pub returns-then-c-gt126-clause-result_value : goal.returns-then-c-gt126-clause-result_value
returns-then-c-gt126-clause-result_value c =
    let s : slice_get c.args.text.now c.args.at ≡ Some c.in_ok-c.c = sym c.byte_at.ensures ∙ c.in_ok-c.was in
    begin_high c.args.text.now c.args.at _ s c.if-c-lt32.false c.if-c-gt126.true

pub label_in-requires : goal.label_in-requires
label_in-requires c =
    let s : slice_get c.args.text.now c.args.at ≡ Some c.in_ok-c.c = sym c.byte_at.ensures ∙ c.in_ok-c.was in
    let h : c.args.at < length c.args.text.now = slice_get_within _ _ _ s in
    omega arith

pub returns-clause-result_value : goal.returns-clause-result_value
returns-clause-result_value c =
    let s : slice_get c.args.text.now c.args.at ≡ Some c.in_ok-c.c = sym c.byte_at.ensures ∙ c.in_ok-c.was in
    begin_more c.args.text.now c.args.at _ s _ c.if-c-lt32.false c.if-c-gt126.false c.label_in.ensures.result_value
