use Rattle.std.proofs.Common.{rules, ◌≡◌, sym, ◌∙◌, ◌+◌, ◌<◌, ◌≤◌, length, arith}
use Rattle.std.specs.Prelude.{Some, None, slice_get}
use Rattle.std.proofs.lemmas.Option.{slice_get_within, get_or_from_slice_get}
use Rattle.tgf.specs.Laws.Ways.{left_out, left_end, left_full}
use Rattle.tgf.proofs.Bytes.{past_end}
use Rattle.tgf.proofs.parts.label_in.Goals as goal

pub returns-in_err-z-clause-result_value : goal.returns-in_err-z-clause-result_value
returns-in_err-z-clause-result_value c =
    let s : slice_get c.args.text.now (c.args.at + 49) ≡ None = sym c.byte_at.ensures ∙ c.in_err-z.was in
    let h : length c.args.text.now ≤ c.args.at + 49 = past_end _ _ s in
    let e : c.from_residual.result ≡ None = search rules in
    rw e (left_out _ _ c.loop-n.n c.loop-n.invariant.1 (omega arith))

pub returns-then-z-ne10-clause-result_value : goal.returns-then-z-ne10-clause-result_value
returns-then-z-ne10-clause-result_value c =
    let s : slice_get c.args.text.now (c.args.at + 49) ≡ Some c.in_ok-z.z = sym c.byte_at.ensures ∙ c.in_ok-z.was in
    let h : c.args.at + 49 < length c.args.text.now = slice_get_within _ _ _ s in
    let y : c.loop-n.n ≡ 49 = omega arith in
    left_full _ _ 49 (rw y at c.loop-n.invariant.1) _ (omega arith) h (sym (get_or_from_slice_get c.args.text.now (c.args.at + 49) _ 0 s)) c.if-z-ne10.true

pub returns-clause-result_value : goal.returns-clause-result_value
returns-clause-result_value c =
    let s : slice_get c.args.text.now (c.args.at + 49) ≡ Some c.in_ok-z.z = sym c.byte_at.ensures ∙ c.in_ok-z.was in
    let h : c.args.at + 49 < length c.args.text.now = slice_get_within _ _ _ s in
    let y : c.loop-n.n ≡ 49 = omega arith in
    let w : c.args.at + 49 + 1 ≡ c.args.at + 50 = omega arith in
    rw w at (left_end _ _ 49 (rw y at c.loop-n.invariant.1) _ c.if-z-ne10.false h (sym (get_or_from_slice_get c.args.text.now (c.args.at + 49) _ 0 s)))

pub returns-clause-in_bounds : goal.returns-clause-in_bounds
returns-clause-in_bounds c =
    let s : slice_get c.args.text.now (c.args.at + 49) ≡ Some c.in_ok-z.z = sym c.byte_at.ensures ∙ c.in_ok-z.was in
    let h : c.args.at + 49 < length c.args.text.now = slice_get_within _ _ _ s in
    (omega arith, omega arith, omega arith)
