use Rattle.std.proofs.Common.{rules, ◌≡◌, sym, ◌∙◌, ◌+◌, ◌-◌, ◌<◌, length, arith}
use Rattle.std.specs.Prelude.{Some, slice_get}
use Rattle.std.proofs.lemmas.Option.{slice_get_within}
use Rattle.tgf.proofs.Bytes.{room, narrow, number_start, number_ends, number_space, number_last, number_low, number_high, number_next}
use Rattle.tgf.proofs.parts.number_on.Goals as goal

pub loop-i-init : goal.loop-i-init
loop-i-init c =
    let z : c.args.k - 0 ≡ c.args.k = omega arith in
    (omega arith, rw z c.requires.n_bound, number_start _ _ _ _)

pub loop-i-preserved : goal.loop-i-preserved
loop-i-preserved c =
    let s : slice_get c.args.text.now (c.args.at + c.loop-i.i) ≡ Some c.in_ok-c.c = sym c.byte_at.ensures ∙ c.in_ok-c.was in
    let h : c.args.at + c.loop-i.i < length c.args.text.now = slice_get_within _ _ _ s in (
      omega arith,
      room c.args.k c.loop-i.i c.loop-i.v _ c.requires.k_bound c.loop-i-test.true c.loop-i.invariant.1 (omega arith),
      number_next _ _ _ _ _ _ c.loop-i.invariant.2 _ s c.loop-i-test.true c.if-c-eq32.false _ c.if-c-lt48.false c.if-c-gt57.false c.from-w.ensures,
    )

pub overflow_mul-v : goal.overflow_mul-v
overflow_mul-v c = let b = narrow (c.args.k - c.loop-i.i) c.loop-i.v (omega arith) c.loop-i.invariant.1 in search rules

pub overflow_add-v : goal.overflow_add-v
overflow_add-v c = let b = narrow (c.args.k - c.loop-i.i) c.loop-i.v (omega arith) c.loop-i.invariant.1 in search rules

pub returns-in_err-c-clause-result_value : goal.returns-in_err-c-clause-result_value
returns-in_err-c-clause-result_value c =
    number_ends _ _ _ _ _ _ c.loop-i.invariant.2 _ (search rules) (sym c.byte_at.ensures ∙ c.in_err-c.was)

pub returns-then-c-eq32-clause-result_value : goal.returns-then-c-eq32-clause-result_value
returns-then-c-eq32-clause-result_value c =
    number_space _ _ _ _ _ _ c.loop-i.invariant.2 _ (sym c.byte_at.ensures ∙ c.in_ok-c.was) c.if-c-eq32.true

pub returns-then-c-eq32-clause-in_bounds : goal.returns-then-c-eq32-clause-in_bounds
returns-then-c-eq32-clause-in_bounds c =
    let s : slice_get c.args.text.now (c.args.at + c.loop-i.i) ≡ Some c.in_ok-c.c = sym c.byte_at.ensures ∙ c.in_ok-c.was in
    let h : c.args.at + c.loop-i.i < length c.args.text.now = slice_get_within _ _ _ s in
    (omega arith, omega arith, narrow (c.args.k - c.loop-i.i) c.loop-i.v (omega arith) c.loop-i.invariant.1)

pub returns-then-c-lt48-clause-result_value : goal.returns-then-c-lt48-clause-result_value
returns-then-c-lt48-clause-result_value c =
    number_low _ _ _ _ _ _ c.loop-i.invariant.2 _ (sym c.byte_at.ensures ∙ c.in_ok-c.was) c.loop-i-test.true c.if-c-eq32.false c.if-c-lt48.true

pub returns-then-c-gt57-clause-result_value : goal.returns-then-c-gt57-clause-result_value
returns-then-c-gt57-clause-result_value c =
    number_high _ _ _ _ _ _ c.loop-i.invariant.2 _ (sym c.byte_at.ensures ∙ c.in_ok-c.was) c.loop-i-test.true c.if-c-eq32.false c.if-c-lt48.false
    c.if-c-gt57.true

pub returns-in_err-z-clause-result_value : goal.returns-in_err-z-clause-result_value
returns-in_err-z-clause-result_value c =
    let y : c.loop-i.i ≡ c.args.k = omega arith in
    number_ends _ _ _ _ c.args.k c.loop-i.v (rw y at c.loop-i.invariant.2) _ (search rules) (sym c.byte_at-2.ensures ∙ c.in_err-z.was)

pub returns-then-z-ne32-clause-result_value : goal.returns-then-z-ne32-clause-result_value
returns-then-z-ne32-clause-result_value c =
    let y : c.loop-i.i ≡ c.args.k = omega arith in
    number_last _ _ _ _ c.args.k c.loop-i.v (rw y at c.loop-i.invariant.2) _ (sym c.byte_at-2.ensures ∙ c.in_ok-z.was) (omega arith) c.if-z-ne32.true

pub returns-clause-result_value : goal.returns-clause-result_value
returns-clause-result_value c =
    let y : c.loop-i.i ≡ c.args.k = omega arith in
    number_space _ _ _ _ c.args.k c.loop-i.v (rw y at c.loop-i.invariant.2) _ (sym c.byte_at-2.ensures ∙ c.in_ok-z.was) c.if-z-ne32.false

pub returns-clause-in_bounds : goal.returns-clause-in_bounds
returns-clause-in_bounds c =
    let s : slice_get c.args.text.now (c.args.at + c.args.k) ≡ Some c.in_ok-z.z = sym c.byte_at-2.ensures ∙ c.in_ok-z.was in
    let h : c.args.at + c.args.k < length c.args.text.now = slice_get_within _ _ _ s in
    (omega arith, omega arith, narrow (c.args.k - c.loop-i.i) c.loop-i.v (omega arith) c.loop-i.invariant.1)
