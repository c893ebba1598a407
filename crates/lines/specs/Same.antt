-- The lines made from the packed plan are the lines of `fmt_graph`, for the runs and packages that the plan knows.
use Rattle.std.specs.Prelude.{◌≡◌, Bool, true, false, cond, length, eqb}
use Rattle.std.proofs.Math.Path.{refl, ap}
use Rattle.std.proofs.Common.{◌∙◌, arith}
use mathlib.Core.List.{List, [], ◌∷◌, ◌++◌, append_assoc}
use Prim.Native.Nat.{ℕ, zero, suc, ◌<◌}
use borrow.Author.Tests.{ne_eqb}
use Rattle.basis.specs.Lists.{is_nil, upto}
use Rattle.basis.specs.Members.{In, in_filter}
use Rattle.basis.specs.Quote.{utf8}
use Rattle.records.specs.Tables.{Tables}
use Rattle.records.specs.Views.{name_text, set_name, set_text, requirement_text, reason_text}
use Rattle.store.specs.Graph.{Graph}
use Rattle.labels.specs.Runs.{Run}
use Rattle.machine.specs.Machine.{entry, requirement, candidate}
use Rattle.texts.specs.Indent.{indent, at_top}
use Rattle.plan.specs.Plan.{Shown, shown_of, lead_shown, run_installable, no_candidates}
use Rattle.plan.specs.Display.{solvable_of, members_of, package_text}
use Rattle.plan.specs.Fields.{solvable_in, tag_in, reason_in, sets_in, kind_in, kind_by}
use Rattle.plan.specs.Planned.{RunIs, Planned}
use Rattle.plan.specs.Mates.{upto_in, members_alike}
use Rattle.plan.specs.Texts.{package_in}
use Rattle.plan.specs.Laws.Texts.{package_agrees}
use Rattle.lines.specs.Lines.{top_of, set_lines, package_lines, lines_of}
use Rattle.lines.specs.Said.{run_lead, run_tail, run_said, package_tail, package_said, set_said, sets_said, package_all, lines_in}

-- ---- a requirement's line

words_same : (top no yes : Bool) (a q : List ℕ)
    → a ++ run_lead top (cond no 0 (cond yes 1 2)) ++ q ++ run_tail top (cond no 0 (cond yes 1 2))
    ≡ a ++ cond no (cond top (utf8 "No candidates were found for " ++ q ++ utf8 ".") (q ++ utf8 ", for which no candidates were found."))
    (cond yes
    (q ++ cond top (utf8 " can be installed with any of the following options:") (utf8 ", which can be installed with any of the following options:"))
    (q ++ cond top (utf8 " cannot be installed because there are no viable options:")
    (utf8 ", which cannot be installed because there are no viable options:"))) ++ utf8 "\n"
unfolding run_lead run_tail
words_same true true y a q = simp append_assoc
words_same false true y a q = simp append_assoc
words_same true false true a q = simp append_assoc
words_same false false true a q = simp append_assoc
words_same true false false a q = simp append_assoc
words_same false false false a q = simp append_assoc

set_words : (a n v : List ℕ) → a ++ n ++ utf8 " " ++ v ++ utf8 ", which conflicts with any installable versions previously reported\n"
    ≡ a ++ (n ++ utf8 " " ++ v ++ utf8 ", which conflicts with any installable versions previously reported") ++ utf8 "\n"
set_words a n v = simp append_assoc

reason_words : (a x r : List ℕ) → a ++ x ++ (utf8 " is excluded because " ++ r ++ utf8 "\n") ≡ a ++ x ++ utf8 " is excluded because " ++ r ++ utf8 "\n"
reason_words a x r = simp append_assoc

module _ (T : Tables) (G : Graph) (p k : List ℕ) where
  abbrev S : Shown
  S = shown_of T G

  pub run_same : (opt r : ℕ) (q : Run) (ms : List Bool) (b : List ℕ) → RunIs S p k r q
      → lines_in T p k (top_of opt) (entry (requirement r) ms b) ≡ lines_of S opt (entry (requirement q) ms b)
  unfolding lines_in run_said shown_of
  run_same opt r q ms b i =
      rw (i.requirement, i.wording)
      (ap (λ (l : List ℕ). l ∷ []) (words_same (at_top ms) (no_candidates S q) (run_installable S q) (indent (top_of opt) ms) (requirement_text T q.req)))

  -- ---- a package's text

  module _ (z : Planned S p k) where
    member_below : (n : ℕ) → n < length G.nodes → (x : ℕ) → In x (members_of S n) → x < length G.nodes
    member_below n h x i =
        omega (
          arith,
          (upto_in (length G.nodes) 0 x (in_filter (λ m. eqb (lead_shown S m) (lead_shown S n)) x (upto (length G.nodes) 0)
              (rw (members_alike T G n h) at i)).1).1,
        )

    solvable_same : (x : ℕ) → x < length G.nodes → solvable_in p x ≡ solvable_of S x
    unfolding shown_of
    solvable_same x h = (z.nodes x h).solvable

    pub package_same : (n : ℕ) → n < length G.nodes → package_in T p n ≡ package_text S n
    unfolding shown_of
    package_same n h = package_agrees T S p n refl (z.nodes n h).members (solvable_same n h) (λ x i. solvable_same x (member_below n h x i))

    -- ---- its lines

    sets_same : (opt : ℕ) (ms : List Bool) (vs : List ℕ) → sets_said T (top_of opt) ms vs ≡ set_lines S opt ms vs
    unfolding sets_said set_said shown_of
    sets_same opt ms [] = refl
    sets_same opt ms (v ∷ vs) =
        rw (sets_same opt ms vs) (ap (λ (l : List ℕ). l ∷ set_lines S opt ms vs)
        (set_words (indent (top_of opt) (is_nil vs ∷ ms)) (name_text T (set_name T v)) (set_text T v)))

    kind_same : (opt : ℕ) (ms : List Bool) (n t r : ℕ) (vs : List ℕ) (x : List ℕ) → x ≡ package_text S n
        → (indent (top_of opt) ms ++ x ++ package_tail T t r) ∷ cond (eqb t 3) (sets_said T (top_of opt) ms vs) [] ≡ package_lines S opt ms n (kind_by t r vs)
    unfolding package_tail shown_of
    kind_same opt ms n zero r vs x e = rw e (ap (λ (l : List ℕ). l ∷ []) (reason_words (indent (top_of opt) ms) (package_text S n) (reason_text T r)))
    kind_same opt ms n (suc zero) r vs x e = rw e
    kind_same opt ms n (suc (suc zero)) r vs x e = rw e
    kind_same opt ms n (suc (suc (suc zero))) r vs x e = rw (e, sets_same opt ms vs)
    kind_same opt ms n (suc (suc (suc (suc t)))) r vs x e =
        let u : ℕ = suc (suc (suc (suc t))) in
        rw (e, ne_eqb u 0 (λ q. omega arith), ne_eqb u 1 (λ q. omega arith), ne_eqb u 2 (λ q. omega arith), ne_eqb u 3 (λ q. omega arith))

    pub kid_same : (opt n : ℕ) (ms : List Bool) (b : List ℕ) → n < length G.nodes
        → lines_in T p k (top_of opt) (entry (candidate n) ms b) ≡ lines_of S opt (entry (candidate n) ms b)
    unfolding lines_in package_all package_said kind_in shown_of
    kid_same opt n ms b h =
        kind_same opt ms n (tag_in p n) (reason_in p n) (sets_in p k n) (package_in T p n) (package_same n h) ∙ ap (package_lines S opt ms n) (z.nodes n h).kind
