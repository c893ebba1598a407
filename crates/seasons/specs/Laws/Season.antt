-- A season of calls, for every list of files, editions, options and rooms, over the contracts of `urzulempa_season` and `urzulempa_join`
-- (document 02, order 8): "Done and all refusals add up to the files, each total is the sum over the files' own answers, and a season cut into
-- two reports joined gives the report of the whole."
use Rattle.std.specs.Prelude.{◌≡◌, refl, Bool, true, false, ◌&&◌, List, [], ◌∷◌, ◌++◌, map, ℕ, suc, ◌≤◌, ◌<◌, length, get_or, replicate, leb, ltb, eqb}
use Rattle.std.proofs.Common.{sym, ◌∙◌, subst, true≢false, arith, leb-true, ltb-true, ltb-false, eq-eqb}
use Rattle.std.proofs.Math.Path.{ap}
use Rattle.std.proofs.Math.Option.{Option, some}
use Rattle.basis.specs.Guard.{guard}
use Rattle.basis.specs.Members.{All, split, either}
use Rattle.records.specs.Tables.{Tables}
use Rattle.records.specs.Read.{Reading, good, bad, read_of}
use Rattle.store.specs.Graph.{Graph}
use Rattle.graph.specs.Graphs.{Outcome, drawn, refused, graph_of}
use Rattle.machine.specs.Units.{Result}
use Rattle.texts.specs.Wrote.{over}
use Rattle.explanation.specs.Explain.{refusal, is_edition, explain_edition, explain_tables}
use Rattle.explanation.specs.Contract.{Drawn}
use Rattle.explanation.specs.Laws.Contract.{file_demand, file_whole, file_less, file_answers}
use Rattle.explanation.specs.Laws.Numbers.{bad_low, refused_low}
use Rattle.season.specs.declared.Own.{Own}
use Rattle.season.specs.Report.{Report, Joining, whole, wide, sum, files, join, empty, fits_widths, joined_reports, or_kept}
use Rattle.season.specs.Season.{share, season_from, season, NoWide, Known}
use Rattle.season.specs.Words.{report_of, words_of, join_by, join_words, share_words}
use Rattle.season.specs.Laws.Reports.{Full, join_full, empty_full, share_full, cut, files_season, count_season}
use Rattle.season.specs.Laws.Files.{DeepestIs, season_deepest}
use Rattle.season.specs.Laws.Words.{words_back}
use Rattle.season.specs.Laws.Promises.{words_long, joined_yes, whole_fits, by_fits, join_words_lem, kept_full}
use Rattle.seasons.specs.Tally.{file_counts}
use Rattle.calls.specs.declared.Answer.{Answer}
use Rattle.calls.specs.Answers.{refusal_of}
use Rattle.calls.specs.Says.{Says, result_by}
use Rattle.calls.specs.Laws.Says.{says_one}
use Rattle.seasons.specs.Season.{join_answer, own_of, Entered, AddsBy, Adds, Enters}
use Rattle.seasons.specs.declared.tally.Counts.{Counts}

-- ---- two results that the contract allows are equal

enters_one : (ws : List ℕ) (a b : Answer) (c : Counts) (u v : List ℕ) (r q : Answer) → a ≡ b → Enters ws a c u r → Enters ws b c v q → (r ≡ q) × (u ≡ v)
enters_one ws a b c u v r q e S T = (
  S.answer ∙ ap (λ (x : Answer). join_by ws (share_words (own_of x c)) (refusal_of 10 0) (refusal_of 14 0) x) e ∙ sym T.answer,
  S.report ∙ ap (λ (x : Answer). join_words ws (share_words (own_of x c))) e ∙ sym T.report,
)

module _ (e : ℕ) (file : List ℕ) (opt : ℕ) (ws u v out a b : List ℕ) (r q : Answer) where
  entered_one : Entered e file opt ws u out a r → Entered e file opt ws v out b q → (r ≡ q) × (u ≡ v) × (a ≡ b)
  entered_one S T =
      let h = says_one e file opt out a b S.own T.own S.says T.says in
      let k = enters_one ws S.own T.own (file_counts file) u v r q h.0 S.enters T.enters in
      (k.0, k.1, h.1)

  pub adds_one : Adds e file opt ws u out a r → Adds e file opt ws v out b q → (r ≡ q) × (u ≡ v) × (a ≡ b)
  adds_one S T = by (eqb (length ws) 27) S.by T.by
    where
      by : (t : Bool) → AddsBy t e file opt ws u out a r → AddsBy t e file opt ws v out b q → (r ≡ q) × (u ≡ v) × (a ≡ b)
      by true s t = entered_one s t
      by false s t = (s.0 ∙ sym t.0, s.1 ∙ sym t.1, s.2 ∙ sym t.2)

-- ---- a file's own answer is 0, 1 to 9, 10, 11 or 12

by_reading : {X : Type 0} (y : Reading) → ((k p : ℕ) → y ≡ bad k p → X) → ((T : Tables) → y ≡ good T → X) → X
by_reading (bad k p) f g = f k p refl
by_reading (good T) f g = g T refl

by_outcome : {X : Type 0} (o : Outcome) → ((k p : ℕ) → o ≡ refused k p → X) → ((G : Graph) → o ≡ drawn G → X) → X
by_outcome (refused k p) f g = f k p refl
by_outcome (drawn G) f g = g G refl

asked_both : (b c : Bool) → b && c ≡ true → (b ≡ true) × (c ≡ true)
asked_both true c h = (refl, h)
asked_both false c h = absurd (true≢false (sym h))

number_of : {a b : Result} {c : Option Result} → c ≡ some a → c ≡ some b → b.number ≡ a.number
number_of x y = cc

module _ (e : ℕ) (file : List ℕ) (opt : ℕ) (out left : List ℕ) (r : Answer) (S : Says e file opt out left r) where
  drawn_low : (T : Tables) (G : Graph) → Drawn e file opt T G → r.number ≤ 12
  drawn_low T G x =
      let size : ℕ = (file_demand e file opt T G x).size in
      split (ltb (length out) size)
      (λ t.
      let q : r.number ≡ 10 = file_less e file opt T G x (length out) (result_by r S.text) S.is (ltb-true (length out) size t) in
      omega arith)
      (λ t. either (file_whole e file opt T G x (length out) (result_by r S.text) S.is (ltb-false (length out) size t))
      (λ w. let q : r.number ≡ 0 = w.0 in omega arith)
      (λ w. let q : r.number ≡ 11 = w.0 in omega arith))

  refused_by : (k p : ℕ) → ((n room : ℕ) → explain_edition e n file opt room ≡ some (refusal k p)) → r.number ≡ k
  refused_by k p h = number_of (h S.is.turns (length out)) S.is.so

  pub says_low : r.number ≤ 12
  says_low =
      split (is_edition e && leb opt 1)
      (λ o. let b = asked_both (is_edition e) (leb opt 1) o in
      by_reading (read_of file)
      (λ k p y. let l : k ≤ 6 = bad_low file k p y in
      let q : r.number ≡ k = refused_by k p (λ n room. rw (o, explain_edition, y)) in omega arith)
      (λ T t. by_outcome (graph_of T)
      (λ k p y. let l : k ≤ 9 = refused_low T k p y in
      let q : r.number ≡ k = refused_by k p (λ n room. rw (o, explain_edition, t, y, explain_tables)) in omega arith)
      (λ G d. drawn_low T G (record { edition = b.0; option = leb-true opt 1 b.1; tables = t; graph = d }))))
      (λ o. let q : r.number ≡ 12 = refused_by 12 0 (λ n room. rw (o, explain_edition)) in omega arith)

-- ---- what the calls of a season are lent, and the files' own answers

-- one call's, besides the report
pub record Input : Type 0 where
  pub file : List ℕ
  pub edition : ℕ
  pub option : ℕ
  pub room : List ℕ

-- calls behind one another, from the report ws: they answer rs, and vs is the report that they leave
pub data Calls : List ℕ → List Input → List Answer → List ℕ → Type 0 where
  ended : (ws : List ℕ) → Calls ws [] [] ws
  called : (ws us vs left : List ℕ) (x : Input) (xs : List Input) (r : Answer) (rs : List Answer)
      → Adds x.edition x.file x.option ws us x.room left r → Calls us xs rs vs → Calls ws (x ∷ xs) (r ∷ rs) vs

-- o is the file's own answer with the counts of its graph, by the definitions that the other calls answer by
pub record OwnIs (x : Input) (o : Own) : Type 0 where
  pub left : List ℕ
  pub answer : Answer
  pub says : Says x.edition x.file x.option x.room left answer
  pub is : o ≡ own_of answer (file_counts x.file)

abbrev pub Owns : List Input → List Own → Type 0
Owns [] [] = Unit {0}
Owns [] (o ∷ os) = ⊥
Owns (x ∷ xs) [] = ⊥
Owns (x ∷ xs) (o ∷ os) = OwnIs x o × Owns xs os

-- the report of no file: 27 zeros
abbrev pub no_file : List ℕ
no_file = replicate 27 0

-- no 14 was answered
abbrev pub Narrow : Answer → Type 0
Narrow r = r.number ≡ 14 → ⊥

-- every file has its own answer, and one
own_is : (x : Input) → (o : Own) × OwnIs x o
own_is x =
    let y = file_answers x.edition x.file x.option (length x.room) in
    let z : Result = y.0 in
    let a : Answer = record { number = z.number; place = z.place; bytes = z.bytes; units = z.units; depth = z.depth } in (
      own_of a (file_counts x.file),
      record {
        left = over z.text x.room;
        answer = a;
        says = record { text = z.text; is = y.1; room = refl };
        is = refl;
      },
    )

pub owns_all : (xs : List Input) → (os : List Own) × Owns xs os
owns_all [] = ([], tt)
owns_all (x ∷ xs) = let a = own_is x in let b = owns_all xs in (a.0 ∷ b.0, (a.1, b.1))

own_one : (x : Input) (o p : Own) → OwnIs x o → OwnIs x p → o ≡ p
own_one x o p S T =
    S.is
    ∙ ap (λ (a : Answer). own_of a (file_counts x.file))
    (says_one x.edition x.file x.option x.room S.left T.left S.answer T.answer S.says T.says).0
    ∙ sym T.is

pub owns_one : (xs : List Input) (os ps : List Own) → Owns xs os → Owns xs ps → os ≡ ps
owns_one [] [] [] S T = refl
owns_one [] [] (p ∷ ps) S T = absurd T
owns_one [] (o ∷ os) ps S T = absurd S
owns_one (x ∷ xs) [] ps S T = absurd S
owns_one (x ∷ xs) (o ∷ os) [] S T = absurd T
owns_one (x ∷ xs) (o ∷ os) (p ∷ ps) S T = rw (own_one x o p S.0 T.0, owns_one xs os ps S.1 T.1)

owns_append : (xs ys : List Input) (os ps : List Own) → Owns xs os → Owns ys ps → Owns (xs ++ ys) (os ++ ps)
owns_append [] ys [] ps S T = T
owns_append [] ys (o ∷ os) ps S T = absurd S
owns_append (x ∷ xs) ys [] ps S T = absurd S
owns_append (x ∷ xs) ys (o ∷ os) ps S T = (S.0, owns_append xs ys os ps S.1 T)

owns_long : (xs : List Input) (os : List Own) → Owns xs os → length os ≡ length xs
owns_long [] [] S = refl
owns_long [] (o ∷ os) S = absurd S
owns_long (x ∷ xs) [] S = absurd S
owns_long (x ∷ xs) (o ∷ os) S = ap (λ (n : ℕ). suc n) (owns_long xs os S.1)

own_known : (x : Input) (o : Own) → OwnIs x o → Known o
own_known x o S =
    let q : o.number ≡ S.answer.number = ap (λ (a : Own). a.number) S.is in
    let l : S.answer.number ≤ 12 = says_low x.edition x.file x.option x.room S.left S.answer S.says in
    omega arith

pub owns_known : (xs : List Input) (os : List Own) → Owns xs os → All Known os
owns_known [] [] S = tt
owns_known [] (o ∷ os) S = absurd S
owns_known (x ∷ xs) [] S = absurd S
owns_known (x ∷ xs) (o ∷ os) S = (own_known x o S.0, owns_known xs os S.1)

-- ---- one call on the words of a full report

module _ (x : Input) (o : Own) (S : OwnIs x o) (rep : Report) (f : Full rep) (us left : List ℕ) (r : Answer)
    (A : Adds x.edition x.file x.option (words_of rep) us x.room left r) where
  entered : Entered x.edition x.file x.option (words_of rep) us x.room left r
  entered =
      subst (λ (t : Bool). AddsBy t x.edition x.file x.option (words_of rep) us x.room left r)
      (eq-eqb (length (words_of rep)) 27 (words_long rep f)) A.by

  own_same : entered.own ≡ S.answer
  own_same = (says_one x.edition x.file x.option x.room left S.left entered.own S.answer entered.says S.says).0

  share_same : own_of entered.own (file_counts x.file) ≡ o
  share_same = ap (λ (a : Answer). own_of a (file_counts x.file)) own_same ∙ sym S.is

  call_words : us ≡ words_of (or_kept rep (joined_reports rep (share o)))
  call_words =
      entered.enters.report
      ∙ ap (λ (a : Own). join_words (words_of rep) (share_words a)) share_same
      ∙ join_words_lem rep (share o) f (share_full o)

  -- the answer is the file's own, or "14 if a count would pass its width"
  call_answer : r ≡ guard (fits_widths (join rep (share o))) (refusal_of 14 0) entered.own
  call_answer =
      entered.enters.answer
      ∙ ap (λ (a : Own). join_by (words_of rep) (share_words a) (refusal_of 10 0) (refusal_of 14 0) entered.own) share_same
      ∙ by_fits rep (share o) f (share_full o) (refusal_of 10 0) (refusal_of 14 0) entered.own

  -- 14 exactly where it would, "report unchanged"
  pub call_wide : fits_widths (join rep (share o)) ≡ false → (r ≡ refusal_of 14 0) × (us ≡ words_of rep)
  unfolding guard joined_reports
  call_wide t =
      let w : joined_reports rep (share o) ≡ wide = rw (t, joined_reports) in
      (call_answer ∙ rw t, call_words ∙ ap (λ (j : Joining). words_of (or_kept rep j)) w)

  pub call_whole : fits_widths (join rep (share o)) ≡ true → (r ≡ S.answer) × (us ≡ words_of (join rep (share o)))
  unfolding guard
  call_whole t = (call_answer ∙ rw t own_same, call_words ∙ ap (λ (j : Joining). words_of (or_kept rep j)) (joined_yes rep (share o) t))

  call_narrow : Narrow r → fits_widths (join rep (share o)) ≡ true
  call_narrow n = split (fits_widths (join rep (share o))) (λ t. t) (λ t. absurd (n (ap (λ (a : Answer). a.number) (call_wide t).0)))

  call_joined : Narrow r → us ≡ words_of (join rep (share o))
  call_joined n = (call_whole (call_narrow n)).1

-- ---- all calls

calls_from : (xs : List Input) (os : List Own) → Owns xs os → (rep : Report) → Full rep → (ws vs : List ℕ) (rs : List Answer) → ws ≡ words_of rep
    → Calls ws xs rs vs
    → vs ≡ words_of (season_from rep os)
unfolding season_from
calls_from [] [] S rep f ws vs rs q (ended w) = q
calls_from [] (o ∷ os) S rep f ws vs rs q c = absurd S
calls_from (x ∷ xs) [] S rep f ws vs rs q c = absurd S
calls_from (x ∷ xs) (o ∷ os) S rep f ws vs rs q (called w us v left y ys r ts A c) =
    let B : Adds x.edition x.file x.option (words_of rep) us x.room left r = rw q at A in
    calls_from xs os S.1 (or_kept rep (joined_reports rep (share o))) (kept_full rep (share o) f (share_full o)) us vs ts
    (call_words x o S.0 rep f us left r B) c

calls_narrow : (xs : List Input) (os : List Own) → Owns xs os → (rep : Report) → Full rep → (ws vs : List ℕ) (rs : List Answer) → ws ≡ words_of rep
    → Calls ws xs rs vs
    → All Narrow rs → NoWide rep os
calls_narrow [] [] S rep f ws vs rs q c n = tt
calls_narrow [] (o ∷ os) S rep f ws vs rs q c n = absurd S
calls_narrow (x ∷ xs) [] S rep f ws vs rs q c n = absurd S
calls_narrow (x ∷ xs) (o ∷ os) S rep f ws vs rs q (called w us v left y ys r ts A c) n =
    let B : Adds x.edition x.file x.option (words_of rep) us x.room left r = rw q at A in (
      call_narrow x o S.0 rep f us left r B n.0,
      calls_narrow xs os S.1 (join rep (share o)) (join_full rep (share o) f (share_full o)) us vs ts
          (call_joined x o S.0 rep f us left r B n.0) c n.1,
    )

season_full : (rep : Report) (os : List Own) → Full rep → Full (season_from rep os)
unfolding season_from
season_full rep [] f = f
season_full rep (o ∷ os) f = season_full (or_kept rep (joined_reports rep (share o))) os (kept_full rep (share o) f (share_full o))

no_file_lem : no_file ≡ words_of empty
unfolding words_of empty
no_file_lem = refl

module _ (xs : List Input) (rs : List Answer) (vs : List ℕ) (c : Calls no_file xs rs vs) (os : List Own) (S : Owns xs os) where
  -- the report that a season of calls leaves is that of the files' own answers, in the order given; a file that gets 14 is left out
  pub season_words : vs ≡ words_of (season os)
  unfolding season
  season_words = calls_from xs os S empty empty_full no_file vs rs no_file_lem c

  pub season_reads : report_of vs ≡ season os
  unfolding season
  season_reads = ap report_of season_words ∙ words_back (season os) (season_full empty os empty_full)

  module _ (n : All Narrow rs) where
    pub season_narrow : NoWide empty os
    season_narrow = calls_narrow xs os S empty empty_full no_file vs rs no_file_lem c n

    -- "Done and all refusals add up to the files"
    pub season_files : files (report_of vs) ≡ length xs
    season_files = ap files season_reads ∙ files_season os season_narrow (owns_known xs os S) ∙ owns_long xs os S

    -- "each total is the sum over the files' own answers"
    pub season_totals : (k : ℕ) → k < 24 → get_or (report_of vs).counts k 0 ≡ sum (map (λ o. get_or (share o).counts k 0) os)
    season_totals k l = ap (λ (t : Report). get_or t.counts k 0) season_reads ∙ count_season k os season_narrow l

    -- "the greatest depth and the first file that had it": depth 0 is a depth, and files count from 0
    pub season_deep : DeepestIs os (report_of vs).deepest
    season_deep = rw season_reads (season_deepest os season_narrow (owns_known xs os S))

-- "a season cut into two reports joined gives the report of the whole .. the joining rule is for seasons without 14"
module _ (xs ys : List Input) (rs ss ts : List Answer) (us vs ws : List ℕ) (a : Calls no_file xs rs us) (b : Calls no_file ys ss vs)
    (c : Calls no_file (xs ++ ys) ts ws)
    (m : All Narrow ss) (n : All Narrow ts) where
  pub season_cut : (join_answer us vs ≡ refusal_of 0 0) × (join_words us vs ≡ ws)
  unfolding season guard
  season_cut =
      let O = owns_all xs in
      let P = owns_all ys in
      let A : Owns (xs ++ ys) (O.0 ++ P.0) = owns_append xs ys O.0 P.0 O.1 P.1 in
      let u : us ≡ words_of (season O.0) = season_words xs rs us a O.0 O.1 in
      let v : vs ≡ words_of (season P.0) = season_words ys ss vs b P.0 P.1 in
      let w : ws ≡ words_of (season (O.0 ++ P.0)) = season_words (xs ++ ys) ts ws c (O.0 ++ P.0) A in
      let h : joined_reports (season O.0) (season P.0) ≡ whole (season (O.0 ++ P.0)) =
      cut O.0 P.0 (season_narrow (xs ++ ys) ts ws c (O.0 ++ P.0) A n) (season_narrow ys ss vs b P.0 P.1 m) in
      let f : Full (season O.0) = season_full empty O.0 empty_full in
      let g : Full (season P.0) = season_full empty P.0 empty_full in (
        ap (λ (k : ℕ). refusal_of k 0)
            (rw (u, v) (by_fits (season O.0) (season P.0) f g 10 14 0 ∙ rw (whole_fits (season O.0) (season P.0) (season (O.0 ++ P.0)) h))),
        rw (u, v, w) (join_words_lem (season O.0) (season P.0) f g ∙ ap (λ (j : Joining). words_of (or_kept (season O.0) j)) h),
      )
