-- Order 8 on document 01's files: a season of four files, by the contract of `urzulempa_season`, and reports near 2^64 - 1.
use Rattle.std.specs.Prelude.{◌≡◌, refl, Bool, true, List, [], ◌∷◌, ◌++◌, ℕ, length, set, replicate, eqb}
use Rattle.std.proofs.Common.{ap, ◌∙◌, subst}
use Rattle.basis.specs.Guard.{guard}
use Rattle.records.specs.Shapes.{cut, shape_of}
use Rattle.records.specs.Read.{read_from, read_of}
use Rattle.graph.specs.Graphs.{graph_of}
use Rattle.texts.specs.Wrote.{over}
use Rattle.season.specs.Report.{join, fits_widths, files}
use Rattle.season.specs.Season.{share}
use Rattle.season.specs.Words.{deep_in, report_of, words_of, join_by, join_words, share_words}
use Rattle.seasons.specs.declared.tally.Counts.{Counts}
use Rattle.seasons.specs.Tally.{file_counts}
use Rattle.calls.specs.declared.Answer.{Answer}
use Rattle.calls.specs.Answers.{refusal_of}
use Rattle.seasons.specs.Season.{join_answer, own_of, Entered, AddsBy, Adds}
use Rattle.demands.specs.Cases.Table.{Case, Fits, p6, p7, p8, p9}
use Rattle.demands.specs.Cases.Right.{Right, right}

-- ---- rows: a case of document 01 added to a report

pub record Row : Type 0 where
  pub case : Case
  pub counts : Counts
  pub before : List ℕ
  pub answer : Answer
  pub after : List ℕ

abbrev counted : ℕ → ℕ → ℕ → ℕ → Counts
counted n e g m = record { nodes = n; edges = e; groups = g; missing = m }

-- done, 10, 11 and 12, nodes, edges, groups, missing nodes, lines, greatest depth, its first file, whether there is one
abbrev report : ℕ → ℕ → ℕ → ℕ → List ℕ → List ℕ
report done tens elevens twelves rest = done ∷ replicate 9 0 ++ (tens ∷ elevens ∷ twelves ∷ replicate 6 0) ++ rest

abbrev pub none : List ℕ
none = replicate 27 0

abbrev pub one : List ℕ
one = report 1 0 0 0 (4 ∷ 4 ∷ 1 ∷ 4 ∷ 3 ∷ 1 ∷ 0 ∷ 1 ∷ [])

abbrev pub two : List ℕ
two = report 1 1 0 0 (8 ∷ 8 ∷ 2 ∷ 8 ∷ 5 ∷ 1 ∷ 0 ∷ 1 ∷ [])

abbrev pub three : List ℕ
three = report 1 1 0 1 (8 ∷ 8 ∷ 2 ∷ 8 ∷ 5 ∷ 1 ∷ 0 ∷ 1 ∷ [])

abbrev pub four : List ℕ
four = report 1 1 1 1 (11 ∷ 11 ∷ 2 ∷ 8 ∷ 10 ∷ 2 ∷ 3 ∷ 1 ∷ [])

-- P7 is done, and named
abbrev pub one_file : Row
one_file = record { case = p7; counts = counted 4 4 1 4; before = none; answer = p7.answer; after = one }

-- P8 gets 10, adds what it wrote, and is no deeper
abbrev pub ten_adds : Row
ten_adds = record { case = p8; counts = counted 4 4 1 4; before = one; answer = p8.answer; after = two }

-- P6 gets 12, and adds its refusal alone
abbrev pub unasked : Row
unasked = record { case = p6; counts = counted 0 0 0 0; before = two; answer = p6.answer; after = three }

-- P9 gets 11 and is deeper: file 3
abbrev pub deeper_named : Row
deeper_named = record { case = p9; counts = counted 3 3 0 0; before = three; answer = p9.answer; after = four }

-- a refused file alone names no first file
abbrev pub refused : Row
refused = record { case = p6; counts = counted 0 0 0 0; before = none; answer = p6.answer; after = report 0 0 0 1 (replicate 8 0) }

-- 2^64 - 1 files done: one more is 14
abbrev pub full : Row
full =
    record {
      case = p7;
      counts = counted 4 4 1 4;
      before = set none 0 18446744073709551615;
      answer = refusal_of 14 0;
      after = set none 0 18446744073709551615;
    }

-- three lines behind 2^64 - 3
abbrev pub full_lines : Row
full_lines =
    record {
      case = p7;
      counts = counted 4 4 1 4;
      before = set one 23 18446744073709551613;
      answer = refusal_of 14 0;
      after = set one 23 18446744073709551613;
    }

-- each count fits and the number of files does not
abbrev pub full_files : Row
full_files =
    record {
      case = p6;
      counts = counted 0 0 0 0;
      before = set none 0 18446744073709551615;
      answer = refusal_of 14 0;
      after = set none 0 18446744073709551615;
    }

-- ---- what is said of a row

pub record Seasoned (c : Row) : Type 0 where
  -- all that the contract allows in a room of the case is the row's answer and report, and the case's text before the room's old bytes
  pub adds : (out left vs : List ℕ) (r : Answer) → Fits c.case.rooms (length out) → Adds 1 c.case.file c.case.option c.before vs out left r
      → (r ≡ c.answer) × (vs ≡ c.after) × (left ≡ over c.case.text out)

-- ---- what is computed

record Computed (c : Row) : Type 0 where
  long : eqb (length c.before) 27 ≡ true
  graph : file_counts c.case.file ≡ c.counts
  answers : join_by c.before (share_words (own_of c.case.answer c.counts)) (refusal_of 10 0) (refusal_of 14 0) c.case.answer ≡ c.answer
  reports : join_words c.before (share_words (own_of c.case.answer c.counts)) ≡ c.after

seasoned : (c : Row) → Right c.case → Computed c → Seasoned c
seasoned c R x =
    record {
      adds = λ out left vs r h A.
          let E : Entered 1 c.case.file c.case.option c.before vs out left r =
          subst (λ (t : Bool). AddsBy t 1 c.case.file c.case.option c.before vs out left r) x.long A.by in
          let o = R.says out left E.own h E.says in (
            E.enters.answer
                ∙ ap (λ (a : Answer). join_by c.before (share_words (own_of a (file_counts c.case.file))) (refusal_of 10 0) (refusal_of 14 0) a) o.0
                ∙ ap (λ (k : Counts). join_by c.before (share_words (own_of c.case.answer k)) (refusal_of 10 0) (refusal_of 14 0) c.case.answer)
                x.graph
                ∙ x.answers,
            E.enters.report
                ∙ ap (λ (a : Answer). join_words c.before (share_words (own_of a (file_counts c.case.file)))) o.0
                ∙ ap (λ (k : Counts). join_words c.before (share_words (own_of c.case.answer k))) x.graph
                ∙ x.reports,
            o.1,
          );
    }

row_one_file : Computed one_file
unfolding file_counts cut shape_of read_from read_of graph_of join_by guard words_of report_of deep_in join fits_widths files share
row_one_file = record { long = refl; graph = refl; answers = refl; reports = refl }

row_ten_adds : Computed ten_adds
unfolding file_counts cut shape_of read_from read_of graph_of join_by guard words_of report_of deep_in join fits_widths files share
row_ten_adds = record { long = refl; graph = refl; answers = refl; reports = refl }

row_unasked : Computed unasked
unfolding file_counts cut shape_of read_from read_of graph_of join_by guard words_of report_of deep_in join fits_widths files share
row_unasked = record { long = refl; graph = refl; answers = refl; reports = refl }

row_deeper_named : Computed deeper_named
unfolding file_counts cut shape_of read_from read_of graph_of join_by guard words_of report_of deep_in join fits_widths files share
row_deeper_named = record { long = refl; graph = refl; answers = refl; reports = refl }

row_refused : Computed refused
unfolding file_counts cut shape_of read_from read_of graph_of join_by guard words_of report_of deep_in join fits_widths files share
row_refused = record { long = refl; graph = refl; answers = refl; reports = refl }

row_full : Computed full
unfolding file_counts cut shape_of read_from read_of graph_of join_by guard words_of report_of deep_in join fits_widths files share
row_full = record { long = refl; graph = refl; answers = refl; reports = refl }

row_full_lines : Computed full_lines
unfolding file_counts cut shape_of read_from read_of graph_of join_by guard words_of report_of deep_in join fits_widths files share
row_full_lines = record { long = refl; graph = refl; answers = refl; reports = refl }

row_full_files : Computed full_files
unfolding file_counts cut shape_of read_from read_of graph_of join_by guard words_of report_of deep_in join fits_widths files share
row_full_files = record { long = refl; graph = refl; answers = refl; reports = refl }

-- P6 to P9 among document 01's cases
right_p6 : Right p6
right_p6 = right.1.1.1.1.1.1.1.1.0

right_p7 : Right p7
right_p7 = right.1.1.1.1.1.1.1.1.1.0

right_p8 : Right p8
right_p8 = right.1.1.1.1.1.1.1.1.1.1.0

right_p9 : Right p9
right_p9 = right.1.1.1.1.1.1.1.1.1.1.1.0

pub season_one : Seasoned one_file
season_one = seasoned one_file right_p7 row_one_file

pub season_two : Seasoned ten_adds
season_two = seasoned ten_adds right_p8 row_ten_adds

pub season_three : Seasoned unasked
season_three = seasoned unasked right_p6 row_unasked

pub season_four : Seasoned deeper_named
season_four = seasoned deeper_named right_p9 row_deeper_named

pub season_refused : Seasoned refused
season_refused = seasoned refused right_p6 row_refused

pub season_full : Seasoned full
season_full = seasoned full right_p7 row_full

pub season_full_lines : Seasoned full_lines
season_full_lines = seasoned full_lines right_p7 row_full_lines

pub season_full_files : Seasoned full_files
season_full_files = seasoned full_files right_p6 row_full_files

-- ---- two reports joined

-- the second's file 0 is file 4 behind four files
pub follows : join_words four (report 1 0 0 0 (1 ∷ 0 ∷ 0 ∷ 0 ∷ 1 ∷ 3 ∷ 0 ∷ 1 ∷ [])) ≡ report 2 1 1 1 (12 ∷ 11 ∷ 2 ∷ 8 ∷ 11 ∷ 3 ∷ 4 ∷ 1 ∷ [])
unfolding join_by guard words_of report_of deep_in join fits_widths files
follows = refl

-- the first of two that are as deep
pub stays : join_words one one ≡ report 2 0 0 0 (8 ∷ 8 ∷ 2 ∷ 8 ∷ 6 ∷ 1 ∷ 0 ∷ 1 ∷ [])
unfolding join_by guard words_of report_of deep_in join fits_widths files
stays = refl

-- a season cut behind its second file
pub cut_joined : join_words two (report 0 0 1 1 (3 ∷ 3 ∷ 0 ∷ 0 ∷ 5 ∷ 2 ∷ 1 ∷ 1 ∷ [])) ≡ four
unfolding join_by guard words_of report_of deep_in join fits_widths files
cut_joined = refl

-- a file number that would pass 64 bits where it ends up in the result, and not where it does not
pub far : join_answer one (set one 25 18446744073709551615) ≡ refusal_of 0 0
unfolding join_by guard words_of report_of deep_in join fits_widths files
far = refl

pub too_far : join_answer one (set (set one 24 2) 25 18446744073709551615) ≡ refusal_of 14 0
unfolding join_by guard words_of report_of deep_in join fits_widths files
too_far = refl

-- reports of other lengths
pub short : (join_answer (replicate 26 0) one ≡ refusal_of 10 0) × (join_answer one (replicate 28 0) ≡ refusal_of 10 0) × (join_words one (replicate 28 0) ≡ one)
unfolding join_by guard words_of report_of deep_in join fits_widths files
short = (refl, refl, refl)
