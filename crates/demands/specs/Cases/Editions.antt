-- Order 11 on document 01's files and one more: both editions by the contract of `urzulempa_explain_edition`, and programs that it shuts out.
use Rattle.std.specs.Prelude.{◌≡◌, Bool, true, false, not, List, [], ◌∷◌, ℕ, ◌≤◌, length, take, replicate, get_or, eqb}
use Rattle.std.proofs.Math.Path.{refl}
use Rattle.std.proofs.Common.{sym, ap, ◌∙◌, arith}
use Rattle.std.proofs.Math.Option.{Option, some}
use Rattle.basis.specs.Members.{All, all_map}
use Rattle.records.specs.Shapes.{cut, shape_of}
use Rattle.records.specs.Read.{read_from, read_of}
use Rattle.graph.specs.Graphs.{graph_of}
use Rattle.machine.specs.Units.{Result}
use Rattle.texts.specs.Wrote.{over}
use Rattle.texts.specs.Indent.{indent}
use Rattle.plan.specs.Plan.{shown_of}
use Rattle.explanation.specs.Explain.{explain_edition}
use Rattle.explanation.specs.Openings.{how_many, openings_of, once_of}
use Rattle.calls.specs.declared.Answer.{Answer}
use Rattle.calls.specs.Answers.{refusal_of}
use Rattle.calls.specs.Says.{Says, result_by}
use Rattle.calls.specs.Laws.Says.{says_one}
use Rattle.demands.specs.Cases.Files.{bad_length, replay, deck_panel, merged_pair, desk, shared}
use Rattle.demands.specs.Cases.Texts.{printed, replay_lines, deck_lines, pair_lines, desk_lines, shared_lines}
use Rattle.demands.specs.Cases.Table.{Rooms, at_least, shortest, Fits}
use Rattle.demands.specs.Cases.Room.{more_room}
use Rattle.demands.specs.Cases.Right.{uncut_not}

-- ---- rows

pub record Row : Type 0 where
  pub edition : ℕ
  pub file : List ℕ
  pub option : ℕ
  -- the least room that the row speaks of
  pub room : ℕ
  pub answer : Answer
  pub text : List ℕ
  -- "all openings in the whole text together", and g + u
  pub opened : ℕ
  pub once : ℕ

abbrev answer : ℕ → ℕ → ℕ → ℕ → Answer
answer n b u d = record { number = n; place = 0; bytes = b; units = u; depth = d }

-- a file without a repeat reads as in edition 1: P7
abbrev pub second_p7 : Row
second_p7 = record { edition = 2; file = replay; option = 0; room = 155; answer = answer 0 155 3 1; text = printed replay_lines; opened = 1; once = 1 }

-- P9's text, and done: the second deck is skipped
abbrev pub second_p9 : Row
second_p9 = record { edition = 2; file = deck_panel; option = 0; room = 296; answer = answer 0 296 5 2; text = printed deck_lines; opened = 2; once = 2 }

-- P10 ends two lines earlier: x is not opened again below the pair
abbrev pub second_p10 : Row
second_p10 =
    record { edition = 2; file = merged_pair; option = 0; room = 289; answer = answer 0 289 5 2; text = printed (take 5 pair_lines); opened = 2; once = 2 }

-- three openings on two branches, of which none has more than two
abbrev pub second_desk : Row
second_desk = record { edition = 2; file = desk; option = 0; room = 454; answer = answer 0 454 8 2; text = printed desk_lines; opened = 3; once = 3 }

-- d opens nothing: it is shown twice in edition 1, and reported when first shown in edition 2
abbrev pub first_shared : Row
first_shared = record { edition = 1; file = shared; option = 0; room = 342; answer = answer 0 342 8 1; text = printed shared_lines; opened = 2; once = 3 }

abbrev pub second_shared : Row
second_shared =
    record { edition = 2; file = shared; option = 0; room = 325; answer = answer 0 325 7 1; text = printed (take 7 shared_lines); opened = 2; once = 3 }

-- "12 also for an edition that is not 1 or 2, before all others"
abbrev refused_before : ℕ → ℕ → Row
refused_before e opt = record { edition = e; file = bad_length; option = opt; room = 0; answer = refusal_of 12 0; text = []; opened = 0; once = 0 }

abbrev pub rows : List Row
rows = second_p7 ∷ second_p9 ∷ second_p10 ∷ second_desk ∷ first_shared ∷ second_shared ∷ refused_before 0 0 ∷ refused_before 3 0 ∷ refused_before 2 2 ∷ []

-- ---- what is said of a row

pub record Right (c : Row) : Type 0 where
  -- all that the contract allows in such a room is the row's answer, and the row's text before the room's old bytes
  pub says : (out left : List ℕ) (r : Answer) → c.room ≤ length out → Says c.edition c.file c.option out left r
      → (r ≡ c.answer) × (left ≡ over c.text out)
  -- and that is allowed
  pub said : (out : List ℕ) → c.room ≤ length out → Says c.edition c.file c.option out (over c.text out) c.answer
  pub opens : how_many (openings_of c.edition 100000 c.file c.option) ≡ c.opened
  pub bounds : once_of c.file ≡ c.once

-- ---- what is computed

unfoldable told : ℕ → List ℕ → ℕ → ℕ → Option Result
unfolding cut shape_of read_from read_of graph_of shown_of indent
told e file opt room = explain_edition e 100000 file opt room

record Computed (c : Row) : Type 0 where
  tells : told c.edition c.file c.option c.room ≡ some (result_by c.answer c.text)
  longer : not (eqb c.answer.number 10) ≡ true
  opens : how_many (openings_of c.edition 100000 c.file c.option) ≡ c.opened
  bounds : once_of c.file ≡ c.once

row_p7 : Computed second_p7
unfolding told openings_of once_of cut shape_of read_from
row_p7 = record { tells = refl; longer = refl; opens = refl; bounds = refl }

row_p9 : Computed second_p9
unfolding told openings_of once_of cut shape_of read_from
row_p9 = record { tells = refl; longer = refl; opens = refl; bounds = refl }

row_p10 : Computed second_p10
unfolding told openings_of once_of cut shape_of read_from
row_p10 = record { tells = refl; longer = refl; opens = refl; bounds = refl }

row_desk : Computed second_desk
unfolding told openings_of once_of cut shape_of read_from
row_desk = record { tells = refl; longer = refl; opens = refl; bounds = refl }

row_first : Computed first_shared
unfolding told openings_of once_of cut shape_of read_from
row_first = record { tells = refl; longer = refl; opens = refl; bounds = refl }

row_shared : Computed second_shared
unfolding told openings_of once_of cut shape_of read_from
row_shared = record { tells = refl; longer = refl; opens = refl; bounds = refl }

row_zeroth : Computed (refused_before 0 0)
unfolding told openings_of once_of cut shape_of read_from
row_zeroth = record { tells = refl; longer = refl; opens = refl; bounds = refl }

row_third : Computed (refused_before 3 0)
unfolding told openings_of once_of cut shape_of read_from
row_third = record { tells = refl; longer = refl; opens = refl; bounds = refl }

row_option : Computed (refused_before 2 2)
unfolding told openings_of once_of cut shape_of read_from
row_option = record { tells = refl; longer = refl; opens = refl; bounds = refl }

module _ (c : Row) (x : Computed c) where
  row_said : (out : List ℕ) → c.room ≤ length out → Says c.edition c.file c.option out (over c.text out) c.answer
  unfolding told
  row_said out h =
      let r = result_by c.answer c.text in
      let q = more_room c.room (length out) h r (uncut_not c.answer.number x.longer) c.edition 100000 c.option c.file x.tells in
      record { text = c.text; is = record { turns = 100000; so = q }; room = refl }

  row_right : Right c
  row_right =
      record {
        says = λ out left r h S. says_one c.edition c.file c.option out left (over c.text out) r c.answer S (row_said out h);
        said = row_said;
        opens = x.opens;
        bounds = x.bounds;
      }

-- every row is right
pub right : All Right rows
right =
    all_map Computed Right rows row_right
    (row_p7, (row_p9, (row_p10, (row_desk, (row_first, (row_shared, (row_zeroth, (row_third, (row_option, tt)))))))))

-- ---- programs that the contract shuts out

-- what a program makes of an edition, a file, an option and a room: the answer, and what it leaves in the room
abbrev pub Program : Type 0
Program = ℕ → List ℕ → ℕ → List ℕ → Answer × List ℕ

abbrev pub Meets : Program → Type 0
Meets f = (e : ℕ) (file : List ℕ) (opt : ℕ) (out : List ℕ) → Says e file opt out (f e file opt out).1 (f e file opt out).0

abbrev zeros : ℕ → List ℕ
zeros n = replicate n 0

module _ (f : Program) (m : Meets f) (c : Row) (R : Right c) (out : List ℕ) (h : c.room ≤ length out) where
  answers : (f c.edition c.file c.option out).0 ≡ c.answer
  answers = let y = f c.edition c.file c.option out in (R.says out y.1 y.0 h (m c.edition c.file c.option out)).0

module _ (f : Program) (m : Meets f) where
  -- edition 2 reports only packages that open: d would be shown again below b
  pub reports_open : ((out : List ℕ) → 342 ≤ length out → (f 2 shared 0 out).0.units ≡ 8) → ⊥
  reports_open w =
      let a = answers f m second_shared (row_right second_shared row_shared) (zeros 342) (omega arith) in
      let z : ◌≡◌ {A = ℕ} 7 8 = sym (ap (λ (x : Answer). x.units) a) ∙ w (zeros 342) (omega arith) in
      omega (arith, z)

  -- edition 2 is edition 1 with a skip in the place of 11: x would be opened again below the pair
  pub skips_below : ((out : List ℕ) → 419 ≤ length out → (f 2 merged_pair 0 out).0.units ≡ 7) → ⊥
  skips_below w =
      let a = answers f m second_p10 (row_right second_p10 row_p10) (zeros 419) (omega arith) in
      let z : ◌≡◌ {A = ℕ} 5 7 = sym (ap (λ (x : Answer). x.units) a) ∙ w (zeros 419) (omega arith) in
      omega (arith, z)

  -- depth counts all openings of the text: desk's branches open two each, and three together
  pub deep_in_all : ((out : List ℕ) → 454 ≤ length out → (f 2 desk 0 out).0.depth ≡ how_many (openings_of 2 100000 desk 0)) → ⊥
  deep_in_all w =
      let a = answers f m second_desk (row_right second_desk row_desk) (zeros 454) (omega arith) in
      let z : ◌≡◌ {A = ℕ} 2 3 = sym (ap (λ (x : Answer). x.depth) a) ∙ w (zeros 454) (omega arith) ∙ row_desk.opens in
      omega (arith, z)

  -- 11 in edition 2: P9 ends there
  pub loops_p9 : ((out : List ℕ) → 296 ≤ length out → (f 2 deck_panel 0 out).0.number ≡ 11) → ⊥
  loops_p9 w =
      let a = answers f m second_p9 (row_right second_p9 row_p9) (zeros 296) (omega arith) in
      let z : ◌≡◌ {A = ℕ} 0 11 = sym (ap (λ (x : Answer). x.number) a) ∙ w (zeros 296) (omega arith) in
      omega (arith, z)

  -- 12 after 1
  pub late_twelve : ((out : List ℕ) → (f 3 bad_length 0 out).0.number ≡ 1) → ⊥
  late_twelve w =
      let a = answers f m (refused_before 3 0) (row_right (refused_before 3 0) row_third) (zeros 0) (omega arith) in
      let z : ◌≡◌ {A = ℕ} 12 1 = sym (ap (λ (x : Answer). x.number) a) ∙ w (zeros 0) in
      omega (arith, z)
