-- Document 01, "What the contracts have to nail": programs that the contract of `urzulempa_explain` shuts out, each by a row of the table.
use Rattle.std.specs.Prelude.{◌≡◌, refl, List, ℕ, ◌≤◌, length, replicate, get_or, take}
use Rattle.std.proofs.Common.{sym, ap, ◌∙◌, arith}
use Rattle.texts.specs.Wrote.{over}
use Rattle.explanation.specs.Laws.Contract.{file_answers}
use Rattle.calls.specs.declared.Answer.{Answer}
use Rattle.charts.specs.Draws.{result_answer}
use Rattle.calls.specs.Says.{Says}
use Rattle.calls.specs.Laws.Says.{says_one}
use Rattle.demands.specs.Cases.Files.{replay, deck_panel, merged_pair, lone, lost, desk}
use Rattle.demands.specs.Cases.Texts.{printed, replay_lines, desk_lines}
use Rattle.demands.specs.Cases.Table.{Case, Fits, p5, p7, p9, p10, p11, two_runs}
use Rattle.demands.specs.Cases.Bound.{bound_of}
use Rattle.demands.specs.Cases.Right.{Right, right}

-- what a program makes of a file, an option and a room: the answer, and what it leaves in the room
abbrev pub Program : Type 0
Program = List ℕ → ℕ → List ℕ → Answer × List ℕ

-- the contract holds of it on every input
abbrev pub Meets : Program → Type 0
Meets f = (file : List ℕ) (opt : ℕ) (out : List ℕ) → Says 1 file opt out (f file opt out).1 (f file opt out).0

-- there is a program that meets it
abbrev pub the_program : Program
the_program file opt out = let r = (file_answers 1 file opt (length out)).0 in (result_answer r, over r.text out)

pub the_program_lem : Meets the_program
the_program_lem file opt out = let r = file_answers 1 file opt (length out) in record { text = r.0.text; is = r.1; room = refl }

-- and every other does the same
pub same_program : (f : Program) → Meets f → (file : List ℕ) (opt : ℕ) (out : List ℕ)
    → ((f file opt out).0 ≡ (the_program file opt out).0) × ((f file opt out).1 ≡ (the_program file opt out).1)
same_program f m file opt out =
    says_one 1 file opt out (f file opt out).1 (the_program file opt out).1 (f file opt out).0 (the_program file opt out).0 (m file opt out)
    (the_program_lem file opt out)

-- ---- rows

row_p5 : Right p5
row_p5 = right.1.1.1.1.1.1.0

row_p7 : Right p7
row_p7 = right.1.1.1.1.1.1.1.1.1.0

row_p9 : Right p9
row_p9 = right.1.1.1.1.1.1.1.1.1.1.1.0

row_p10 : Right p10
row_p10 = right.1.1.1.1.1.1.1.1.1.1.1.1.0

row_p11 : Right p11
row_p11 = right.1.1.1.1.1.1.1.1.1.1.1.1.1.0

row_two_runs : Right two_runs
row_two_runs = right.1.1.1.1.1.1.1.1.1.1.1.1.1.1.1.1.0

-- a room of n zeros
abbrev pub zeros : ℕ → List ℕ
zeros n = replicate n 0

module _ (f : Program) (m : Meets f) (c : Case) (R : Right c) (out : List ℕ) (h : Fits c.rooms (length out)) where
  pub answers : (f c.file c.option out).0 ≡ c.answer
  answers = (R.says out (f c.file c.option out).1 (f c.file c.option out).0 h (m c.file c.option out)).0

  leaves : (f c.file c.option out).1 ≡ over c.text out
  leaves = (R.says out (f c.file c.option out).1 (f c.file c.option out).0 h (m c.file c.option out)).1

module _ (f : Program) (m : Meets f) where
  -- "always refuse": P7 is explained
  pub refuses : ((file : List ℕ) (opt : ℕ) (out : List ℕ) → (f file opt out).0.number ≡ 0 → ⊥) → ⊥
  refuses w = w replay 0 (zeros 155) (ap (λ (a : Answer). a.number) (answers f m p7 row_p7 (zeros 155) (omega arith)))

  -- "always P7's text": P11's begins with an x
  pub parrots : ((file : List ℕ) (opt : ℕ) (out : List ℕ) → 155 ≤ length out → (f file opt out).1 ≡ over (printed replay_lines) out) → ⊥
  parrots w =
      let e = sym (leaves f m p11 row_p11 (zeros 155) (omega arith)) ∙ w lone 0 (zeros 155) (omega arith) in
      let z : ◌≡◌ {A = ℕ} 120 114 = ap (λ (l : List ℕ). get_or l 0 0) e in
      omega (arith, z)

  -- "write nothing and say done": P7's text stands in the room
  pub idles : ((file : List ℕ) (opt : ℕ) (out : List ℕ) → (f file opt out).0.number ≡ 0 → (f file opt out).1 ≡ out) → ⊥
  idles w =
      let q = ap (λ (a : Answer). a.number) (answers f m p7 row_p7 (zeros 155) (omega arith)) in
      let e = sym (leaves f m p7 row_p7 (zeros 155) (omega arith)) ∙ w replay 0 (zeros 155) q in
      let z : ◌≡◌ {A = ℕ} 114 0 = ap (λ (l : List ℕ). get_or l 0 0) e in
      omega (arith, z)

  -- "open the first run and print bare lines for later ones": below "panel 5" two lines more stand
  pub opens_first : ((out : List ℕ) → 454 ≤ length out → (f desk 0 out).1 ≡ over (printed (take 6 desk_lines)) out) → ⊥
  opens_first w =
      let e = sym (leaves f m two_runs row_two_runs (zeros 454) (omega arith)) ∙ w (zeros 454) (omega arith) in
      let z : ◌≡◌ {A = ℕ} 10 0 = ap (λ (l : List ℕ). get_or l 453 0) e in
      omega (arith, z)

  -- "report depth 0": P9's is 2
  pub shallow : ((file : List ℕ) (opt : ℕ) (out : List ℕ) → (f file opt out).0.depth ≡ 0) → ⊥
  shallow w =
      let z : ◌≡◌ {A = ℕ} 2 0 = sym (ap (λ (a : Answer). a.depth) (answers f m p9 row_p9 (zeros 296) (omega arith))) ∙ w deck_panel 0 (zeros 296) in
      omega (arith, z)

  -- "or the bound itself": P11's depth is 0, and its bound 1
  pub reports_bound : ((file : List ℕ) (opt : ℕ) (out : List ℕ) → (f file opt out).0.number ≡ 0 → (f file opt out).0.depth ≡ bound_of file) → ⊥
  reports_bound w =
      let a = answers f m p11 row_p11 (zeros 67) (omega arith) in
      let e = w lone 0 (zeros 67) (ap (λ (a : Answer). a.number) a) in
      let z : ◌≡◌ {A = ℕ} 0 1 = sym (ap (λ (a : Answer). a.depth) a) ∙ e ∙ row_p11.bounds in
      omega (arith, z)

  -- ---- "Easy errors here"

  -- "Marking unmerged packages as reported: P9 would then end"
  pub ends_p9 : ((out : List ℕ) → 296 ≤ length out → (f deck_panel 0 out).0.number ≡ 0) → ⊥
  ends_p9 w =
      let z : ◌≡◌ {A = ℕ} 11 0 = sym (ap (λ (a : Answer). a.number) (answers f m p9 row_p9 (zeros 296) (omega arith))) ∙ w (zeros 296) (omega arith) in
      omega (arith, z)

  -- "Refusing any package seen twice on a branch: P10"
  pub refuses_p10 : ((out : List ℕ) → 419 ≤ length out → (f merged_pair 0 out).0.number ≡ 11) → ⊥
  refuses_p10 w =
      let z : ◌≡◌ {A = ℕ} 0 11 = sym (ap (λ (a : Answer). a.number) (answers f m p10 row_p10 (zeros 419) (omega arith))) ∙ w (zeros 419) (omega arith) in
      omega (arith, z)

  -- "Keeping node numbers when unresolved goes": P5's solvable was node 2, and is node 1
  pub keeps_numbers : ((out : List ℕ) → (f lost 0 out).0.place ≡ 2) → ⊥
  keeps_numbers w =
      let z : ◌≡◌ {A = ℕ} 1 2 = sym (ap (λ (a : Answer). a.place) (answers f m p5 row_p5 (zeros 0) (omega arith))) ∙ w (zeros 0) in
      omega (arith, z)
