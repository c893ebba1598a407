-- Order 2 on P7's file: what the plain call answers, what option 0 answers, and programs that the plain call's contract shuts out.
use Rattle.std.specs.Prelude.{◌≡◌, refl, List, ℕ, ◌≤◌, length, replicate, get_or}
use Rattle.std.proofs.Common.{sym, ap, ◌∙◌, arith}
use Rattle.texts.specs.Wrote.{over}
use Rattle.explanation.specs.Laws.Contract.{file_answers}
use Rattle.calls.specs.declared.Answer.{Answer}
use Rattle.charts.specs.Draws.{result_answer}
use Rattle.calls.specs.Plain.{plain_option}
use Rattle.calls.specs.Says.{Says}
use Rattle.demands.specs.Cases.Files.{replay}
use Rattle.demands.specs.Cases.Texts.{printed, replay_lines, indented_lines}
use Rattle.demands.specs.Cases.Table.{p7, indented}
use Rattle.demands.specs.Cases.Right.{Right, right}

row_p7 : Right p7
row_p7 = right.1.1.1.1.1.1.1.1.1.0

row_indented : Right indented
row_indented = right.1.1.1.1.1.1.1.1.1.1.1.1.1.1.0

-- "A plain call now means option 1": P7 with its top level indented, 168 bytes
pub plain_p7 : (out left : List ℕ) (r : Answer) → 168 ≤ length out → Says 1 replay plain_option out left r
    → (r ≡ indented.answer) × (left ≡ over (printed indented_lines) out)
plain_p7 out left r h S = row_indented.says out left r h S

-- "P7's 155 bytes stay the answer to option 0"
pub flat_p7 : (out left : List ℕ) (r : Answer) → 155 ≤ length out → Says 1 replay 0 out left r
    → (r ≡ p7.answer) × (left ≡ over (printed replay_lines) out)
flat_p7 out left r h S = row_p7.says out left r h S

-- ---- programs

-- what a program makes of a file and a room: the answer, and what it leaves in the room
abbrev pub Program : Type 0
Program = List ℕ → List ℕ → Answer × List ℕ

-- the plain call's contract holds of it on every input
abbrev pub Meets : Program → Type 0
Meets f = (file out : List ℕ) → Says 1 file plain_option out (f file out).1 (f file out).0

-- there is one that meets it
abbrev pub the_program : Program
the_program file out = let r = (file_answers 1 file plain_option (length out)).0 in (result_answer r, over r.text out)

pub the_program_lem : Meets the_program
the_program_lem file out = let r = file_answers 1 file plain_option (length out) in record { text = r.0.text; is = r.1; room = refl }

abbrev zeros : ℕ → List ℕ
zeros n = replicate n 0

module _ (f : Program) (m : Meets f) where
  answered : ((f replay (zeros 168)).0 ≡ indented.answer) × ((f replay (zeros 168)).1 ≡ over (printed indented_lines) (zeros 168))
  answered = plain_p7 (zeros 168) (f replay (zeros 168)).1 (f replay (zeros 168)).0 (omega arith) (m replay (zeros 168))

  -- the plain call of before: P7's 155 bytes
  pub stays_flat : ((out : List ℕ) → 155 ≤ length out → (f replay out).0.bytes ≡ 155) → ⊥
  stays_flat w =
      let z : ◌≡◌ {A = ℕ} 168 155 = sym (ap (λ (a : Answer). a.bytes) answered.0) ∙ w (zeros 168) (omega arith) in
      omega (arith, z)

  -- option 1's counts beside option 0's text: the first byte is that of a stroke, and not of a name
  pub counts_only : ((out : List ℕ) → 168 ≤ length out → (f replay out).1 ≡ over (printed replay_lines) out) → ⊥
  counts_only w =
      let e = sym answered.1 ∙ w (zeros 168) (omega arith) in
      let z : ◌≡◌ {A = ℕ} 226 114 = ap (λ (l : List ℕ). get_or l 0 0) e in
      omega (arith, z)
