-- Order 9 on document 01's files and some more: the air profile by the contract of `urzulempa_explain_air`, and programs that it shuts out.
use Rattle.std.specs.Prelude.{◌≡◌, Bool, true, false, not, ℕ, ◌≤◌, length, replicate, eqb}
use Rattle.std.proofs.Math.Path.{refl, ap}
use Rattle.std.proofs.Common.{sym, ◌∙◌, subst, arith}
use mathlib.Core.List.{List, [], ◌∷◌}
use Rattle.std.proofs.Math.Option.{Option, some}
use Rattle.basis.specs.Members.{All, all_map}
use Rattle.records.specs.Shapes.{cut, shape_of}
use Rattle.records.specs.Read.{read_from, read_of}
use Rattle.graph.specs.Graphs.{graph_of}
use Rattle.machine.specs.Units.{Result}
use Rattle.texts.specs.Wrote.{over}
use Rattle.texts.specs.Indent.{indent}
use Rattle.plan.specs.Plan.{shown_of}
use Rattle.explanation.specs.Explain.{explain_edition}
use Rattle.air.specs.declared.Profile.{Profile}
use Rattle.air.specs.declared.Profile.TheVariants.{Passed, Refused}
use Rattle.calls.specs.declared.Answer.{Answer}
use Rattle.calls.specs.Answers.{refusal_of}
use Rattle.calls.specs.Says.{result_by}
use Rattle.calls.specs.Air.{air_of, SaysBy, SaysAir}
use Rattle.calls.specs.Laws.Air.{says_air_one}
use Rattle.demands.specs.Cases.Files.{bad_length, replay, deck_panel, lost, wide, with_lock, selfish, twined, crowded_loop, locked_loop}
use Rattle.demands.specs.Cases.Texts.{printed, replay_lines, lone_lines}
use Rattle.demands.specs.Cases.Room.{more_room}
use Rattle.demands.specs.Cases.Right.{uncut_not}

-- ---- rows

pub record Row : Type 0 where
  pub file : List ℕ
  pub option : ℕ
  -- what the profile says; Passed where 12 or one of 1 to 9 comes first
  pub profile : Profile
  -- the least room that the row speaks of
  pub room : ℕ
  pub answer : Answer
  pub text : List ℕ

-- refused, whatever the room
abbrev denied : List ℕ → ℕ → ℕ → Row
denied file k p = record { file = file; option = 0; profile = Refused k p; room = 0; answer = refusal_of k p; text = [] }

abbrev earlier : List ℕ → ℕ → ℕ → ℕ → Row
earlier file opt k p = record { file = file; option = opt; profile = Passed; room = 0; answer = refusal_of k p; text = [] }

abbrev done : List ℕ → ℕ → ℕ → ℕ → List ℕ → Row
done file b u d text =
    record { file = file; option = 0; profile = Passed; room = b; answer = record { number = 0; place = 0; bytes = b; units = u; depth = d }; text = text }

-- P7 is done with its text
abbrev pub air_p7 : Row
air_p7 = done replay 155 3 1 (printed replay_lines)

-- P9 has a cycle: unresolved went and panel took number 1, so that it is the lowest node on it
abbrev pub air_p9 : Row
air_p9 = denied deck_panel 17 1

-- a Lock in the core is clause 1; outside it P11's text comes
abbrev pub air_locked : Row
air_locked = denied (with_lock 1) 15 1

abbrev pub air_unlocked : Row
air_unlocked = done (with_lock 0) 67 2 0 (printed lone_lines)

-- an edge to itself
abbrev pub air_selfish : Row
air_selfish = denied selfish 17 1

-- a cycle that goes by a conflict edge
abbrev pub air_twined : Row
air_twined = denied twined 17 1

-- 65 nodes and a cycle: 16 before 17
abbrev pub air_crowded : Row
air_crowded = denied crowded_loop 16 0

-- a Lock and a cycle: 15 before 17
abbrev pub air_both : Row
air_both = denied locked_loop 15 3

-- 12 before all, and 1 and 9 before the profile
abbrev pub air_option : Row
air_option = earlier deck_panel 2 12 0

abbrev pub air_length : Row
air_length = earlier bad_length 0 1 0

abbrev pub air_lost : Row
air_lost = earlier lost 0 9 1

abbrev pub rows : List Row
rows =
    air_p7 ∷ air_p9 ∷ air_locked ∷ air_unlocked ∷ air_selfish ∷ air_twined ∷ air_crowded ∷ air_both ∷ air_option ∷ air_length ∷ air_lost ∷ []

-- ---- what is said of a row

pub record Right (c : Row) : Type 0 where
  -- all that the contract allows in such a room is the row's answer, and the row's text before the room's old bytes
  pub says : (out left : List ℕ) (r : Answer) → c.room ≤ length out → SaysAir c.file c.option out left r
      → (r ≡ c.answer) × (left ≡ over c.text out)
  -- and that is allowed
  pub said : (out : List ℕ) → c.room ≤ length out → SaysAir c.file c.option out (over c.text out) c.answer

-- ---- what is computed

unfoldable told : List ℕ → ℕ → ℕ → Option Result
unfolding cut shape_of read_from read_of graph_of shown_of indent
told file opt room = explain_edition 1 100000 file opt room

-- the explanation where the profile passes, else the profile's own refusal
abbrev Gives : Profile → Row → Type 0
Gives Passed c = (told c.file c.option c.room ≡ some (result_by c.answer c.text)) × (not (eqb c.answer.number 10) ≡ true)
Gives (Refused k p) c = (c.answer ≡ refusal_of k p) × (c.text ≡ [])

record Computed (c : Row) : Type 0 where
  tests : air_of c.file c.option ≡ c.profile
  gives : Gives c.profile c

row_p7 : Computed air_p7
unfolding told air_of cut shape_of read_from
row_p7 = record { tests = refl; gives = (refl, refl) }

row_p9 : Computed air_p9
unfolding told air_of cut shape_of read_from
row_p9 = record { tests = refl; gives = (refl, refl) }

row_locked : Computed air_locked
unfolding told air_of cut shape_of read_from
row_locked = record { tests = refl; gives = (refl, refl) }

row_unlocked : Computed air_unlocked
unfolding told air_of cut shape_of read_from
row_unlocked = record { tests = refl; gives = (refl, refl) }

row_selfish : Computed air_selfish
unfolding told air_of cut shape_of read_from
row_selfish = record { tests = refl; gives = (refl, refl) }

row_twined : Computed air_twined
unfolding told air_of cut shape_of read_from
row_twined = record { tests = refl; gives = (refl, refl) }

row_crowded : Computed air_crowded
unfolding told air_of cut shape_of read_from
row_crowded = record { tests = refl; gives = (refl, refl) }

row_both : Computed air_both
unfolding told air_of cut shape_of read_from
row_both = record { tests = refl; gives = (refl, refl) }

row_option : Computed air_option
unfolding told air_of cut shape_of read_from
row_option = record { tests = refl; gives = (refl, refl) }

row_length : Computed air_length
unfolding told air_of cut shape_of read_from
row_length = record { tests = refl; gives = (refl, refl) }

row_lost : Computed air_lost
unfolding told air_of cut shape_of read_from
row_lost = record { tests = refl; gives = (refl, refl) }

module _ (c : Row) (x : Computed c) where
  row_by : (y : Profile) → Gives y c → (out : List ℕ) → c.room ≤ length out → SaysBy y c.file c.option out (over c.text out) c.answer
  unfolding told
  row_by Passed g out h =
      let r = result_by c.answer c.text in
      let q = more_room c.room (length out) h r (uncut_not c.answer.number g.1) 1 100000 c.option c.file g.0 in
      record { text = c.text; is = record { turns = 100000; so = q }; room = refl }
  row_by (Refused k p) g out h = (g.0, ap (λ (t : List ℕ). over t out) g.1)

  row_said : (out : List ℕ) → c.room ≤ length out → SaysAir c.file c.option out (over c.text out) c.answer
  row_said out h =
      record {
        says = subst (λ (y : Profile). SaysBy y c.file c.option out (over c.text out) c.answer) (sym x.tests)
            (row_by c.profile x.gives out h);
      }

  row_right : Right c
  row_right =
      record {
        says = λ out left r h S. says_air_one c.file c.option out left (over c.text out) r c.answer S (row_said out h);
        said = row_said;
      }

-- every row is right
pub right : All Right rows
right =
    all_map Computed Right rows row_right
    (row_p7, (row_p9, (row_locked, (row_unlocked, (row_selfish, (row_twined, (row_crowded, (row_both, (row_option, (row_length, (row_lost, tt)))))))))))

-- 64 nodes once unresolved has gone, 65 with it: the profile takes them, and a room without a byte gets 10
unfoldable few_told : Option Result
unfolding cut shape_of read_from read_of graph_of shown_of indent
few_told = explain_edition 1 100000 (wide 63) 0 0

few_tests : air_of (wide 63) 0 ≡ Passed
unfolding air_of cut shape_of read_from
few_tests = refl

few_tells : few_told ≡ some (record { number = 10; place = 0; bytes = 0; units = 0; depth = 0; text = [] })
unfolding few_told cut shape_of read_from
few_tells = refl

pub few_said : SaysAir (wide 63) 0 [] [] (refusal_of 10 0)
unfolding few_told
few_said =
    record {
      says = subst (λ (y : Profile). SaysBy y (wide 63) 0 [] [] (refusal_of 10 0)) (sym few_tests)
          (record { text = []; is = record { turns = 100000; so = few_tells }; room = refl });
    }

-- ---- programs that the contract shuts out

-- what a program makes of a file, an option and a room: the answer, and what it leaves in the room
abbrev pub Program : Type 0
Program = List ℕ → ℕ → List ℕ → Answer × List ℕ

abbrev pub Meets : Program → Type 0
Meets f = (file : List ℕ) (opt : ℕ) (out : List ℕ) → SaysAir file opt out (f file opt out).1 (f file opt out).0

abbrev zeros : ℕ → List ℕ
zeros n = replicate n 0

module _ (f : Program) (m : Meets f) (c : Row) (R : Right c) (out : List ℕ) (h : c.room ≤ length out) where
  answers : (f c.file c.option out).0 ≡ c.answer
  answers = let y = f c.file c.option out in (R.says out y.1 y.0 h (m c.file c.option out)).0

module _ (f : Program) (m : Meets f) where
  -- a cycle that goes by a conflict edge is missed
  pub misses_conflict : ((out : List ℕ) → (f twined 0 out).0.number ≡ 0) → ⊥
  misses_conflict w =
      let a = answers f m air_twined (row_right air_twined row_twined) [] (omega arith) in
      let z : ◌≡◌ {A = ℕ} 17 0 = sym (ap (λ (x : Answer). x.number) a) ∙ w [] in
      omega (arith, z)

  -- an edge to itself is missed
  pub misses_own : ((out : List ℕ) → (f selfish 0 out).0.number ≡ 0) → ⊥
  misses_own w =
      let a = answers f m air_selfish (row_right air_selfish row_selfish) [] (omega arith) in
      let z : ◌≡◌ {A = ℕ} 17 0 = sym (ap (λ (x : Answer). x.number) a) ∙ w [] in
      omega (arith, z)

  -- a Lock outside the core is refused
  pub locks_outside : ((out : List ℕ) → (f (with_lock 0) 0 out).0.number ≡ 15) → ⊥
  locks_outside w =
      let a = answers f m air_unlocked (row_right air_unlocked row_unlocked) (zeros 67) (omega arith) in
      let z : ◌≡◌ {A = ℕ} 0 15 = sym (ap (λ (x : Answer). x.number) a) ∙ w (zeros 67) in
      omega (arith, z)

  -- 17 before 16
  pub cycle_first : ((out : List ℕ) → (f crowded_loop 0 out).0.number ≡ 17) → ⊥
  cycle_first w =
      let a = answers f m air_crowded (row_right air_crowded row_crowded) [] (omega arith) in
      let z : ◌≡◌ {A = ℕ} 16 17 = sym (ap (λ (x : Answer). x.number) a) ∙ w [] in
      omega (arith, z)

  -- nodes are counted before unresolved goes
  pub counts_unresolved : ((out : List ℕ) → (f (wide 63) 0 out).0.number ≡ 16) → ⊥
  counts_unresolved w =
      let a = (says_air_one (wide 63) 0 [] (f (wide 63) 0 []).1 [] (f (wide 63) 0 []).0 (refusal_of 10 0) (m (wide 63) 0 []) few_said).0 in
      let z : ◌≡◌ {A = ℕ} 10 16 = sym (ap (λ (x : Answer). x.number) a) ∙ w [] in
      omega (arith, z)
