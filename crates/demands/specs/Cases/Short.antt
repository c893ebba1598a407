-- Order 6 on groups of 6, 7 and 8: "A group of more than six shows its first three versions, then ' | ... | ', then its last." P4 has a
-- group of 126.
use Rattle.std.specs.Prelude.{◌≡◌, refl, List, [], ◌∷◌, map, ℕ, ◌-◌, ◌≤◌, length, take}
use Rattle.std.proofs.Common.{sym, ap, ◌∙◌, arith}
use Prim.Native.String.{String}
use Rattle.basis.specs.Lists.{upto}
use Rattle.basis.specs.Members.{All, all_map}
use Rattle.records.specs.Shapes.{cut, shape_of}
use Rattle.records.specs.Read.{read_from}
use Rattle.lists.specs.Nodes.{Nodes, entered, nodes_of}
use Rattle.calls.specs.declared.Answer.{Answer}
use Rattle.demands.specs.Cases.Files.{wide}
use Rattle.demands.specs.Cases.Texts.{printed, six_lines, seven_lines, eight_lines}
use Rattle.demands.specs.Cases.Table.{Case, Rooms, at_least, exactly, answer, node}
use Rattle.demands.specs.Cases.Bound.{bound_of}
use Rattle.demands.specs.Cases.Right.{Right, told, Computed, row_right}
use Rattle.demands.specs.Cases.Wrong.{Program, Meets, zeros, answers}

-- n candidates of the root, all of one group
abbrev nodes_in : ℕ → Nodes
nodes_in n = entered (node 0 0 0 1 0 65535 ∷ node 1 (n - 1) 1 1 0 1 ∷ map (λ i. node 1 i 1 1 0 1) (upto (n - 1) 0))

-- "more than six": six are all shown
abbrev pub six : Case
six = record { file = wide 6; option = 0; rooms = at_least 87; answer = answer 0 0 87 2 0; text = printed six_lines; nodes = nodes_in 6; bound = 1 }

abbrev pub seven : Case
seven = record { file = wide 7; option = 0; rooms = at_least 85; answer = answer 0 0 85 2 0; text = printed seven_lines; nodes = nodes_in 7; bound = 1 }

abbrev pub eight : Case
eight = record { file = wide 8; option = 0; rooms = at_least 85; answer = answer 0 0 85 2 0; text = printed eight_lines; nodes = nodes_in 8; bound = 1 }

-- "byte counts and refusal 10 are read over the new text": a room that lacks one byte, and one that ends inside the dots
abbrev pub seven_less : Case
seven_less =
    record { file = wide 7; option = 0; rooms = exactly 84; answer = answer 10 1 56 1 0; text = printed (take 1 seven_lines); nodes = nodes_in 7; bound = 1 }

abbrev pub seven_dots : Case
seven_dots =
    record { file = wide 7; option = 0; rooms = exactly 77; answer = answer 10 1 56 1 0; text = printed (take 1 seven_lines); nodes = nodes_in 7; bound = 1 }

abbrev pub rows : List Case
rows = six ∷ seven ∷ eight ∷ seven_less ∷ seven_dots ∷ []

row_six : Computed six
unfolding told bound_of nodes_of cut shape_of read_from
row_six = record { tells = refl; longer = refl; listed = refl; bounded = refl; within = refl }

row_seven : Computed seven
unfolding told bound_of nodes_of cut shape_of read_from
row_seven = record { tells = refl; longer = refl; listed = refl; bounded = refl; within = refl }

row_eight : Computed eight
unfolding told bound_of nodes_of cut shape_of read_from
row_eight = record { tells = refl; longer = refl; listed = refl; bounded = refl; within = refl }

row_less : Computed seven_less
unfolding told bound_of nodes_of cut shape_of read_from
row_less = record { tells = refl; longer = refl; listed = refl; bounded = refl; within = refl }

row_dots : Computed seven_dots
unfolding told bound_of nodes_of cut shape_of read_from
row_dots = record { tells = refl; longer = refl; listed = refl; bounded = refl; within = refl }

-- every row is right
pub short_right : All Right rows
short_right = all_map Computed Right rows row_right (row_six, (row_seven, (row_eight, (row_less, (row_dots, tt)))))

-- ---- programs that the contract shuts out

module _ (f : Program) (m : Meets f) where
  -- "shows its first three" of six as well
  pub shortens_six : ((out : List ℕ) → 87 ≤ length out → (f (wide 6) 0 out).0.bytes ≡ 85) → ⊥
  shortens_six w =
      let a = answers f m six (row_right six row_six) (zeros 87) (omega arith) in
      let z : ◌≡◌ {A = ℕ} 87 85 = sym (ap (λ (x : Answer). x.bytes) a) ∙ w (zeros 87) (omega arith) in
      omega (arith, z)

  -- measures all versions: 91 bytes
  pub measures_all : ((out : List ℕ) → length out ≡ 85 → (f (wide 7) 0 out).0.number ≡ 10) → ⊥
  measures_all w =
      let a = answers f m seven (row_right seven row_seven) (zeros 85) (omega arith) in
      let z : ◌≡◌ {A = ℕ} 0 10 = sym (ap (λ (x : Answer). x.number) a) ∙ w (zeros 85) refl in
      omega (arith, z)

  -- shows the last of the first three twice
  pub shows_twice : ((out : List ℕ) → 89 ≤ length out → (f (wide 8) 0 out).0.bytes ≡ 89) → ⊥
  shows_twice w =
      let a = answers f m eight (row_right eight row_eight) (zeros 89) (omega arith) in
      let z : ◌≡◌ {A = ℕ} 85 89 = sym (ap (λ (x : Answer). x.bytes) a) ∙ w (zeros 89) (omega arith) in
      omega (arith, z)
