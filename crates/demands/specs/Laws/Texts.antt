-- The texts of a line: "each from 32 to 126". So a line has no newline but its own, and no tree sign but its indent's.
use Rattle.std.specs.Prelude.{◌≡◌, refl, Bool, true, false, cond, ◌&&◌, List, [], ◌∷◌, ◌++◌, map, ℕ, zero, suc, length, take, leb, ltb}
use Rattle.std.proofs.lemmas.Bool.{false≢true}
use Rattle.std.proofs.Math.Option.{some}
use Rattle.std.proofs.Math.ListN.{get_or-eq_default}
use Rattle.std.proofs.Common.{ltb-true, ltb-false}
use Rattle.basis.specs.Lists.{all, concat_map}
use Rattle.basis.specs.Quote.{utf8}
use Rattle.basis.specs.Members.{All, all_append, split, clash}
use Rattle.records.specs.declared.Table.{Table}
use Rattle.records.specs.declared.Table.TheVariants.{Names, Solvables, VersionSets, Requirements, Candidates, Reasons, Variables, Assigned, Clauses}
use Rattle.records.specs.declared.First.TheVariants as F
use Rattle.records.specs.declared.Shape.{Shape}
use Rattle.records.specs.Shapes.{shape_of}
use Rattle.records.specs.Tables.{Tables, table_of, at, no_rec}
use Rattle.records.specs.Read.{rec_text}
use Rattle.records.specs.Views.{name_text, solvable_name, set_name, set_text, requirement_text, reason_text}
use Rattle.index.specs.Steps.{each_kind}
use Rattle.index.specs.Promise.{Valid, Sound, RightFirst}
use Rattle.labels.specs.Runs.{Run}
use Rattle.plan.specs.Plan.{Shown, run_installable, no_candidates}
use Rattle.plan.specs.Display.{last_text, displayed, joined_by, solvable_of, version_of, members_of, package_text}
use Rattle.lines.specs.Lines.{run_line, set_line}

-- "each from 32 to 126"
abbrev pub in_text : ℕ → Bool
in_text x = leb 32 x && leb x 126

abbrev pub Clean : List ℕ → Type 0
Clean l = all in_text l ≡ true

pub all_both : (p : ℕ → Bool) (xs ys : List ℕ) → all p xs ≡ true → all p ys ≡ true → all p (xs ++ ys) ≡ true
all_both p [] ys h g = g
all_both p (x ∷ xs) ys h g = split (p x) (λ t. rw (t, all) (all_both p xs ys (rw (t, all) at h) g)) (λ t. absurd (false≢true (rw (t, all) at h)))

pub all_weaker : (p q : ℕ → Bool) → ((x : ℕ) → p x ≡ true → q x ≡ true) → (l : List ℕ) → all p l ≡ true → all q l ≡ true
all_weaker p q f [] h = refl
all_weaker p q f (x ∷ l) h = split (p x) (λ t. rw (f x t, all) (all_weaker p q f l (rw (t, all) at h))) (λ t. absurd (false≢true (rw (t, all) at h)))

-- ---- a record's text (as exported/specs/Laws/Texts.antt has it)

-- the tables whose records have a text
record Texted (t : Table) : Type 0 where
  candidates : t ≡ Candidates → ⊥
  variables : t ≡ Variables → ⊥
  assigned : t ≡ Assigned → ⊥
  clauses : t ≡ Clauses → ⊥

first_length : (t : Table) → Texted t → (k : ℕ) (s : Shape) → shape_of k ≡ some s → s.table ≡ t → s.first ≡ F.Length
first_length t n =
    each_kind (λ o. (s : Shape) → o ≡ some s → s.table ≡ t → s.first ≡ F.Length) (
      λ s e h. cc,
      (
        λ s e h. cc,
        (
          λ s e h. cc,
          (
            λ s e h. cc,
            (
              λ s e h. absurd (n.candidates cc),
              (
                λ s e h. cc,
                (
                  λ s e h. absurd (n.variables cc),
                  (
                    λ s e h. absurd (n.assigned cc),
                    (
                      λ s e h. absurd (n.clauses cc),
                      (
                        λ s e h. absurd (n.clauses cc),
                        (
                          λ s e h. absurd (n.clauses cc),
                          (
                            λ s e h. absurd (n.clauses cc),
                            (
                              λ s e h. absurd (n.clauses cc),
                              (
                                λ s e h. absurd (n.clauses cc),
                                (λ s e h. absurd (n.clauses cc), (λ s e h. absurd (n.clauses cc), (λ s e h. absurd (n.clauses cc), (λ s e h. absurd (n.clauses cc), tt)))),
                              ),
                            ),
                          ),
                        ),
                      ),
                    ),
                  ),
                ),
              ),
            ),
          ),
        ),
      ),
    )
    (λ s e h. clash (cc))

names_texted : Texted Names
names_texted = record { candidates = λ e. clash (cc); variables = λ e. clash (cc); assigned = λ e. clash (cc); clauses = λ e. clash (cc) }

solvables_texted : Texted Solvables
solvables_texted = record { candidates = λ e. clash (cc); variables = λ e. clash (cc); assigned = λ e. clash (cc); clauses = λ e. clash (cc) }

sets_texted : Texted VersionSets
sets_texted = record { candidates = λ e. clash (cc); variables = λ e. clash (cc); assigned = λ e. clash (cc); clauses = λ e. clash (cc) }

requirements_texted : Texted Requirements
requirements_texted = record { candidates = λ e. clash (cc); variables = λ e. clash (cc); assigned = λ e. clash (cc); clauses = λ e. clash (cc) }

reasons_texted : Texted Reasons
reasons_texted = record { candidates = λ e. clash (cc); variables = λ e. clash (cc); assigned = λ e. clash (cc); clauses = λ e. clash (cc) }

text_clean : (T : Tables) → Valid T → (t : Table) → Texted t → (i : ℕ) → Clean (rec_text (at (table_of t T) i))
text_clean T valid t n i =
    split (ltb i (length (table_of t T)))
    (λ q. let s : Sound T t i (at (table_of t T) i) = valid.sound t i (ltb-true i (length (table_of t T)) q) in
    let r : RightFirst F.Length (at (table_of t T) i) = rw (first_length t n (at (table_of t T) i).kind s.shape s.known s.mine) at s.right_first in
    r.2)
    (λ q. rw (get_or-eq_default (table_of t T) no_rec (ltb-false i (length (table_of t T)) q)) refl)

-- ---- versions joined

take_clean : (n : ℕ) (vs : List (List ℕ)) → All Clean vs → All Clean (take n vs)
take_clean zero vs a = tt
take_clean (suc n) [] a = tt
take_clean (suc n) (v ∷ vs) a = (a.0, take_clean n vs a.1)

last_clean : (x : List ℕ) (vs : List (List ℕ)) → Clean x → All Clean vs → Clean (last_text x vs)
last_clean x [] h a = h
last_clean x (v ∷ vs) h a = last_clean v vs a.0 a.1

displayed_clean : (vs : List (List ℕ)) → All Clean vs → All Clean (displayed vs)
displayed_clean vs a =
    split (ltb 6 (length vs))
    (λ q. rw (q, cond) (all_append Clean (take 3 vs) (utf8 "..." ∷ last_text [] vs ∷ []) (take_clean 3 vs a) (refl, (last_clean [] vs refl a, tt))))
    (λ q. rw (q, cond) a)

behind_clean : (vs : List (List ℕ)) → All Clean vs → Clean (concat_map (λ w. utf8 " | " ++ w) vs)
behind_clean [] a = refl
behind_clean (v ∷ vs) a =
    all_both in_text (utf8 " | " ++ v) (concat_map (λ w. utf8 " | " ++ w) vs) (all_both in_text (utf8 " | ") v refl a.0) (behind_clean vs a.1)

joined_clean : (vs : List (List ℕ)) → All Clean vs → Clean (joined_by vs)
joined_clean [] a = refl
joined_clean (v ∷ vs) a = all_both in_text v (concat_map (λ w. utf8 " | " ++ w) vs) a.0 (behind_clean vs a.1)

-- ---- what a line says

module _ (S : Shown) (valid : Valid S.tables) where
  versions_clean : (l : List ℕ) → All Clean (map (version_of S) l)
  versions_clean [] = tt
  versions_clean (n ∷ l) = (text_clean S.tables valid Solvables solvables_texted (solvable_of S n), versions_clean l)

  pub package_clean : (n : ℕ) → Clean (package_text S n)
  package_clean n =
      let a : List ℕ = name_text S.tables (solvable_name S.tables (solvable_of S n)) in
      all_both in_text (a ++ utf8 " ") (joined_by (displayed (map (version_of S) (members_of S n))))
      (all_both in_text a (utf8 " ") (text_clean S.tables valid Names names_texted (solvable_name S.tables (solvable_of S n))) refl)
      (joined_clean (displayed (map (version_of S) (members_of S n))) (displayed_clean (map (version_of S) (members_of S n)) (versions_clean (members_of S n))))

  pub reason_clean : (r : ℕ) → Clean (reason_text S.tables r)
  reason_clean r = text_clean S.tables valid Reasons reasons_texted r

  pub set_clean : (v : ℕ) → Clean (set_line S v)
  set_clean v =
      let a : List ℕ = name_text S.tables (set_name S.tables v) in
      let b : List ℕ = set_text S.tables v in
      all_both in_text (a ++ utf8 " " ++ b) (utf8 ", which conflicts with any installable versions previously reported")
      (all_both in_text (a ++ utf8 " ") b (all_both in_text a (utf8 " ") (text_clean S.tables valid Names names_texted (set_name S.tables v)) refl)
      (text_clean S.tables valid VersionSets sets_texted v)) refl

  pub run_clean : (top : Bool) (r : Run) → Clean (run_line S top r)
  run_clean true r =
      let q : List ℕ = requirement_text S.tables r.req in
      let h : Clean q = text_clean S.tables valid Requirements requirements_texted r.req in
      split (no_candidates S r)
      (λ a. rw a (all_both in_text (utf8 "No candidates were found for "
      ++ q) (utf8 ".") (all_both in_text (utf8 "No candidates were found for ") q refl h) refl))
      (λ a. rw a (split (run_installable S r)
      (λ b. rw b (all_both in_text q (utf8 " can be installed with any of the following options:") h refl))
      (λ b. rw b (all_both in_text q (utf8 " cannot be installed because there are no viable options:") h refl))))
  run_clean false r =
      let q : List ℕ = requirement_text S.tables r.req in
      let h : Clean q = text_clean S.tables valid Requirements requirements_texted r.req in
      split (no_candidates S r)
      (λ a. rw a (all_both in_text q (utf8 ", for which no candidates were found.") h refl))
      (λ a. rw a (split (run_installable S r)
      (λ b. rw b (all_both in_text q (utf8 ", which can be installed with any of the following options:") h refl))
      (λ b. rw b (all_both in_text q (utf8 ", which cannot be installed because there are no viable options:") h refl))))
