-- Edges whose ends are given other numbers: what is read off a graph goes along.
use Rattle.std.specs.Prelude.{◌≡◌, refl, ◌⊎◌, Bool, true, false, ℕ, eqb}
use Rattle.std.proofs.Common.{sym, ap, ◌∙◌, inl, inr}
use mathlib.Core.List.{List, [], ◌∷◌, map, reverse, reverse_aux}
use Rattle.basis.specs.Lists.{any, all, filter}
use Rattle.basis.specs.Members.{In, split}
use Rattle.store.specs.declared.ConflictEdge.{ConflictEdge}
use Rattle.store.specs.declared.ConflictEdge.TheVariants as W
use Rattle.store.specs.declared.Edge.{Edge}
use Rattle.labels.specs.Runs.{Run, add_to, runs_of, every_run, some_run}

abbrev pub move_edge : (ℕ → ℕ) → Edge → Edge
move_edge f e = record { source = f e.source; target = f e.target; weight = e.weight; clause = e.clause }

abbrev move_run : (ℕ → ℕ) → Run → Run
move_run f r = record { req = r.req; to = map f r.to }

-- ---- lists

module _ {A B : Type 0} (f : A → B) where
  map_back : (l acc : List A) → reverse_aux (map f l) (map f acc) ≡ map f (reverse_aux l acc)
  map_back [] acc = refl
  map_back (x ∷ l) acc = map_back l (x ∷ acc)

  pub map_reverse : (l : List A) → reverse (map f l) ≡ map f (reverse l)
  map_reverse l = map_back l []

  pub any_map : (p : B → Bool) (l : List A) → any p (map f l) ≡ any (λ x. p (f x)) l
  any_map p [] = refl
  any_map p (x ∷ l) = split (p (f x)) (λ t. rw (t, any)) (λ t. rw (t, any) (any_map p l))

  pub all_map_test : (p : B → Bool) (l : List A) → all p (map f l) ≡ all (λ x. p (f x)) l
  all_map_test p [] = refl
  all_map_test p (x ∷ l) = split (p (f x)) (λ t. rw (t, all) (all_map_test p l)) (λ t. rw (t, all))

  pub filter_map : (p : B → Bool) (q : A → Bool) (l : List A) → ((x : A) → In x l → p (f x) ≡ q x) → filter p (map f l) ≡ map f (filter q l)
  filter_map p q [] h = refl
  filter_map p q (x ∷ l) h =
      let e : p (f x) ≡ q x = h x (inl refl) in
      let r : filter p (map f l) ≡ map f (filter q l) = filter_map p q l (λ y i. h y (inr i)) in
      split (q x)
      (λ t. let u : p (f x) ≡ true = e ∙ t in rw (t, u, filter) (ap (λ (m : List B). f x ∷ m) r))
      (λ t. let u : p (f x) ≡ false = e ∙ t in rw (t, u, filter) r)

-- ---- runs

module _ (f : ℕ → ℕ) where
  add_moved : (q n : ℕ) (R : List Run) → add_to q (f n) (map (move_run f) R) ≡ map (move_run f) (add_to q n R)
  add_moved q n [] = refl
  add_moved q n (r ∷ R) = split (eqb q r.req) (λ t. rw (t, add_to)) (λ t. rw (t, add_to))

  runs_moved : (es : List Edge) → runs_of (map (move_edge f) es) ≡ map (move_run f) (runs_of es)
  runs_moved [] = refl
  runs_moved (e ∷ es) = by e.weight refl (runs_moved es)
    where
      by : (w : ConflictEdge) → e.weight ≡ w → runs_of (map (move_edge f) es) ≡ map (move_run f) (runs_of es)
          → runs_of (map (move_edge f) (e ∷ es)) ≡ map (move_run f) (runs_of (e ∷ es))
      by (W.Requires q) p r = rw (p, runs_of, r) (add_moved q e.target (runs_of es))
      by (W.Conflict c) p r = rw (p, runs_of) r

  every_run_lem : (p : ℕ → Bool) (R : List Run) → every_run p (map (move_run f) R) ≡ every_run (λ t. p (f t)) R
  every_run_lem p [] = refl
  every_run_lem p (r ∷ R) =
      let e : any p (map f r.to) ≡ any (λ t. p (f t)) r.to = any_map f p r.to in
      split (any (λ t. p (f t)) r.to)
      (λ t. let u : any p (map f r.to) ≡ true = e ∙ t in rw (t, u, all) (every_run_lem p R))
      (λ t. let u : any p (map f r.to) ≡ false = e ∙ t in rw (t, u, all))

  some_run_lem : (p : ℕ → Bool) (R : List Run) → some_run p (map (move_run f) R) ≡ some_run (λ t. p (f t)) R
  some_run_lem p [] = refl
  some_run_lem p (r ∷ R) =
      let e : all p (map f r.to) ≡ all (λ t. p (f t)) r.to = all_map_test f p r.to in
      split (all (λ t. p (f t)) r.to)
      (λ t. let u : all p (map f r.to) ≡ true = e ∙ t in rw (t, u, any))
      (λ t. let u : all p (map f r.to) ≡ false = e ∙ t in rw (t, u, any) (some_run_lem p R))

  pub every_moved : (p : ℕ → Bool) (es : List Edge) → every_run p (runs_of (map (move_edge f) es)) ≡ every_run (λ t. p (f t)) (runs_of es)
  every_moved p es = rw (runs_moved es) (every_run_lem p (runs_of es))

  pub some_moved : (p : ℕ → Bool) (es : List Edge) → some_run p (runs_of (map (move_edge f) es)) ≡ some_run (λ t. p (f t)) (runs_of es)
  some_moved p es = rw (runs_moved es) (some_run_lem p (runs_of es))
