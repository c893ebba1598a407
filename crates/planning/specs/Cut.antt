-- Cutting a list of edges into runs by going along it: where the first run ends, and what its targets are.
use Rattle.std.specs.Prelude.{◌≡◌, refl, Bool, true, false, ◌&&◌, not, List, [], ◌∷◌, ◌++◌, ℕ, zero, suc, ◌-◌, ◌<◌, ◌≤◌, eqb}
use Rattle.std.proofs.Common.{sym, ap, ◌∙◌, arith, not-suc-le-zero, eqb-true, eq-eqb, ne_eqb}
use Rattle.std.proofs.lemmas.Bool.{eqb-false}
use Rattle.basis.specs.Members.{split, clash}
use Rattle.store.specs.declared.ConflictEdge.{ConflictEdge}
use Rattle.store.specs.declared.ConflictEdge.TheVariants as W
use Rattle.store.specs.declared.Edge.{Edge}
use Rattle.store.specs.Words.{requirement_code}
use Rattle.labels.specs.Runs.{Run, add_to, runs_of}

-- 1 + the requirement's number, 0 for a conflict
abbrev pub key_of : Edge → ℕ
key_of e = requirement_code e.weight

-- an edge at which the run with key x ends
unfoldable pub ends_run : ℕ → Edge → Bool
ends_run x e = not (eqb (key_of e) 0) && not (eqb (key_of e) x)

-- what an edge adds to the targets of a run that it does not end: nothing if it is a conflict
unfoldable pub target_by : ℕ → ℕ → List ℕ
target_by zero t = []
target_by (suc q) t = t ∷ []

unfoldable pub target_of : Edge → List ℕ
unfolding target_by
target_of e = target_by (key_of e) e.target

-- the targets of the first run, whose key is x
unfoldable pub targets_in : ℕ → List Edge → List ℕ
unfolding ends_run target_of
targets_in x [] = []
targets_in x (e ∷ es) = elim (ends_run x e) [ true ↦ [] | false ↦ target_of e ++ targets_in x es ]

-- the edges behind it
unfoldable pub behind_run : ℕ → List Edge → List Edge
unfolding ends_run
behind_run x [] = []
behind_run x (e ∷ es) = elim (ends_run x e) [ true ↦ e ∷ es | false ↦ behind_run x es ]

pub targets_end : (x : ℕ) (e : Edge) (es : List Edge) → ends_run x e ≡ true → targets_in x (e ∷ es) ≡ []
unfolding targets_in
targets_end x e es t = rw (t, targets_in)

pub targets_on : (x : ℕ) (e : Edge) (es : List Edge) → ends_run x e ≡ false → targets_in x (e ∷ es) ≡ target_of e ++ targets_in x es
unfolding targets_in
targets_on x e es t = rw (t, targets_in)

pub behind_end : (x : ℕ) (e : Edge) (es : List Edge) → ends_run x e ≡ true → behind_run x (e ∷ es) ≡ e ∷ es
unfolding behind_run
behind_end x e es t = rw (t, behind_run)

pub behind_on : (x : ℕ) (e : Edge) (es : List Edge) → ends_run x e ≡ false → behind_run x (e ∷ es) ≡ behind_run x es
unfolding behind_run
behind_on x e es t = rw (t, behind_run)

-- ---- the first run

abbrev pub run_of : ℕ → List ℕ → Run
run_of q ts = record { req = q; to = ts }

abbrev Joined : List Edge → Type 0
Joined es = (q n : ℕ) → add_to q n (runs_of es) ≡ run_of q (n ∷ targets_in (suc q) es) ∷ runs_of (behind_run (suc q) es)

ends_conflict : (x : ℕ) (e : Edge) → key_of e ≡ 0 → ends_run x e ≡ false
unfolding ends_run
ends_conflict x e h = rw (eq-eqb (key_of e) 0 h)

ends_own : (x : ℕ) (e : Edge) → key_of e ≡ x → ends_run x e ≡ false
unfolding ends_run
ends_own x e h = split (eqb (key_of e) 0) (λ t. rw t) (λ t. rw (t, eq-eqb (key_of e) x h))

ends_other : (x : ℕ) (e : Edge) → (key_of e ≡ 0 → ⊥) → (key_of e ≡ x → ⊥) → ends_run x e ≡ true
unfolding ends_run
ends_other x e h k = rw (ne_eqb (key_of e) 0 h, ne_eqb (key_of e) x k)

target_none : (e : Edge) → key_of e ≡ 0 → target_of e ≡ []
unfolding target_of target_by
target_none e h = rw h

target_one : (e : Edge) (q : ℕ) → key_of e ≡ suc q → target_of e ≡ e.target ∷ []
unfolding target_of target_by
target_one e q h = rw h

runs_conflict : (e : Edge) (es : List Edge) → key_of e ≡ 0 → runs_of (e ∷ es) ≡ runs_of es
runs_conflict e es h = by e.weight refl
  where
    by : (w : ConflictEdge) → e.weight ≡ w → runs_of (e ∷ es) ≡ runs_of es
    by (W.Conflict c) q = rw (q, runs_of)
    by (W.Requires r) q = let z : suc r ≡ 0 = sym (ap requirement_code q) ∙ h in clash (omega arith)

runs_requires : (e : Edge) (es : List Edge) (r : ℕ) → key_of e ≡ suc r → runs_of (e ∷ es) ≡ add_to r e.target (runs_of es)
runs_requires e es r h = by e.weight refl
  where
    by : (w : ConflictEdge) → e.weight ≡ w → runs_of (e ∷ es) ≡ add_to r e.target (runs_of es)
    by (W.Conflict c) q = let z : 0 ≡ suc r = sym (ap requirement_code q) ∙ h in clash (omega arith)
    by (W.Requires s) q = let z : suc s ≡ suc r = sym (ap requirement_code q) ∙ h in let y : s ≡ r = omega arith in rw (q, runs_of, y)

key_cases : {X : Type 0} (e : Edge) → (key_of e ≡ 0 → X) → ((r : ℕ) → key_of e ≡ suc r → X) → X
key_cases {X = X} e f g = by (key_of e) refl
  where
    by : (k : ℕ) → key_of e ≡ k → X
    by zero h = f h
    by (suc r) h = g r h

join : (es : List Edge) → Joined es
unfolding targets_in behind_run
join [] q n = refl
join (e ∷ es) q n =
    key_cases e
    (λ h. rw (
      runs_conflict e es h,
      targets_on (suc q) e es (ends_conflict (suc q) e h),
      behind_on (suc q) e es (ends_conflict (suc q) e h),
      target_none e h,
    ) (join es q n))
    (λ r h. split (eqb q r)
    (λ t. let z : r ≡ q = sym (eqb-true q r t) in
    let k : key_of e ≡ suc q = h ∙ ap suc z in
    ap (add_to q n) (runs_requires e es q k ∙ join es q e.target)
    ∙ rw (eq-eqb q q refl, add_to)
    (rw (targets_on (suc q) e es (ends_own (suc q) e k), behind_on (suc q) e es (ends_own (suc q) e k), target_one e q k) refl))
    (λ t. let d : ends_run (suc q) e ≡ true = ends_other (suc q) e (λ y. omega arith) (λ y. eqb-false q r t (omega arith)) in
    ap (add_to q n) (runs_requires e es r h ∙ join es r e.target)
    ∙ rw (t, add_to)
    (rw (targets_end (suc q) e es d, behind_end (suc q) e es d) (ap (λ (rs : List Run). run_of q (n ∷ []) ∷ rs) (sym (runs_requires e es r h
    ∙ join es r e.target))))))

-- an edge with a key opens a run
pub runs_cut : (x : ℕ) (e : Edge) (es : List Edge) → x ≡ key_of e → 0 < x
    → runs_of (e ∷ es) ≡ run_of (x - 1) (targets_in x (e ∷ es)) ∷ runs_of (behind_run x (e ∷ es))
runs_cut zero e es h l = absurd (not-suc-le-zero l)
runs_cut (suc q) e es h l =
    let k : key_of e ≡ suc q = sym h in
    let z : suc q - 1 ≡ q = omega arith in
    rw (z, targets_on (suc q) e es (ends_own (suc q) e k), behind_on (suc q) e es (ends_own (suc q) e k), target_one e q k)
    (runs_requires e es q k ∙ join es q e.target)

-- a conflict belongs to none
pub runs_skip : (x : ℕ) (e : Edge) (es : List Edge) → x ≡ key_of e → x ≤ 0 → runs_of (e ∷ es) ≡ runs_of es
runs_skip x e es h l = runs_conflict e es (sym h ∙ omega arith)
