-- One pass along the outgoing edges tells both what `every_run` and what `some_run` do: the scan of specs/Scan.antt and the runs.
use Rattle.std.proofs.Math.Path.{◌≡◌, refl, sym}
use Rattle.std.proofs.Common.{◌∙◌}
use Rattle.std.specs.Prelude.{Bool, true, cond, ◌&&◌, ◌||◌}
use Rattle.std.proofs.Math.Bool.{false, not}
use mathlib.Core.List.{List, [], ◌∷◌}
use Prim.Native.Nat.{ℕ, suc}
use Rattle.std.proofs.Math.Dec.{eqb}
use borrow.Author.Tests.{eqb-true, eqb-false, eq-eqb, ne_eqb}
use Rattle.basis.specs.Lists.{any, all}
use Rattle.basis.specs.Members.{split}
use Rattle.store.specs.declared.ConflictEdge.{ConflictEdge}
use Rattle.store.specs.declared.ConflictEdge.TheVariants as W
use Rattle.store.specs.declared.Edge.{Edge}
use Rattle.labels.specs.declared.passes.Scan.{Scan}
use Rattle.labels.specs.declared.passes.Verdict.{Verdict}
use Rattle.labels.specs.Labels.{conflicts}
use Rattle.labels.specs.Runs.{Run, add_to, runs_of, every_run, some_run}
use Rattle.labels.specs.Scan.{scan_start, step_of, verdict}

-- ---- the same for one test

record Open : Type 0 where
  key : ℕ
  hit : Bool
  all : Bool

join : Bool → ℕ → Bool → Open → Open
join true k b o = record { key = k; hit = o.hit; all = o.all && b }
join false k b o = record { key = k; hit = o.hit || o.all; all = b }

along : (ℕ → Bool) → Open → List Edge → Bool
along p o [] = o.hit || o.all
along p o (e ∷ es) = elim e.weight [ W.Requires q ↦ along p (join (eqb o.key (suc q)) (suc q) (p e.target) o) es | W.Conflict c ↦ along p o es ]

or_assoc : (a b c : Bool) → (a || b) || c ≡ a || (b || c)
or_assoc true b c = refl
or_assoc false b c = refl

and_assoc : (a b c : Bool) → a && (b && c) ≡ (a && b) && c
and_assoc true b c = refl
and_assoc false b c = refl

or-false : (a : Bool) → a || false ≡ a
or-false true = refl
or-false false = refl

and_true : (a : Bool) → a && true ≡ a
and_true true = refl
and_true false = refl

module _ (p : ℕ → Bool) where
  -- what the runs give if a run with key k is open before them, all of whose targets passed if b
  opened : ℕ → Bool → List Run → Bool
  opened k b [] = b
  opened k b (r ∷ rs) = cond (eqb k (suc r.req)) ((b && all p r.to) || some_run p rs) (b || (all p r.to || some_run p rs))

  some_cons : (r : Run) (rs : List Run) → some_run p (r ∷ rs) ≡ all p r.to || some_run p rs
  some_cons r rs = split (all p r.to) (λ t. rw (t, any)) (λ t. rw (t, any))

  all_cons : (d : ℕ) (ds : List ℕ) → all p (d ∷ ds) ≡ p d && all p ds
  all_cons d ds = split (p d) (λ t. rw (t, all)) (λ t. rw (t, all))

  one_more : (k : ℕ) (b : Bool) (q d : ℕ) (R : List Run) → opened k b (add_to q d R) ≡ cond (eqb k (suc q)) (opened k (b && p d) R) (b || opened (suc q) (p d) R)
  unfolding opened
  one_more k b q d [] = rw all_cons (split (eqb k (suc q)) (λ t. rw (t, or-false, and_true)) (λ t. rw (t, or-false, and_true)))
  one_more k b q d (r ∷ rs) =
      split (eqb q r.req)
      (λ u. let z : q ≡ r.req = eqb-true q r.req u in
      rw (u, add_to, all_cons, ← z, eq-eqb (suc q) (suc q) refl)
      (split (eqb k (suc q)) (λ t. rw (t, and_assoc)) (λ t. rw t)))
      (λ u. let d₁ : suc q ≡ suc r.req → ⊥ = λ e. eqb-false q r.req u (same e) in
      rw (u, add_to, all_cons, some_cons, ne_eqb (suc q) (suc r.req) d₁)
      (split (eqb k (suc q))
      (λ t. let z : eqb k (suc r.req) ≡ false = rw (eqb-true k (suc q) t) (ne_eqb (suc q) (suc r.req) d₁) in rw (t, z, and_true))
      (λ t. rw (t, and_true))))
    where
      same : suc q ≡ suc r.req → q ≡ r.req
      same e = cc

  along_is : (k : ℕ) (h b : Bool) (es : List Edge) → along p (record { key = k; hit = h; all = b }) es ≡ h || opened k b (runs_of es)
  unfolding along opened join
  along_is k h b [] = refl
  along_is k h b (e ∷ es) = go (λ k h b. along_is k h b es) e.weight refl
    where
      go : ((k : ℕ) (h b : Bool) → along p (record { key = k; hit = h; all = b }) es ≡ h || opened k b (runs_of es)) → (w : ConflictEdge) → e.weight ≡ w
          → along p (record { key = k; hit = h; all = b }) (e ∷ es) ≡ h || opened k b (runs_of (e ∷ es))
      go on (W.Conflict c) u = rw (u, along, runs_of) (on k h b)
      go on (W.Requires q) u =
          rw (u, along, runs_of, one_more k b q e.target (runs_of es))
          (split (eqb k (suc q))
          (λ t. let z : suc q ≡ k = sym (eqb-true k (suc q) t) in rw (t, z) (on k h (b && p e.target)))
          (λ t. rw t (on (suc q) (h || b) (p e.target) ∙ or_assoc h b (opened (suc q) (p e.target) (runs_of es)))))

  opened_none : (rs : List Run) → opened 0 false rs ≡ some_run p rs
  unfolding opened
  opened_none [] = refl
  opened_none (r ∷ rs) = rw (ne_eqb 0 (suc r.req) (λ e. clash e)) (sym (some_cons r rs))
    where
      clash : {n : ℕ} → 0 ≡ suc n → ⊥
      clash e = let z : ◌≡◌ {A = ℕ} 0 1 = cc in zero_one z
        where
          zero_one : ◌≡◌ {A = ℕ} 0 1 → ⊥
          zero_one e = eqb-false 0 1 refl e

  along_start : (es : List Edge) → along p (record { key = 0; hit = false; all = false }) es ≡ some_run p (runs_of es)
  along_start es = along_is 0 false false es ∙ opened_none (runs_of es)

-- ---- "in every run one" is "in no run none"

any_not : (p : ℕ → Bool) (l : List ℕ) → any p l ≡ not (all (λ t. not (p t)) l)
any_not p [] = refl
any_not p (x ∷ l) = split (p x) (λ t. rw (t, any, all)) (λ t. rw (t, any, all) (any_not p l))

pub every_not : (p : ℕ → Bool) (rs : List Run) → every_run p rs ≡ not (some_run (λ t. not (p t)) rs)
every_not p [] = refl
every_not p (r ∷ rs) =
    let z : any p r.to ≡ not (all (λ t. not (p t)) r.to) = any_not p r.to in
    split (all (λ t. not (p t)) r.to) (λ t. rw (z, t, any, all)) (λ t. rw (z, t, any, all) (every_not p rs))

-- a run is never empty
along_none : (p : ℕ → Bool) → ((t : ℕ) → p t ≡ false) → (k : ℕ) (es : List Edge) → along p (record { key = k; hit = false; all = false }) es ≡ false
unfolding along join
along_none p f k [] = refl
along_none p f k (e ∷ es) = go (λ k. along_none p f k es) e.weight refl
  where
    go : ((k : ℕ) → along p (record { key = k; hit = false; all = false }) es ≡ false) → (w : ConflictEdge) → e.weight ≡ w
        → along p (record { key = k; hit = false; all = false }) (e ∷ es) ≡ false
    go on (W.Conflict c) u = rw (u, along) (on k)
    go on (W.Requires q) u = rw (u, along, f e.target) (split (eqb k (suc q)) (λ t. rw t (on (suc q))) (λ t. rw t (on (suc q))))

pub some_none : (p : ℕ → Bool) → ((t : ℕ) → p t ≡ false) → (es : List Edge) → some_run p (runs_of es) ≡ false
some_none p f es = sym (along_start p es) ∙ along_none p f 0 es

-- ---- both at once

module _ (p q : ℕ → Bool) where
  lost_part : Scan → Open
  lost_part o = record { key = o.key; hit = o.lost; all = o.bare }

  hit_part : Scan → Open
  hit_part o = record { key = o.key; hit = o.hit; all = o.all }

  parts : Scan → List Edge → Verdict
  parts o es =
      record { every = not (any conflicts es) && not (along (λ t. not (p t)) (lost_part o) es); some = not (any conflicts es) && along q (hit_part o) es }

  verdict_parts : (o : Scan) (es : List Edge) → verdict p q o es ≡ parts o es
  unfolding verdict along join lost_part hit_part parts step_of
  verdict_parts o [] = refl
  verdict_parts o (e ∷ es) = go (λ o. verdict_parts o es) e.weight refl
    where
      go : ((o : Scan) → verdict p q o es ≡ parts o es) → (w : ConflictEdge) → e.weight ≡ w → verdict p q o (e ∷ es) ≡ parts o (e ∷ es)
      go on (W.Conflict c) u = rw (u, any, verdict)
      go on (W.Requires r) u =
          rw (u, any, along, ne_eqb (suc r) 0 (λ z. eqb-false 1 0 refl (never z)), verdict, u)
          (on (step_of o (suc r) (p e.target) (q e.target)) ∙ split (eqb o.key (suc r)) (λ t. rw t) (λ t. rw t))
        where
          never : suc r ≡ 0 → ◌≡◌ {A = ℕ} 1 0
          never z = cc

  pub verdict_is : (es : List Edge) → verdict p q scan_start es ≡ record {
    every = not (any conflicts es) && every_run p (runs_of es);
    some = not (any conflicts es) && some_run q (runs_of es);
  }
  unfolding parts lost_part hit_part
  verdict_is es = verdict_parts scan_start es ∙ rw (along_start (λ t. not (p t)) es, along_start q es, every_not p (runs_of es))
