-- Clauses 23 and 24: partners whose triples were made before add nothing, and are passed over. Each law is one way out of a function.
use Rattle.std.specs.Prelude.{◌≡◌, refl, Bool, true, ℕ, ◌-◌, ◌<◌, ◌≤◌, length, take, eqb, Result, Ok, Err, Option, Some, None}
use Rattle.std.proofs.Math.Path.{sym, ap}
use Rattle.std.proofs.Common.{◌∙◌, arith}
use Rattle.std.proofs.Math.Bool.{false, not}
use mathlib.Core.List.{List}
use Rattle.basis.specs.Lists.{any}
use Rattle.basis.specs.Members.{clash}
use Rattle.records.specs.Tables.{Tables}
use Rattle.views.specs.Walks.{next_partner, aux_at, aux_from, aux_less}
use Rattle.store.specs.declared.ConflictNode.{ConflictNode}
use Rattle.linking.specs.Links.{party_of, as_list}
use Rattle.expansion.specs.declared.Side.{Side}
use Rattle.expansion.specs.declared.Side.TheVariants.{Parent, Candidate}
use Rattle.expansion.specs.declared.Work.{Work}
use Rattle.store.specs.declared.Full.{Full}
use Rattle.expansion.specs.Triple.{Triple, triple, same_triple}
use Rattle.expansion.specs.Hashed.{TripleWord, Triples, made_in, made_before}
use Rattle.expansion.specs.Expand.{Build, triple_by, triples_of}
use Rattle.expansion.specs.Working.{StepSoFar, on_to, once_in, once_all_in}
use Rattle.expansion.specs.State.{build_in, Holds, Expanded}
use Rattle.expansion.specs.Pairing.{ExpandedBy, Pending, triples_at, pairs_from, and_then, once_append, once_one, pairs_step, pairs_next}

-- ---- what is spoken of

-- party r of the other side is a node whose triple with node n is not among ms
unfoldable pub new_by : Side → ConflictNode → ℕ → List Triple → Option ConflictNode → Bool
new_by side n v ms None = false
new_by side n v ms (Some p) = not (any (same_triple (triple_by side n v p)) ms)

-- where the triples ms were made, the partners from the stored value y on add what those from x on add
pub record Skipped (T : Tables) (side : Side) (n : ConflictNode) (v : ℕ) (ms : List Triple) (x y : ℕ) : Type 0 where
  pub same : (b : Build) → b.made ≡ ms → once_all_in (pairs_from T side n v y) b ≡ once_all_in (pairs_from T side n v x) b
  pub fewer : length (aux_from T y) ≤ length (aux_from T x)

-- ---- the word of a triple, by the side on which the clause stands

pub word_parent : (side : Side) (n p : ConflictNode) (v t : ℕ) → side ≡ Parent → TripleWord (triple n p v) t
    → TripleWord (triple_by side n v p) t
word_parent side n p v t e W = rw e W

pub word_candidate : (side : Side) (n p : ConflictNode) (v t : ℕ) → side ≡ Candidate → TripleWord (triple p n v) t
    → TripleWord (triple_by side n v p) t
word_candidate side n p v t e W = rw e W

pub ruleset words_by = (word_parent, word_candidate)

-- ---- whether variable c adds a triple: r is the party that it names, t the triple's word, b whether that is there

module _ (T : Tables) (side : Side) (n : ConflictNode) (v : ℕ) (tr w : List ℕ) (m c : ℕ) (r : Option ConflictNode) (q : r ≡ party_of T c) where
  pub new_neither : r ≡ None → false ≡ new_by side n v (made_in tr m) (party_of T c)
  unfolding new_by
  new_neither e = ap (new_by side n v (made_in tr m)) (sym e ∙ q)

  module _ (p : ConflictNode) (t : ℕ) (b : Bool) (e : r ≡ Some p) (W : TripleWord (triple_by side n v p) t) (H : Triples tr w m)
      (f : b ≡ any (eqb t) (take m tr)) where
    pub new_told : not b ≡ new_by side n v (made_in tr m) (party_of T c)
    unfolding new_by
    new_told = ap not (f ∙ made_before tr w m (triple_by side n v p) t H W) ∙ ap (new_by side n v (made_in tr m)) (sym e ∙ q)

    pub new_old : b ≡ true → false ≡ new_by side n v (made_in tr m) (party_of T c)
    new_old h = ap not (sym h) ∙ new_told

    pub new_node : b ≡ false → true ≡ new_by side n v (made_in tr m) (party_of T c)
    new_node h = ap not (sym h) ∙ new_told

pub ruleset news = (new_told, new_neither, new_old, new_node)

-- ---- partners passed over, one after another

not-false : (a : Bool) → not a ≡ false → a ≡ true
not-false true h = refl
not-false false h = clash cc

-- what is not new adds nothing
adds_none : (side : Side) (n : ConflictNode) (v : ℕ) (r : Option ConflictNode) (b : Build) → new_by side n v b.made r ≡ false
    → once_all_in (triples_of side n v (as_list r)) b ≡ on_to b
unfolding once_all_in triples_of new_by once_in
adds_none side n v None b h = refl
adds_none side n v (Some p) b h =
    once_one (triple_by side n v p) b ∙ rw (not-false (any (same_triple (triple_by side n v p)) b.made) h, once_in)

module _ (T : Tables) (side : Side) (n : ConflictNode) (v : ℕ) (ms : List Triple) (x : ℕ) where
  pub skip_start : Skipped T side n v ms x x
  skip_start = record { same = λ b e. refl; fewer = omega arith }

  -- y is the stored value at hand, c the partner there, b whether it is new
  pub skip_next : (y c z : ℕ) (b : Bool) → Skipped T side n v ms x y → 0 < y → c ≡ aux_at T (y - 1) → b ≡ new_by side n v ms (party_of T c)
      → b ≡ false → z ≡ next_partner T (y - 1) → Skipped T side n v ms x z
  unfolding triples_at
  skip_next y c z b S h p q f s = record { same = kept; fewer = omega (arith, S.fewer, aux_less T y z h s) }
    where
      old : (d : Build) → d.made ≡ ms → new_by side n v d.made (party_of T (aux_at T (y - 1))) ≡ false
      old d e =
          ap (λ (l : List Triple). new_by side n v l (party_of T (aux_at T (y - 1)))) e
          ∙ ap (λ (u : ℕ). new_by side n v ms (party_of T u)) (sym p) ∙ sym q ∙ f

      kept : (d : Build) → d.made ≡ ms → once_all_in (pairs_from T side n v z) d ≡ once_all_in (pairs_from T side n v x) d
      kept d e =
          ap (λ (u : StepSoFar). and_then u (pairs_from T side n v z)) (sym (adds_none side n v (party_of T (aux_at T (y - 1))) d (old d e)))
          ∙ sym (once_append (triples_at T side n v (y - 1)) (pairs_from T side n v z) d)
          ∙ ap (λ (l : List Triple). once_all_in l d) (sym (pairs_step T side n v y z h s))
          ∙ S.same d e

pub ruleset skips = (skip_start, skip_next)

-- ---- what is left after it

module _ (T : Tables) (side : Side) (n : ConflictNode) (v : ℕ) where
  pending_skip : (X : StepSoFar) (g tr w : List ℕ) (k : Work) (x y : ℕ) → Pending X (pairs_from T side n v x) g tr w k
      → Skipped T side n v (made_in tr k.triples) x y → Pending X (pairs_from T side n v y) g tr w k
  pending_skip X g tr w k x y L S = record { left = S.same (build_in g tr w k) refl ∙ L.left; holds = L.holds }

  -- at the beginning
  pub skipped_start : (g tr w : List ℕ) (k : Work) (x y : ℕ) → Skipped T side n v (made_in tr k.triples) x y → Holds g tr w k
      → Pending (once_all_in (pairs_from T side n v x) (build_in g tr w k)) (pairs_from T side n v y) g tr w k
  skipped_start g tr w k x y S H =
      pending_skip (once_all_in (pairs_from T side n v x) (build_in g tr w k)) g tr w k x y (record { left = refl; holds = H }) S

  -- after the partner of the stored value x: d is what making its triple gave, f the next one
  pub skipped_next : (X : StepSoFar) (g tr w g' tr' w' : List ℕ) (k : Work) (x : ℕ) (d : Result Work Full) (f y : ℕ) (m : Work)
      → Pending X (pairs_from T side n v x) g tr w k → Skipped T side n v (made_in tr' m.triples) f y → 0 < x
      → ExpandedBy (triples_at T side n v (x - 1)) g tr w k g' tr' w' d → d ≡ Ok m → f ≡ next_partner T (x - 1)
      → Pending X (pairs_from T side n v y) g' tr' w' m
  skipped_next X g tr w g' tr' w' k x d f y m L S h R o z =
      pending_skip X g' tr' w' m f y (pairs_next T side n v X g tr w g' tr' w' k x d f m L h R o z) S

  pub skipped_less : (ms : List Triple) (x f y : ℕ) → Skipped T side n v ms f y → 0 < x → f ≡ next_partner T (x - 1)
      → length (aux_from T y) < length (aux_from T x)
  skipped_less ms x f y S h z = omega (arith, S.fewer, aux_less T x f h z)

-- the promise of the triples where building goes on
pub triples_on : (X : StepSoFar) (g tr w : List ℕ) (r : Result Work Full) (m : Work) → Expanded X g tr w r → r ≡ Ok m → Triples tr w m.triples
triples_on X g tr w r m R e = let H : Holds g tr w m = rw e at R.holds in H.triples
