-- What document 01 asks of the labels: "no node has both labels; where the graph has no cycle, 'already' may be dropped from both rules".
use Rattle.std.specs.Prelude.{◌≡◌, ◌⊎◌, Bool, false, cond, ◌&&◌, ◌||◌, not, ℕ, zero, suc, ◌<◌, ◌≤◌, length, get_or, replicate, eqb}
use Rattle.std.proofs.Math.Path.{refl}
use Rattle.std.proofs.Common.{sym, ◌∙◌, inr, eqb-true, eq-eqb, ne_eqb}
use Rattle.std.proofs.Math.Logic.{inl}
use Rattle.std.proofs.Math.Bool.{true, false≢true}
use mathlib.Core.List.{List, [], ◌∷◌, map, reverse, reverse_aux}
use Rattle.std.proofs.lemmas.List.{length-replicate}
use Rattle.basis.specs.Lists.{any, all, has, snoc}
use Rattle.basis.specs.Members.{In, split, either, no_both, in_append, in_reverse, in_filter, any_some, all_at, and_true}
use Rattle.store.specs.declared.Edge.{Edge}
use Rattle.store.specs.Graph.{Graph, out, into, node_at, is_unresolved}
use Rattle.labels.specs.Walks.{Inner}
use Rattle.labels.specs.Ordered.{Acyclic, Ordered, none, more, postorder_ordered}
use Rattle.labels.specs.Runs.{Run, runs_of, every_run, some_run}
use Rattle.labels.specs.Labels.{targets, order_of, conflicts, excludes, can_install, is_lacking, passing, installables, missings, installable, missing}
use Rattle.labels.specs.Labels.{has_unresolved}

-- ---- small laws

not_yes : (a : Bool) → not a ≡ true → a ≡ false
not_yes true e = absurd (false≢true e)
not_yes false e = refl

has_cons : (t n : ℕ) (l : List ℕ) → has t (n ∷ l) ≡ true → (t ≡ n) ⊎ (has t l ≡ true)
has_cons t n l e = split (eqb t n) (λ q. inl (eqb-true t n q)) (λ q. inr (rw (q, any) at e))

has_more : (t n : ℕ) (l : List ℕ) → has t l ≡ true → has t (n ∷ l) ≡ true
has_more t n l e = split (eqb t n) (λ q. rw (q, any)) (λ q. rw (q, any) e)

pub has_own : (n : ℕ) (l : List ℕ) → has n (n ∷ l) ≡ true
has_own n l = rw (eq-eqb n n refl, any)

pub has_other : (t n : ℕ) (l : List ℕ) → (t ≡ n → ⊥) → has t (n ∷ l) ≡ has t l
has_other t n l d = rw (ne_eqb t n d, any)

module _ {A : Type 0} (p q : A → Bool) where
  pub any_same : (l : List A) → ((x : A) → In x l → p x ≡ q x) → any p l ≡ any q l
  any_same [] h = refl
  any_same (x ∷ l) h =
      let r : any p l ≡ any q l = any_same l (λ y i. h y (inr i)) in
      let e : p x ≡ q x = h x (inl refl) in
      split (p x) (λ t. rw (t, (sym e ∙ t), any)) (λ t. rw (t, (sym e ∙ t), any) r)

  pub all_same : (l : List A) → ((x : A) → In x l → p x ≡ q x) → all p l ≡ all q l
  all_same [] h = refl
  all_same (x ∷ l) h =
      let r : all p l ≡ all q l = all_same l (λ y i. h y (inr i)) in
      let e : p x ≡ q x = h x (inl refl) in
      split (p x) (λ t. rw (t, (sym e ∙ t), all) r) (λ t. rw (t, (sym e ∙ t), all))

  all_more : (l : List A) → ((x : A) → p x ≡ true → q x ≡ true) → all p l ≡ true → all q l ≡ true
  all_more [] h e = refl
  all_more (x ∷ l) h e =
      split (p x) (λ t. rw (h x t, all) (all_more l h (rw (t, all) at e))) (λ t. absurd (false≢true (rw (t, all) at e)))

  any_more : (l : List A) → ((x : A) → p x ≡ true → q x ≡ true) → any p l ≡ true → any q l ≡ true
  any_more [] h e = absurd (false≢true e)
  any_more (x ∷ l) h e =
      split (q x) (λ t. rw (t, any)) (λ t. rw (t, any)
      (split (p x) (λ u. no_both (q x) (h x u) t) (λ u. any_more l h (rw (u, any) at e))))

-- ---- runs and targets

every_more : (p q : ℕ → Bool) (rs : List Run) → ((t : ℕ) → p t ≡ true → q t ≡ true) → every_run p rs ≡ true → every_run q rs ≡ true
every_more p q rs h e = all_more (λ (r : Run). any p r.to) (λ (r : Run). any q r.to) rs (λ r k. any_more p q r.to h k) e

some_more : (p q : ℕ → Bool) (rs : List Run) → ((t : ℕ) → p t ≡ true → q t ≡ true) → some_run p rs ≡ true → some_run q rs ≡ true
some_more p q rs h e = any_more (λ (r : Run). all p r.to) (λ (r : Run). all q r.to) rs (λ r k. all_more p q r.to h k) e

-- a run inside the one set, in which every run meets the other
meets : (p q : ℕ → Bool) (rs : List Run) → every_run p rs ≡ true → some_run q rs ≡ true → (t : ℕ) × (p t ≡ true) × (q t ≡ true)
meets p q rs e f =
    let r = any_some (λ (r : Run). all q r.to) rs f in
    let t = any_some p r.0.to (all_at (λ (r : Run). any p r.to) r.0 rs e r.1) in
    (t.0, t.2, all_at q t.0 r.0.to r.2 t.1)

module _ {A : Type 0} where
  back_reverse : (x : A) (l acc : List A) → In x l ⊎ In x acc → In x (reverse_aux l acc)
  back_reverse x [] acc i = either i (λ z. absurd z) (λ j. j)
  back_reverse x (y ∷ l) acc i =
      back_reverse x l (y ∷ acc) (either i (λ j. either j (λ e. inr (inl e)) (λ k. inl k)) (λ j. inr (inr j)))

  pub reverse_in : (x : A) (l : List A) → In x l → In x (reverse l)
  reverse_in x l i = back_reverse x l [] (inl i)

pub in_map : {A B : Type 0} (f : A → B) (l : List A) (y : B) → In y (map f l) → (x : A) × In x l × (y ≡ f x)
in_map f [] y i = absurd i
in_map f (x ∷ l) y (inl e) = (x, inl refl, e)
in_map f (x ∷ l) y (inr i) = let r = in_map f l y i in (r.0, inr r.1, r.2)

-- ---- no node has both labels

module _ (G : Graph) where
  -- each node of I is resolved and has a node of I in every run; each of M is unresolved or has a run inside M; no node is in both
  record Apart (I M : List ℕ) : Type 0 where
    upright : (n : ℕ) → has n I ≡ true → (is_unresolved (node_at G n) ≡ false) × (every_run (λ t. has t I) (runs_of (out G n)) ≡ true)
    hanging : (n : ℕ) → has n M ≡ true → (is_unresolved (node_at G n) ≡ true) ⊎ (some_run (λ t. has t M) (runs_of (out G n)) ≡ true)
    apart : (n : ℕ) → has n I ≡ true → has n M ≡ true → ⊥

  module _ (I M : List ℕ) (a : Apart I M) (n : ℕ) where
    never : every_run (λ t. has t I) (runs_of (out G n)) ≡ true → some_run (λ t. has t M) (runs_of (out G n)) ≡ true → ⊥
    never e f = let r = meets (λ t. has t I) (λ t. has t M) (runs_of (out G n)) e f in a.apart r.0 r.1 r.2

    installs : can_install G (λ t. has t I) n ≡ true → (is_unresolved (node_at G n) ≡ false) × (every_run (λ t. has t I) (runs_of (out G n)) ≡ true)
    unfolding can_install
    installs e =
        let x = and_true (not (is_unresolved (node_at G n))) (not (any excludes (into G n))
        && (not (any conflicts (out G n)) && every_run (λ t. has t I) (runs_of (out G n)))) e in
        let y = and_true (not (any excludes (into G n))) (not (any conflicts (out G n)) && every_run (λ t. has t I) (runs_of (out G n))) x.1 in
        (not_yes (is_unresolved (node_at G n)) x.0, (and_true (not (any conflicts (out G n))) (every_run (λ t. has t I) (runs_of (out G n))) y.1).1)

    lacks : is_lacking G (λ t. has t M) n ≡ true → some_run (λ t. has t M) (runs_of (out G n)) ≡ true
    unfolding is_lacking
    lacks e = (and_true (not (any conflicts (out G n))) (some_run (λ t. has t M) (runs_of (out G n))) e).1

    one_more : can_install G (λ t. has t I) n ≡ true → Apart (n ∷ I) M
    one_more e =
        let i = installs e in
        record {
          upright = λ m h. either (has_cons m n I h) (λ q. rw q (i.0, wider n i.1)) (λ k. let u = a.upright m k in (u.0, wider m u.1));
          hanging = a.hanging;
          apart = λ m h k. either (has_cons m n I h)
              (λ q. either (a.hanging n (rw q at k)) (λ u. no_both (is_unresolved (node_at G n)) u i.0) (λ s. never i.1 s))
              (λ j. a.apart m j k);
        }
      where
        wider : (m : ℕ) → every_run (λ t. has t I) (runs_of (out G m)) ≡ true → every_run (λ t. has t (n ∷ I)) (runs_of (out G m)) ≡ true
        wider m e = every_more (λ t. has t I) (λ t. has t (n ∷ I)) (runs_of (out G m)) (λ t k. has_more t n I k) e

    one_less : is_lacking G (λ t. has t M) n ≡ true → Apart I (n ∷ M)
    one_less e =
        record {
          upright = a.upright;
          hanging = λ m h. either (has_cons m n M h) (λ q. rw q (inr (wider n (lacks e)))) (λ k. either (a.hanging m k) (λ u. inl u) (λ s. inr (wider m s)));
          apart = λ m h k. either (has_cons m n M k) (λ q. never (a.upright n (rw q at h)).1 (lacks e)) (λ j. a.apart m h j);
        }
      where
        wider : (m : ℕ) → some_run (λ t. has t M) (runs_of (out G m)) ≡ true → some_run (λ t. has t (n ∷ M)) (runs_of (out G m)) ≡ true
        wider m e = some_more (λ t. has t M) (λ t. has t (n ∷ M)) (runs_of (out G m)) (λ t k. has_more t n M k) e

    neither : can_install G (λ t. has t I) n ≡ true → is_lacking G (λ t. has t M) n ≡ true → ⊥
    neither e f = never (installs e).1 (lacks f)

  along : (order I M : List ℕ) → Apart I M → Apart (passing (can_install G) order I) (passing (is_lacking G) order M)
  unfolding passing
  along [] I M a = a
  along (n ∷ ns) I M a =
      split (can_install G (λ t. has t I) n)
      (λ e. split (is_lacking G (λ t. has t M) n)
      (λ f. absurd (neither I M a n e f))
      (λ f. rw (e, f, passing) (along ns (n ∷ I) M (one_more I M a n e))))
      (λ e. split (is_lacking G (λ t. has t M) n)
      (λ f. rw (e, f, passing) (along ns I (n ∷ M) (one_less I M a n f)))
      (λ f. rw (e, f, passing) (along ns I M a)))

  -- "no node has both labels"
  pub not_both : (n : ℕ) → installable G n ≡ true → missing G n ≡ true → ⊥
  unfolding installables missings
  not_both n i m =
      split (has_unresolved G)
      (λ u. (along (order_of G) [] (1 ∷ []) (start u)).apart n i (rw (u, cond) at m))
      (λ u. false≢true (rw (u, cond) at m))
    where
      start : has_unresolved G ≡ true → Apart [] (1 ∷ [])
      start u =
          record {
            upright = λ n h. absurd (false≢true h);
            hanging = λ n h. either (has_cons n 1 [] h) (λ q. inl (rw q u)) (λ k. absurd (false≢true k));
            apart = λ n h k. false≢true h;
          }

-- ---- "already" may be dropped

-- the promise: a graph has its root, at most 128 nodes, and its edges lead to nodes
pub record Sound (G : Graph) : Type 0 where
  pub some : 0 < length G.nodes
  pub most : length G.nodes ≤ 128
  pub ends : (e : Edge) → In e G.edges → e.target < length G.nodes

pub inner : (G : Graph) → Sound G → Inner (targets G) (length G.nodes)
unfolding targets out
inner G s = record { some = s.some; each = λ n h t i. inside n t i }
  where
    inside : (n t : ℕ) → In t (map (λ e. e.target) (reverse (out G n))) → t < length G.nodes
    inside n t i =
        let r = in_map (λ (e : Edge). e.target) (reverse (out G n)) t i in
        let f = in_filter (λ (e : Edge). eqb e.source n) r.0 (reverse G.edges) (in_reverse r.0 (out G n) r.1) in
        rw r.2 (s.ends r.0 (in_reverse r.0 G.edges f.1))

pub blank : (N t : ℕ) → ◌≡◌ {A = ℕ} (get_or (replicate N 0) t 0) 0
blank zero t = refl
blank (suc N) zero = refl
blank (suc N) (suc t) = blank N t

pub order_ordered : (G : Graph) → Sound G → Ordered (targets G) (Acyclic (targets G)) (order_of G)
unfolding order_of
order_ordered G s = postorder_ordered (targets G) (length G.nodes) (inner G s) (replicate 128 0) (rw length-replicate s.most) (blank 128)

-- a rule that looks at the targets only, along an order in which they come first
module _ (to : ℕ → List ℕ) (rule : (ℕ → Bool) → ℕ → Bool) (local : (n : ℕ) (p q : ℕ → Bool) → ((t : ℕ) → In t (to n) → p t ≡ q t) → rule p n ≡ rule q n) where
  abbrev plus : Bool → ℕ → List ℕ → List ℕ
  plus true n l = n ∷ l
  plus false n l = l

  passing_last : (l : List ℕ) (n : ℕ) (yet : List ℕ) → passing rule (snoc l n) yet ≡ plus (rule (λ t. has t (passing rule l yet)) n) n (passing rule l yet)
  unfolding passing
  passing_last [] n yet = split (rule (λ t. has t yet) n) (λ e. rw (e, passing)) (λ e. rw (e, passing))
  passing_last (m ∷ l) n yet =
      split (rule (λ t. has t yet) m) (λ e. rw (e, passing) (passing_last l n (m ∷ yet))) (λ e. rw (e, passing) (passing_last l n yet))

  outside : (l : List ℕ) (n : ℕ) (yet : List ℕ) → (In n l → ⊥) → has n (passing rule l yet) ≡ has n yet
  unfolding passing
  outside [] n yet f = refl
  outside (m ∷ l) n yet f =
      split (rule (λ t. has t yet) m)
      (λ e. rw (e, passing) (outside l n (m ∷ yet) (λ i. f (inr i)) ∙ has_other n m yet (λ q. f (inl q))))
      (λ e. rw (e, passing) (outside l n yet (λ i. f (inr i))))

  plus_other : (b : Bool) (n t : ℕ) (l : List ℕ) → (t ≡ n → ⊥) → has t (plus b n l) ≡ has t l
  plus_other true n t l d = has_other t n l d
  plus_other false n t l d = refl

  plus_own : (b c : Bool) (n : ℕ) (l : List ℕ) → has n l ≡ c → has n (plus b n l) ≡ c || b
  plus_own true true n l e = has_own n l
  plus_own true false n l e = has_own n l
  plus_own false true n l e = e
  plus_own false false n l e = e

  apart_from : (n m : ℕ) (l : List ℕ) → (In n l → ⊥) → In m l → m ≡ n → ⊥
  apart_from n m l f i q = f (rw (sym q) i)

  closed : (late : Type 0) → late → (l : List ℕ) → Ordered to late l → (m : ℕ) → In m l → (t : ℕ) → In t (to m) → In t l
  closed late z l none m i t j = absurd i
  closed late z l (more {l = k} n o once behind) m i t j =
      either (in_append m k (n ∷ []) i)
      (λ h. in_left' t k n (closed late z k o m h t j))
      (λ h. either h (λ q. in_left' t k n (behind z t (rw q at j))) (λ x. absurd x))
    where
      in_left' : (t : ℕ) (k : List ℕ) (n : ℕ) → In t k → In t (snoc k n)
      in_left' t [] n i = absurd i
      in_left' t (x ∷ k) n (inl e) = inl e
      in_left' t (x ∷ k) n (inr i) = inr (in_left' t k n i)

  module _ (k : List ℕ) (n : ℕ) (start : List ℕ) (once : In n k → ⊥) where
    abbrev before : List ℕ
    before = passing rule k start

    abbrev after : List ℕ
    after = plus (rule (λ t. has t before) n) n before

    still : (m : ℕ) → ((t : ℕ) → In t (to m) → In t k) → rule (λ t. has t after) m ≡ rule (λ t. has t before) m
    still m f =
        local m (λ t. has t after) (λ t. has t before) (λ t j. plus_other (rule (λ t. has t before) n) n t before (apart_from n t k once (f t j)))

    earlier : (m : ℕ) → ((t : ℕ) → In t (to m) → In t k) → In m k → has m before ≡ has m start || rule (λ t. has t before) m → has m after ≡ has m start
        || rule (λ t. has t after) m
    earlier m f h e = rw (still m f) (plus_other (rule (λ t. has t before) n) n m before (apart_from n m k once h) ∙ e)

    last : ((t : ℕ) → In t (to n) → In t k) → has n after ≡ has n start || rule (λ t. has t after) n
    last f = rw (still n f) (plus_own (rule (λ t. has t before) n) (has n start) n before (outside k n start once))

  pub settled : (late : Type 0) → late → (start l : List ℕ) → Ordered to late l → (m : ℕ) → In m l → has m (passing rule l start) ≡ has m start
      || rule (λ t. has t (passing rule l start)) m
  settled late z start l none m i = absurd i
  settled late z start l (more {l = k} n o once behind) m i =
      rw (passing_last k n start)
      (either (in_append m k (n ∷ []) i)
      (λ h. earlier k n start once m (closed late z k o m h) h (settled late z start k o m h))
      (λ h. either h (λ q. rw q (last k n start once (behind z))) (λ x. absurd x)))

module _ (G : Graph) (s : Sound G) (no-cycle : Acyclic (targets G)) where
  -- "empty without an unresolved node"
  pub missing_none : has_unresolved G ≡ false → (n : ℕ) → missing G n ≡ false
  unfolding missings
  missing_none u n = rw (u, cond)
