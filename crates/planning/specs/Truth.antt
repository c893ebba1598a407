-- What the tables tell is what the definitions say: runs, kids, wordings and kinds of line.
use Rattle.std.specs.Prelude.{◌≡◌, Bool, ◌&&◌, ◌||◌, ℕ, ◌<◌, length}
use Rattle.std.proofs.Math.Path.{refl, sym, ap}
use Rattle.std.proofs.Common.{◌∙◌, eqb-true, eq-eqb, ne_eqb}
use Rattle.std.proofs.Math.Bool.{true, false, cond, not}
use Rattle.std.proofs.lemmas.Bool.{eqb-false}
use mathlib.Core.List.{List, [], ◌∷◌, ◌++◌, reverse, reverse_aux}
use Rattle.std.proofs.Math.Dec.{eqb}
use Rattle.basis.specs.Lists.{any, all, filter, has}
use Rattle.basis.specs.Members.{All, split}
use Rattle.records.specs.Tables.{Tables}
use Rattle.store.specs.declared.Size.{Size}
use Rattle.store.specs.Graph.{Graph, node_at, is_solvable, is_unresolved}
use Rattle.store.specs.Table.{graph_in, node_in, Stored, node_in_lem, nodes_count}
use Rattle.labels.specs.Runs.{Run}
use Rattle.plan.specs.Plan.{Shown, shown_of, is_installable, merged_shown, group_of, lead_shown, run_installable, no_candidates, dedup, kids_of}
use Rattle.plan.specs.Mates.{group_has, merged_same}
use Rattle.plan.specs.Planned.{wording_of}
use Rattle.planning.specs.Kids.{marked_in, lead_at, merged_at, group_shown, takes, kids_by, lone_by, kids_for, wording_for}

any_agree : (p q : ℕ → Bool) (N : ℕ → Type 0) (l : List ℕ) → All N l → ((x : ℕ) → N x → p x ≡ q x) → any p l ≡ any q l
any_agree p q N [] a h = refl
any_agree p q N (x ∷ l) a h =
    let r = any_agree p q N l a.1 h in
    let e : p x ≡ q x = h x a.0 in
    split (q x) (λ t. rw ((e ∙ t), t, any)) (λ t. rw ((e ∙ t), t, any) r)

all_agree : (p q : ℕ → Bool) (N : ℕ → Type 0) (l : List ℕ) → All N l → ((x : ℕ) → N x → p x ≡ q x) → all p l ≡ all q l
all_agree p q N [] a h = refl
all_agree p q N (x ∷ l) a h =
    let r = all_agree p q N l a.1 h in
    let e : p x ≡ q x = h x a.0 in
    split (q x) (λ t. rw ((e ∙ t), t, all) r) (λ t. rw ((e ∙ t), t, all))

any_append : (p : ℕ → Bool) (xs ys : List ℕ) → any p (xs ++ ys) ≡ any p xs || any p ys
any_append p [] ys = refl
any_append p (x ∷ xs) ys = split (p x) (λ t. rw (t, any)) (λ t. rw (t, any) (any_append p xs ys))

filter_filter : (p q : ℕ → Bool) (l : List ℕ) → filter p (filter q l) ≡ filter (λ x. p x && q x) l
filter_filter p q [] = refl
filter_filter p q (x ∷ l) =
    split (q x)
    (λ t. split (p x) (λ u. rw (t, filter, u, filter) (ap (λ (m : List ℕ). x ∷ m) (filter_filter p q l))) (λ u. rw (
      t,
      filter,
      u,
      filter,
    ) (filter_filter p q l)))
    (λ t. split (p x) (λ u. rw (t, filter, u, filter) (filter_filter p q l)) (λ u. rw (t, filter, u, filter) (filter_filter p q l)))

filter_true : (p : ℕ → Bool) (l : List ℕ) → filter p l ≡ filter (λ x. p x && true) l
filter_true p [] = refl
filter_true p (x ∷ l) = split (p x) (λ t. rw (t, filter) (ap (λ (m : List ℕ). x ∷ m) (filter_true p l))) (λ t. rw (t, filter) (filter_true p l))

-- what the tables say of the nodes
pub record Given (T : Tables) (g : List ℕ) (s : Size) (ms gr : List ℕ) : Type 0 where
  pub stored : Stored g s
  pub marks : (n : ℕ) → n < s.nodes → marked_in ms n ≡ is_installable (shown_of T (graph_in g s)) n
  pub lead : (n : ℕ) → n < s.nodes → lead_at gr n ≡ lead_shown (shown_of T (graph_in g s)) n
  pub merged : (n : ℕ) → n < s.nodes → merged_at gr n ≡ merged_shown (shown_of T (graph_in g s)) n

module _ (T : Tables) (g : List ℕ) (s : Size) (ms gr : List ℕ) (z : Given T g s ms gr) where
  abbrev G : Graph
  G = graph_in g s

  abbrev S : Shown
  S = shown_of T (graph_in g s)

  abbrev pub Node : ℕ → Type 0
  Node n = n < s.nodes

  abbrev solvable : ℕ → Bool
  solvable n = is_solvable (node_at G n)

  in_graph : (n : ℕ) → Node n → n < length G.nodes
  in_graph n h = rw (nodes_count g s z.stored) h

  pub installable_is : (ts : List ℕ) → All Node ts → any (marked_in ms) ts ≡ any (is_installable S) ts
  installable_is ts a = any_agree (marked_in ms) (is_installable S) Node ts a z.marks

  pub lone_is : (ts : List ℕ) → All Node ts → lone_by g ts ≡ (eqb (length ts) 1 && all (λ n. is_unresolved (node_at G n)) ts)
  unfolding lone_by
  lone_is ts a =
      ap (λ (b : Bool). eqb (length ts) 1 && b)
      (all_agree (λ n. is_unresolved (node_in g n)) (λ n. is_unresolved (node_at G n)) Node ts a (λ n h. ap is_unresolved (node_in_lem g s z.stored n h)))

  -- ---- kids

  -- those emitted are solvable nodes
  abbrev Kid : ℕ → Type 0
  Kid n = Node n × (solvable n ≡ true)

  -- what `merged_and_seen` holds, by the kids so far
  abbrev Seen : List ℕ → List ℕ → Type 0
  Seen acc seen = (n : ℕ) → Kid n → has n seen ≡ (merged_shown S n && any (λ m. eqb (lead_shown S m) (lead_shown S n)) acc)

  eqb_turn : (a b : ℕ) → eqb a b ≡ eqb b a
  eqb_turn a b = split (eqb b a) (λ t. rw t (eq-eqb a b (sym (eqb-true b a t)))) (λ t. rw t (ne_eqb a b (λ q. eqb-false b a t (sym q))))

  seen_more : (t : ℕ) (acc seen : List ℕ) → Kid t → Seen acc seen → Seen (t ∷ acc) (cond (merged_shown S t) (group_of S t ++ seen) seen)
  unfolding shown_of
  seen_more t acc seen k f n h =
      let gh : has n (group_of S t) ≡ eqb (lead_shown S n) (lead_shown S t) = group_has T G t n (in_graph t k.0) (in_graph n h.0) k.1 in
      split (eqb (lead_shown S t) (lead_shown S n))
      (λ e. let same : merged_shown S n ≡ merged_shown S t = merged_same T G t n (in_graph t k.0) (in_graph n h.0)
      (sym (eqb-true (lead_shown S t) (lead_shown S n) e)) in
      split (merged_shown S t)
      (λ m. rw (m, e, any, (same ∙ m)) (any_append (eqb n) (group_of S t) seen ∙ rw (gh, eqb_turn (lead_shown S n) (lead_shown S t), e)))
      (λ m. rw (m, e, any, (same ∙ m)) (f n h ∙ rw (same ∙ m))))
      (λ e. split (merged_shown S t)
      (λ m. rw (m, e, any) (any_append (eqb n) (group_of S t) seen ∙ rw (gh, eqb_turn (lead_shown S n) (lead_shown S t), e) (f n h)))
      (λ m. rw (m, e, any) (f n h)))

  module _ (want : Bool) where
    abbrev offers : ℕ → Bool
    offers t = solvable t && (not want || is_installable S t)

    takes_is : (acc : List ℕ) (t : ℕ) → Node t → All Kid acc
        → takes g ms gr want acc t ≡ (solvable t && ((not want || is_installable S t)
        && not (merged_shown S t && any (λ m. eqb (lead_shown S m) (lead_shown S t)) acc)))
    unfolding takes group_shown
    takes_is acc t h a =
        rw (node_in_lem g s z.stored t h, z.marks t h, z.merged t h, z.lead t h)
        (ap (λ (b : Bool). solvable t && ((not want || is_installable S t) && not (merged_shown S t && b)))
        (any_agree (λ m. eqb (lead_at gr m) (lead_shown S t)) (λ m. eqb (lead_shown S m) (lead_shown S t)) Kid acc a (λ m k. rw (z.lead m k.0))))

    kids_dedup : (ts acc seen : List ℕ) → All Node ts → All Kid acc → Seen acc seen
        → kids_by g ms gr want acc ts ≡ reverse_aux (dedup S (filter offers ts) seen) acc
    unfolding kids_by
    kids_dedup [] acc seen a k f = refl
    kids_dedup (t ∷ ts) acc seen a k f =
        let e = takes_is acc t a.0 k in
        split (solvable t)
        (λ v. split (not want || is_installable S t)
        (λ w. let c : has t seen ≡ (merged_shown S t && any (λ m. eqb (lead_shown S m) (lead_shown S t)) acc) = f t (a.0, v) in
        let d : takes g ms gr want acc t ≡ not (has t seen) = e ∙ rw (v, w, ← c) refl in
        split (has t seen)
        (λ u. rw ((d ∙ ap not u), kids_by, v, w, filter, u, dedup) (kids_dedup ts acc seen a.1 k f))
        (λ u. rw ((d ∙ ap not u), kids_by, v, w, filter, u, dedup)
        (kids_dedup ts (t ∷ acc) (cond (merged_shown S t) (group_of S t ++ seen) seen) a.1 ((a.0, v), k) (seen_more t acc seen (a.0, v) f))))
        (λ w. let d : takes g ms gr want acc t ≡ false = e ∙ rw (v, w) refl in rw (d, kids_by, v, w, filter) (kids_dedup ts acc seen a.1 k f)))
        (λ v. let d : takes g ms gr want acc t ≡ false = e ∙ rw v refl in rw (d, kids_by, v, filter) (kids_dedup ts acc seen a.1 k f))

  offers_filter : (want : Bool) (ts : List ℕ) → filter solvable (cond want (filter (is_installable S) ts) ts) ≡ filter (offers want) ts
  offers_filter true ts = filter_filter solvable (is_installable S) ts
  offers_filter false ts = filter_true solvable ts

  pub kids_is : (q : Run) → All Node q.to → kids_for g ms gr q.to ≡ kids_of S q
  unfolding kids_for shown_of
  kids_is q a =
      rw (lone_is q.to a, installable_is q.to a)
      (ap (λ (l : List ℕ). cond (no_candidates S q) [] l)
      (kids_dedup (run_installable S q) q.to [] [] a tt (λ n h. sym (and_no (merged_shown S n)))
      ∙ ap (λ (l : List ℕ). reverse (dedup S l [])) (sym (offers_filter (run_installable S q) q.to))))
    where
      and_no : (b : Bool) → b && false ≡ false
      and_no true = refl
      and_no false = refl

  pub wording_is : (q : Run) → All Node q.to → wording_for g ms q.to ≡ wording_of S q
  unfolding wording_for shown_of
  wording_is q a = rw (lone_is q.to a, installable_is q.to a)
