-- The edges of one requirer to its candidates, where its node is found once: each link is the second half of `add_link_in`, `add_target`.
use Rattle.std.specs.Prelude.{◌≡◌, List, [], ◌∷◌, map, ℕ, ◌-◌, ◌<◌, ◌≤◌, Result, Ok, Err}
use Rattle.std.proofs.Math.Path.{refl, sym, ap}
use Rattle.std.proofs.Common.{◌∙◌, arith}
use Rattle.records.specs.Tables.{Tables}
use Rattle.views.specs.Walks.{next_candidate, candidate_at, candidates_from, candidates_step, candidates_end}
use Rattle.store.specs.declared.ConflictNode.{ConflictNode}
use Rattle.store.specs.declared.ConflictNode.TheVariants as N
use Rattle.store.specs.declared.ConflictEdge.TheVariants as E
use Rattle.store.specs.declared.Size.{Size}
use Rattle.store.specs.declared.Put.{Put}
use Rattle.store.specs.Graph.{Graph}
use Rattle.store.specs.Working.{AddedSoFar, added_to, full_at, add_node_in, add_link_in}
use Rattle.store.specs.Table.{graph_in, Growing, added_in, size_of, place_of}
use Rattle.store.specs.Adding.{add_target}
use Rattle.store.specs.Fan.{linked_by}
use Rattle.store.specs.Laws.Fan.{linked_stops, linked_goes, known_self, known_keeps, known_link}
use Rattle.store.specs.declared.Full.{Full}
use Rattle.linking.specs.Links.{Link, require_link}
use Rattle.linking.specs.Working.{LinkedSoFar, more_to, short_at, link_all_in}
use Rattle.linking.specs.Growth.{Grew, grew_none}
use Rattle.linking.specs.Requiring.{candidate_links}

-- an edge of requirement q from node i to each candidate
unfoldable pub fan_all : ℕ → ℕ → List ℕ → Graph → LinkedSoFar
unfolding add_target
fan_all q i [] g = more_to g
fan_all q i (c ∷ cs) g = elim (add_target g i (N.Solvable c) (E.Requires q)) [ full_at h ↦ short_at h | added_to m h ↦ fan_all q i cs h ]

-- ---- links from a node that is there are these edges

after : (b : AddedSoFar) (xs : Graph → LinkedSoFar) (ys : Graph → LinkedSoFar) (a : AddedSoFar) → a ≡ b → ((m : ℕ) (h : Graph) → b ≡ added_to m h → xs h ≡ ys h)
    → ◌≡◌ {A = LinkedSoFar} (elim a [ full_at h ↦ short_at h | added_to m h ↦ xs h ]) (elim a [ full_at h ↦ short_at h | added_to m h ↦ ys h ])
after b xs ys (full_at h) e f = refl
after b xs ys (added_to m h) e f = f m h (sym e)

fan_known : (q i : ℕ) (p : ConflictNode) (cs : List ℕ) (g : Graph) → add_node_in g p ≡ added_to i g → link_all_in (map (require_link q p) cs) g ≡ fan_all q i cs g
unfolding link_all_in fan_all
fan_known q i p [] g k = refl
fan_known q i p (c ∷ cs) g k =
    rw (known_link g g p (N.Solvable c) (E.Requires q) i k, link_all_in)
    (after (add_target g i (N.Solvable c) (E.Requires q)) (link_all_in (map (require_link q p) cs)) (fan_all q i cs) (add_target g i (N.Solvable c) (E.Requires q))
    refl
    (λ m h e. fan_known q i p cs h (known_keeps g h p (N.Solvable c) (E.Requires q) i m k e)))

-- and so from one that the first of them would add
fan_first : (q i : ℕ) (p : ConflictNode) (c : ℕ) (cs : List ℕ) (g h : Graph) → add_node_in g p ≡ added_to i h
    → link_all_in (map (require_link q p) (c ∷ cs)) g ≡ fan_all q i (c ∷ cs) h
unfolding link_all_in
fan_first q i p c cs g h k =
    let a : add_node_in h p ≡ added_to i h = known_self g h p i k in
    let b : add_link_in g p (N.Solvable c) (E.Requires q) ≡ add_link_in h p (N.Solvable c) (E.Requires q) = known_link g h p (N.Solvable c) (E.Requires q) i k
    ∙ sym (known_link h h p (N.Solvable c) (E.Requires q) i a) in
    rw (b, link_all_in) (fan_known q i p (c ∷ cs) h a)

module _ (T : Tables) (q : ℕ) (p : ConflictNode) (g h : List ℕ) (s : Size) (a : Result Put Full) (x : ℕ) where
  pub fan_full : (b : Full) → added_in h a ≡ add_node_in (graph_in g s) p → a ≡ Err b → Growing h (size_of a) → 0 < x
      → Grew (link_all_in (candidate_links T q p x) (graph_in g s)) h (Err b)
  unfolding candidate_links link_all_in add_link_in
  fan_full b e f P l =
      let z : add_node_in (graph_in g s) p ≡ full_at (graph_in h b.size) = sym e ∙ ap (added_in h) f in
      let y : candidates_from T x ≡ candidate_at T (x - 1) ∷ candidates_from T (next_candidate T (x - 1)) =
      candidates_step T x (candidate_at T (x - 1)) (next_candidate T (x - 1)) l refl refl in
      record { is = rw (y, link_all_in, z, add_link_in); growing = rw f at P }

  -- j is the number as a byte
  pub fan_on : (i : Put) (j : ℕ) (m : List ℕ) (r : Result Size Full) → added_in h a ≡ add_node_in (graph_in g s) p → a ≡ Ok i → j ≡ i.place
      → Grew (fan_all q j (candidates_from T x) (graph_in h i.size)) m r → 0 < x → Grew (link_all_in (candidate_links T q p x) (graph_in g s)) m r
  unfolding candidate_links
  fan_on i j m r e f b R l =
      let z : add_node_in (graph_in g s) p ≡ added_to i.place (graph_in h i.size) = sym e ∙ ap (added_in h) f in
      let y : candidates_from T x ≡ candidate_at T (x - 1) ∷ candidates_from T (next_candidate T (x - 1)) =
      candidates_step T x (candidate_at T (x - 1)) (next_candidate T (x - 1)) l refl refl in
      let u : link_all_in (map (require_link q p) (candidates_from T x)) (graph_in g s) ≡ fan_all q i.place (candidates_from T x) (graph_in h i.size) =
      rw y (fan_first q i.place p (candidate_at T (x - 1)) (candidates_from T (next_candidate T (x - 1))) (graph_in g s) (graph_in h i.size) z) in
      rw u (rw b at R)

pub ruleset fans = (fan_full, fan_on)

pub fan_none : (T : Tables) (q : ℕ) (p : ConflictNode) (x : ℕ) (g : List ℕ) (s : Size) → x ≡ 0 → Growing g s
    → Grew (link_all_in (candidate_links T q p x) (graph_in g s)) g (Ok s)
unfolding candidate_links
fan_none T q p x g s e P = grew_none (candidate_links T q p x) g s (ap (map (require_link q p)) (candidates_end T x (omega arith))) P

pub not_none : (x : ℕ) → (x ≡ 0 → ⊥) → 0 < x
not_none x e = omega (arith, e)

pub at_small : (h : List ℕ) (a : Result Put Full) (i : Put) → a ≡ Ok i → Growing h (size_of a) → place_of a < (size_of a).nodes → i.place < 128
at_small h a i e P l =
    let Q : Growing h i.size = rw e at P in
    let m : i.place < i.size.nodes = rw e at l in
    omega (arith, Q.stored.nodes_most)

-- ---- the loop: the edges to cs that are left give W

pub record Fanning (W : LinkedSoFar) (q i : ℕ) (cs : List ℕ) (g : List ℕ) (s : Size) : Type 0 where
  pub left : fan_all q i cs (graph_in g s) ≡ W
  pub growing : Growing g s

pub fan_start : (q i : ℕ) (cs g : List ℕ) (s : Size) → Growing g s → Fanning (fan_all q i cs (graph_in g s)) q i cs g s
fan_start q i cs g s P = record { left = refl; growing = P }

-- n is what the link answered, u the size after it
module _ (T : Tables) (W : LinkedSoFar) (q i x c n : ℕ) (g h : List ℕ) (s u : Size) where
  pub fan_next : (y : ℕ) → Fanning W q i (candidates_from T x) g s → 0 < x → c ≡ candidate_at T (x - 1)
      → added_in h (linked_by s n) ≡ add_target (graph_in g s) i (N.Solvable c) (E.Requires q) → Growing h (size_of (linked_by s n)) → u ≡ size_of (linked_by s n)
      → n < 2 → y ≡ next_candidate T (x - 1) → Fanning W q i (candidates_from T y) h u
  unfolding fan_all
  fan_next y F l e o P z b d =
      let k : add_target (graph_in g s) i (N.Solvable c) (E.Requires q) ≡ added_to s.edges (graph_in h u) = sym o ∙ ap (added_in h) (linked_goes s u n b z) in
      let v : candidates_from T x ≡ c ∷ candidates_from T y = candidates_step T x c y l e d in
      record { left = rw (v, fan_all, k) at F.left; growing = rw (← z) at P }

  pub fan_stop : Fanning W q i (candidates_from T x) g s → 0 < x → c ≡ candidate_at T (x - 1)
      → added_in h (linked_by s n) ≡ add_target (graph_in g s) i (N.Solvable c) (E.Requires q) → Growing h (size_of (linked_by s n)) → u ≡ size_of (linked_by s n)
      → 2 ≤ n → Grew W h (Err (record { size = u }))
  unfolding fan_all
  fan_stop F l e o P z b =
      let k : add_target (graph_in g s) i (N.Solvable c) (E.Requires q) ≡ full_at (graph_in h u) = sym o ∙ ap (added_in h) (linked_stops s u n b z) in
      let v : candidates_from T x ≡ c ∷ candidates_from T (next_candidate T (x - 1)) = candidates_step T x c (next_candidate T (x - 1)) l e refl in
      record { is = rw (v, fan_all, k) at F.left; growing = rw (← z) at P }

pub fan_end : (T : Tables) (W : LinkedSoFar) (q i x : ℕ) (g : List ℕ) (s : Size) → Fanning W q i (candidates_from T x) g s → x ≤ 0 → Grew W g (Ok s)
unfolding fan_all
fan_end T W q i x g s F h = record { is = rw (candidates_end T x h, fan_all) at F.left; growing = F.growing }

-- `fan_stop`'s equation, as `grind` takes it
pub fan_cut : (T : Tables) (q i x n : ℕ) (g h : List ℕ) (s : Size) → 0 < x → 2 ≤ n
    → added_in h (linked_by s n) ≡ add_target (graph_in g s) i (N.Solvable (candidate_at T (x - 1))) (E.Requires q)
    → fan_all q i (candidates_from T x) (graph_in g s) ≡ short_at (graph_in h (size_of (linked_by s n)))
unfolding fan_all
fan_cut T q i x n g h s l b o =
    let k : add_target (graph_in g s) i (N.Solvable (candidate_at T (x - 1))) (E.Requires q) ≡ full_at (graph_in h (size_of (linked_by s n))) =
    sym o ∙ ap (added_in h) (linked_stops s (size_of (linked_by s n)) n b refl) in
    rw (candidates_step T x (candidate_at T (x - 1)) (next_candidate T (x - 1)) l refl refl, fan_all, k)

-- and `fan_next`'s
pub fan_more : (T : Tables) (q i x n : ℕ) (g h : List ℕ) (s : Size) → 0 < x → n < 2
    → added_in h (linked_by s n) ≡ add_target (graph_in g s) i (N.Solvable (candidate_at T (x - 1))) (E.Requires q)
    → fan_all q i (candidates_from T x) (graph_in g s) ≡ fan_all q i (candidates_from T (next_candidate T (x - 1))) (graph_in h (size_of (linked_by s n)))
unfolding fan_all
fan_more T q i x n g h s l b o =
    let k : add_target (graph_in g s) i (N.Solvable (candidate_at T (x - 1))) (E.Requires q) ≡ added_to s.edges (graph_in h (size_of (linked_by s n))) =
    sym o ∙ ap (added_in h) (linked_goes s (size_of (linked_by s n)) n b refl) in
    rw (candidates_step T x (candidate_at T (x - 1)) (next_candidate T (x - 1)) l refl refl, fan_all, k)

pub ruleset fannings = (fan_start, fan_next, fan_stop, fan_end)
