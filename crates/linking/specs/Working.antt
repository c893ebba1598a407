-- Linking, with what stays in working memory where there is no room: the graph as far as it came. With that graph forgotten it is the
-- linking of `Links`.
use Rattle.std.specs.Prelude.{◌≡◌, refl, List, [], ◌∷◌, ℕ, zero, suc}
use Rattle.std.proofs.Common.{sym, ap, ◌∙◌}
use Rattle.std.proofs.Math.Option.{Option, none, some}
use Rattle.store.specs.declared.ConflictNode.TheVariants as N
use Rattle.store.specs.Graph.{Graph, Added, added, full, add_node, add_link}
use Rattle.store.specs.Working.{AddedSoFar, added_to, full_at, add_node_in, add_link_in, forget_added, forget_node, forget_link}
use Rattle.linking.specs.Links.{Link, Linked, more, short, link_all, previous_links, forbid_all}

-- ---- the definitions

-- `Linked`; where there is no room, with the graph so far
pub data LinkedSoFar : Type 0 where
  more_to : Graph → LinkedSoFar
  short_at : Graph → LinkedSoFar

unfoldable pub link_all_in : List Link → Graph → LinkedSoFar
unfolding add_link_in
link_all_in [] g = more_to g
link_all_in (l ∷ rest) g = elim (add_link_in g l.source l.target l.weight) [ full_at h ↦ short_at h | added_to i h ↦ link_all_in rest h ]

unfoldable pub forbid_all_in : Graph → Option ℕ → ℕ → LinkedSoFar
unfolding add_node_in link_all_in
forbid_all_in g p s = elim (add_node_in g (N.Solvable s)) [ full_at h ↦ short_at h | added_to i h ↦ link_all_in (previous_links p s) h ]

-- the last solvable under a name, as a table holds it: one more than its number, 0 for none
abbrev pub last_by : ℕ → Option ℕ
last_by zero = none
last_by (suc p) = some p

-- ---- with the graph forgotten

abbrev pub forget_linked : LinkedSoFar → Linked
forget_linked (more_to g) = more g
forget_linked (short_at g) = short

-- what is left of the links, once one was tried
abbrev then : List Link → Added → Linked
then ls (added i h) = link_all ls h
then ls full = short

forget_step_lem : (ls : List Link) (a : AddedSoFar) → ((h : Graph) → forget_linked (link_all_in ls h) ≡ link_all ls h)
    → forget_linked (elim a [ full_at h ↦ short_at h | added_to i h ↦ link_all_in ls h ])
    ≡ then ls (forget_added a)
forget_step_lem ls (added_to i h) f = f h
forget_step_lem ls (full_at h) f = refl

then_is : (ls : List Link) (a : Added) → elim a [ full ↦ short | added i h ↦ link_all ls h ] ≡ then ls a
then_is ls (added i h) = refl
then_is ls full = refl

pub forget_links : (ls : List Link) (g : Graph) → forget_linked (link_all_in ls g) ≡ link_all ls g
unfolding link_all_in link_all
forget_links [] g = refl
forget_links (l ∷ ls) g =
    forget_step_lem ls (add_link_in g l.source l.target l.weight) (forget_links ls)
    ∙ ap (then ls) (forget_link g l.source l.target l.weight)
    ∙ sym (then_is ls (add_link g l.source l.target l.weight))

pub forget_forbid : (g : Graph) (p : Option ℕ) (s : ℕ) → forget_linked (forbid_all_in g p s) ≡ forbid_all g p s
unfolding forbid_all_in forbid_all
forget_forbid g p s =
    forget_step_lem (previous_links p s) (add_node_in g (N.Solvable s)) (forget_links (previous_links p s))
    ∙ ap (then (previous_links p s)) (forget_node g (N.Solvable s))
    ∙ sym (then_is (previous_links p s) (add_node g (N.Solvable s)))
