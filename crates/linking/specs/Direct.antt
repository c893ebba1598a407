-- Excluded, Lock and Constrains: a clause that is one link, or none where a variable names neither.
use Rattle.std.specs.Prelude.{◌≡◌, refl, List, [], ◌∷◌, ◌++◌, map, ℕ, Result, Ok, Err, Option, Some, None}
use Rattle.std.proofs.Common.{sym, ap, ◌∙◌}
use Rattle.basis.specs.Lists.{concat_map}
use Rattle.records.specs.declared.Origin.{Origin}
use Rattle.records.specs.declared.Origin.TheVariants as O
use Rattle.records.specs.Tables.{Tables}
use Rattle.records.specs.Views.{origin_of}
use Rattle.store.specs.declared.ConflictNode.{ConflictNode}
use Rattle.store.specs.declared.ConflictNode.TheVariants as N
use Rattle.store.specs.declared.ConflictCause.TheVariants as K
use Rattle.store.specs.declared.ConflictEdge.TheVariants as E
use Rattle.store.specs.declared.Size.{Size}
use Rattle.store.specs.Table.{graph_in, Growing}
use Rattle.store.specs.declared.Full.{Full}
use Rattle.linking.specs.Links.{party_of, as_list, solvable_in, link, excluded_links, lock_links, constrains_links}
use Rattle.linking.specs.Working.{link_all_in}
use Rattle.linking.specs.Growth.{Grew, grew_none, grew_as}

module _ (T : Tables) (a r : ℕ) (o : Origin) (q : o ≡ origin_of T a) (g k : List ℕ) (s : Size) where
  pub excluded_skip : solvable_in o ≡ [] → Growing g s → Grew (link_all_in (excluded_links T a r) (graph_in g s)) g (Ok s)
  unfolding excluded_links
  excluded_skip e P = grew_none (excluded_links T a r) g s (rw (← q, e)) P

  pub excluded_link : (n : ℕ) (d : Result Size Full) → o ≡ O.Solvable n → Grew (link_all_in (link (N.Solvable n) (N.Excluded r) (E.Conflict K.Excluded) ∷ []) (graph_in g s))
      k d → Grew (link_all_in (excluded_links T a r) (graph_in g s)) k d
  unfolding excluded_links
  excluded_link n d e R = grew_as (excluded_links T a r) (link (N.Solvable n) (N.Excluded r) (E.Conflict K.Excluded) ∷ []) g k s d R (rw (← q, e))

pub ruleset excludeds = (excluded_skip, excluded_link)

module _ (T : Tables) (a b : ℕ) (o : Origin) (q : o ≡ origin_of T a) (g k : List ℕ) (s : Size) where
  pub lock_skip : solvable_in o ≡ [] → Growing g s → Grew (link_all_in (lock_links T a b) (graph_in g s)) g (Ok s)
  unfolding lock_links
  lock_skip e P = grew_none (lock_links T a b) g s (rw (← q, e)) P

  pub lock_free : (l : ℕ) (p : Origin) → p ≡ origin_of T b → o ≡ O.Solvable l → solvable_in p ≡ [] → Growing g s
      → Grew (link_all_in (lock_links T a b) (graph_in g s)) g (Ok s)
  unfolding lock_links
  lock_free l p z e f P = grew_none (lock_links T a b) g s (rw (← q, ← z, e, f)) P

  pub lock_link : (l f : ℕ) (p : Origin) (d : Result Size Full) → p ≡ origin_of T b → o ≡ O.Solvable l → p ≡ O.Solvable f
      → Grew (link_all_in (link N.Root (N.Solvable f) (E.Conflict (K.Locked l)) ∷ []) (graph_in g s)) k d → Grew (link_all_in (lock_links T a b) (graph_in g s)) k d
  unfolding lock_links
  lock_link l f p d z e h R = grew_as (lock_links T a b) (link N.Root (N.Solvable f) (E.Conflict (K.Locked l)) ∷ []) g k s d R (rw (← q, ← z, e, h))

pub ruleset locks = (lock_skip, lock_free, lock_link)

module _ (T : Tables) (a b v : ℕ) (x : Option ConflictNode) (q : x ≡ party_of T a) (g k : List ℕ) (s : Size) where
  pub constrains_skip : x ≡ None → Growing g s → Grew (link_all_in (constrains_links T a b v) (graph_in g s)) g (Ok s)
  unfolding constrains_links
  constrains_skip e P = grew_none (constrains_links T a b v) g s (rw (← q, e)) P

  pub constrains_free : (n : ConflictNode) (y : Option ConflictNode) → y ≡ party_of T b → x ≡ Some n → y ≡ None → Growing g s
      → Grew (link_all_in (constrains_links T a b v) (graph_in g s)) g (Ok s)
  unfolding constrains_links
  constrains_free n y z e f P = grew_none (constrains_links T a b v) g s (rw (← q, ← z, e, f)) P

  pub constrains_link : (n m : ConflictNode) (y : Option ConflictNode) (d : Result Size Full) → y ≡ party_of T b → x ≡ Some n → y ≡ Some m
      → Grew (link_all_in (link n m (E.Conflict (K.Constrains v)) ∷ []) (graph_in g s)) k d → Grew (link_all_in (constrains_links T a b v) (graph_in g s)) k d
  unfolding constrains_links
  constrains_link n m y d z e f R = grew_as (constrains_links T a b v) (link n m (E.Conflict (K.Constrains v)) ∷ []) g k s d R (rw (← q, ← z, e, f))

pub ruleset constrainings = (constrains_skip, constrains_free, constrains_link)
