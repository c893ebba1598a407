-- The lengths of the plain texts, and what each way through the code shows of them.
use Rattle.std.specs.Prelude.{◌≡◌, List, ◌++◌, ℕ, ◌+◌, ◌≤◌, length}
use Rattle.std.proofs.Common.{length-append}
use Rattle.basis.specs.Quote.{utf8}
use Rattle.records.specs.Tables.{Tables}
use Rattle.records.specs.Views.{name_text, solvable_name, version_text, set_text, requirement_text, reason_text}
use Rattle.store.specs.declared.ConflictNode.{ConflictNode}
use Rattle.store.specs.declared.ConflictNode.TheVariants as N
use Rattle.store.specs.declared.ConflictCause.{ConflictCause}
use Rattle.store.specs.declared.ConflictCause.TheVariants as K
use Rattle.store.specs.declared.ConflictEdge.{ConflictEdge}
use Rattle.store.specs.declared.ConflictEdge.TheVariants as W
use Rattle.texts.specs.Wrote.{Wrote}
use Rattle.wall.specs.Captions.{solvable_caption, excluded_caption, node_caption, edge_caption}

-- ---- nodes

pub solvable_size : (T : Tables) (s : ℕ) → length (solvable_caption T s) ≡ length (name_text T (solvable_name T s)) + 1 + length (version_text T s)
unfolding solvable_caption
solvable_size T s = simp length-append

pub excluded_size : (T : Tables) (r : ℕ) → length (excluded_caption T r) ≡ 8 + length (reason_text T r)
unfolding excluded_caption
excluded_size T r = simp length-append

-- a, v: the texts that were handed out
pub solvable_sum : (T : Tables) (s n : ℕ) (a v : List ℕ) (i j : ℕ) → n ≡ solvable_name T s → a ≡ name_text T n → v ≡ version_text T s → i ≡ length a → j ≡ length v
    → i + 1 + j ≡ length (solvable_caption T s)
solvable_sum T s n a v i j qn qa qv qi qj = rw (solvable_size, qi, qj, qa, qv, qn)

pub solvable_room : (T : Tables) (s n : ℕ) (a v : List ℕ) (k : ℕ) → length (solvable_caption T s) ≤ k → n ≡ solvable_name T s → a ≡ name_text T n
    → v ≡ version_text T s → length a + 1 + length v ≤ k
solvable_room T s n a v k h qn qa qv = rw (qa, qv, qn) (rw solvable_size at h)

pub solvable_wrote : (T : Tables) (s n : ℕ) (a v o d : List ℕ) (r : ℕ) → Wrote (a ++ utf8 " " ++ v) o d r → n ≡ solvable_name T s → a ≡ name_text T n
    → v ≡ version_text T s → Wrote (solvable_caption T s) o d r
unfolding solvable_caption
solvable_wrote T s n a v o d r w qn qa qv = rw (qa, qv, qn) at w

pub excluded_sum : (T : Tables) (r : ℕ) (a : List ℕ) (i : ℕ) → a ≡ reason_text T r → i ≡ length a → 8 + i ≡ length (excluded_caption T r)
excluded_sum T r a i qa qi = rw (excluded_size, qi, qa)

pub excluded_room : (T : Tables) (r : ℕ) (a : List ℕ) (k : ℕ) → length (excluded_caption T r) ≤ k → a ≡ reason_text T r → 8 + length a ≤ k
excluded_room T r a k h qa = rw qa (rw excluded_size at h)

pub excluded_wrote : (T : Tables) (r : ℕ) (a o d : List ℕ) (i : ℕ) → Wrote (utf8 "reason: " ++ a) o d i → a ≡ reason_text T r → Wrote (excluded_caption T r) o d i
unfolding excluded_caption
excluded_wrote T r a o d i w qa = rw qa at w

module _ (T : Tables) (x : ConflictNode) where
  pub root_size : x ≡ N.Root → 6 ≡ length (node_caption T x)
  unfolding node_caption
  root_size e = rw e

  pub root_room : (k : ℕ) → x ≡ N.Root → length (node_caption T x) ≤ k → 6 ≤ k
  unfolding node_caption
  root_room k e h = rw e at h

  pub root_wrote : (o d : List ℕ) (r : ℕ) → x ≡ N.Root → Wrote (utf8 "<root>") o d r → Wrote (node_caption T x) o d r
  unfolding node_caption
  root_wrote o d r e w = rw e w

  pub unresolved_size : x ≡ N.UnresolvedDependency → 10 ≡ length (node_caption T x)
  unfolding node_caption
  unresolved_size e = rw e

  pub unresolved_room : (k : ℕ) → x ≡ N.UnresolvedDependency → length (node_caption T x) ≤ k → 10 ≤ k
  unfolding node_caption
  unresolved_room k e h = rw e at h

  pub unresolved_wrote : (o d : List ℕ) (r : ℕ) → x ≡ N.UnresolvedDependency → Wrote (utf8 "unresolved") o d r → Wrote (node_caption T x) o d r
  unfolding node_caption
  unresolved_wrote o d r e w = rw e w

  pub its_size : (s r : ℕ) → x ≡ N.Solvable s → r ≡ length (solvable_caption T s) → r ≡ length (node_caption T x)
  unfolding node_caption
  its_size s r e q = rw e q

  pub its_room : (s k : ℕ) → x ≡ N.Solvable s → length (node_caption T x) ≤ k → length (solvable_caption T s) ≤ k
  unfolding node_caption
  its_room s k e h = rw e at h

  pub its_wrote : (s : ℕ) (o d : List ℕ) (r : ℕ) → x ≡ N.Solvable s → Wrote (solvable_caption T s) o d r → Wrote (node_caption T x) o d r
  unfolding node_caption
  its_wrote s o d r e w = rw e w

  pub reason_size : (s r : ℕ) → x ≡ N.Excluded s → r ≡ length (excluded_caption T s) → r ≡ length (node_caption T x)
  unfolding node_caption
  reason_size s r e q = rw e q

  pub reason_room : (s k : ℕ) → x ≡ N.Excluded s → length (node_caption T x) ≤ k → length (excluded_caption T s) ≤ k
  unfolding node_caption
  reason_room s k e h = rw e at h

  pub reason_wrote : (s : ℕ) (o d : List ℕ) (r : ℕ) → x ≡ N.Excluded s → Wrote (excluded_caption T s) o d r → Wrote (node_caption T x) o d r
  unfolding node_caption
  reason_wrote s o d r e w = rw e w

pub ruleset node_sizes = (root_size, unresolved_size, its_size, reason_size)

pub ruleset node_rooms = (root_room, unresolved_room, its_room, reason_room)

pub ruleset node_wrotes = (root_wrote, unresolved_wrote, its_wrote, reason_wrote)

-- ---- labels: a label's text as one list, t, with its length and its writing

module _ (T : Tables) (c : ConflictCause) where
  pub locked_size : (s : ℕ) → c ≡ K.Locked s → 17 ≡ length (edge_caption T (W.Conflict c))
  unfolding edge_caption
  locked_size s e = rw e

  pub locked_room : (s k : ℕ) → c ≡ K.Locked s → length (edge_caption T (W.Conflict c)) ≤ k → 17 ≤ k
  unfolding edge_caption
  locked_room s k e h = rw e at h

  pub locked_wrote : (s : ℕ) (o d : List ℕ) (r : ℕ) → c ≡ K.Locked s → Wrote (utf8 "already installed") o d r → Wrote (edge_caption T (W.Conflict c)) o d r
  unfolding edge_caption
  locked_wrote s o d r e w = rw e w

  pub forbid_size : c ≡ K.ForbidMultipleInstances → 17 ≡ length (edge_caption T (W.Conflict c))
  unfolding edge_caption
  forbid_size e = rw e

  pub forbid_room : (k : ℕ) → c ≡ K.ForbidMultipleInstances → length (edge_caption T (W.Conflict c)) ≤ k → 17 ≤ k
  unfolding edge_caption
  forbid_room k e h = rw e at h

  pub forbid_wrote : (o d : List ℕ) (r : ℕ) → c ≡ K.ForbidMultipleInstances → Wrote (utf8 "already installed") o d r
      → Wrote (edge_caption T (W.Conflict c)) o d r
  unfolding edge_caption
  forbid_wrote o d r e w = rw e w

  pub exclude_size : c ≡ K.Excluded → 8 ≡ length (edge_caption T (W.Conflict c))
  unfolding edge_caption
  exclude_size e = rw e

  pub exclude_room : (k : ℕ) → c ≡ K.Excluded → length (edge_caption T (W.Conflict c)) ≤ k → 8 ≤ k
  unfolding edge_caption
  exclude_room k e h = rw e at h

  pub exclude_wrote : (o d : List ℕ) (r : ℕ) → c ≡ K.Excluded → Wrote (utf8 "excluded") o d r → Wrote (edge_caption T (W.Conflict c)) o d r
  unfolding edge_caption
  exclude_wrote o d r e w = rw e w

  -- t: the set's text that was handed out
  pub set_size : (v r : ℕ) (t : List ℕ) → c ≡ K.Constrains v → t ≡ set_text T v → r ≡ length t → r ≡ length (edge_caption T (W.Conflict c))
  unfolding edge_caption
  set_size v r t e q z = rw (e, ← q) z

  pub set_room : (v k : ℕ) (t : List ℕ) → c ≡ K.Constrains v → t ≡ set_text T v → length (edge_caption T (W.Conflict c)) ≤ k → length t ≤ k
  unfolding edge_caption
  set_room v k t e q h = rw q (rw e at h)

  pub set_wrote : (v : ℕ) (t o d : List ℕ) (r : ℕ) → c ≡ K.Constrains v → t ≡ set_text T v → Wrote t o d r → Wrote (edge_caption T (W.Conflict c)) o d r
  unfolding edge_caption
  set_wrote v t o d r e q w = rw (e, ← q) w

module _ (T : Tables) (w : ConflictEdge) where
  pub need_size : (v r : ℕ) (t : List ℕ) → w ≡ W.Requires v → t ≡ requirement_text T v → r ≡ length t → r ≡ length (edge_caption T w)
  unfolding edge_caption
  need_size v r t e q z = rw (e, ← q) z

  pub need_room : (v k : ℕ) (t : List ℕ) → w ≡ W.Requires v → t ≡ requirement_text T v → length (edge_caption T w) ≤ k → length t ≤ k
  unfolding edge_caption
  need_room v k t e q h = rw q (rw e at h)

  pub need_wrote : (v : ℕ) (t o d : List ℕ) (r : ℕ) → w ≡ W.Requires v → t ≡ requirement_text T v → Wrote t o d r → Wrote (edge_caption T w) o d r
  unfolding edge_caption
  need_wrote v t o d r e q z = rw (e, ← q) z

  pub cause_size : (c : ConflictCause) (r : ℕ) → w ≡ W.Conflict c → r ≡ length (edge_caption T (W.Conflict c)) → r ≡ length (edge_caption T w)
  cause_size c r e q = rw e q

  pub cause_room : (c : ConflictCause) (k : ℕ) → w ≡ W.Conflict c → length (edge_caption T w) ≤ k → length (edge_caption T (W.Conflict c)) ≤ k
  cause_room c k e h = rw e at h

  pub cause_wrote : (c : ConflictCause) (o d : List ℕ) (r : ℕ) → w ≡ W.Conflict c → Wrote (edge_caption T (W.Conflict c)) o d r → Wrote (edge_caption T w) o d r
  cause_wrote c o d r e z = rw e z
