-- The lengths of an edge's parts, and what each way through the code shows of them.
use Rattle.std.specs.Prelude.{◌≡◌, refl, Bool, true, false, List, ◌++◌, ℕ, ◌+◌, ◌≤◌, length}
use Rattle.std.proofs.Common.{ap, ◌∙◌, arith, length-append}
use Rattle.basis.specs.Quote.{utf8}
use Rattle.records.specs.Tables.{Tables}
use Rattle.records.specs.Views.{name_text, solvable_name, version_text, set_text, requirement_text, reason_text}
use Rattle.store.specs.declared.ConflictNode.{ConflictNode}
use Rattle.store.specs.declared.ConflictNode.TheVariants as N
use Rattle.store.specs.declared.ConflictCause.{ConflictCause}
use Rattle.store.specs.declared.ConflictCause.TheVariants as K
use Rattle.store.specs.declared.ConflictEdge.{ConflictEdge}
use Rattle.store.specs.declared.ConflictEdge.TheVariants as W
use Rattle.texts.specs.Wrote.{Wrote}
use Rattle.display.specs.Quoted.{quoted}
use Rattle.display.specs.Laws.Quoted.{quoted_append}
use Rattle.display.specs.Stroke.{solvable_text, excluded_text, node_text, label, is_red, paint, stroke}

-- the sum that the code makes
abbrev pub stroke_size : Tables → ConflictNode → ConflictNode → Bool → ConflictEdge → ℕ
stroke_size T x y red w = length (quoted (node_text T x)) + length (quoted (node_text T y)) + length (paint red) + length (quoted (label T w)) + 10

pub stroke_length : (T : Tables) (x y : ConflictNode) (red : Bool) (w : ConflictEdge) → length (stroke T x y red w) ≡ stroke_size T x y red w
unfolding stroke
stroke_length T x y red w = simp length-append (omega arith)

-- ---- nodes

space_plain : quoted (utf8 " ") ≡ utf8 " "
unfolding quoted
space_plain = refl

reason_plain : quoted (utf8 "reason: ") ≡ utf8 "reason: "
unfolding quoted
reason_plain = refl

-- the parts of a node's text that order 5 names
pub solvable_quoted : (T : Tables) (s : ℕ) → quoted (solvable_text T s) ≡ quoted (name_text T (solvable_name T s)) ++ utf8 " " ++ quoted (version_text T s)
unfolding solvable_text
solvable_quoted T s =
    quoted_append (name_text T (solvable_name T s) ++ utf8 " ") (version_text T s)
    ∙ ap (λ (l : List ℕ). l ++ quoted (version_text T s))
    (quoted_append (name_text T (solvable_name T s)) (utf8 " ") ∙ ap (λ (l : List ℕ). quoted (name_text T (solvable_name T s)) ++ l) space_plain)

pub excluded_quoted : (T : Tables) (r : ℕ) → quoted (excluded_text T r) ≡ utf8 "reason: " ++ quoted (reason_text T r)
unfolding excluded_text
excluded_quoted T r = quoted_append (utf8 "reason: ") (reason_text T r) ∙ ap (λ (l : List ℕ). l ++ quoted (reason_text T r)) reason_plain

pub solvable_size : (T : Tables) (s : ℕ) → length (quoted (solvable_text T s)) ≡ length (quoted (name_text T (solvable_name T s))) + 1
    + length (quoted (version_text T s))
solvable_size T s = rw (solvable_quoted T s, length-append, length-append)

pub excluded_size : (T : Tables) (r : ℕ) → length (quoted (excluded_text T r)) ≡ 8 + length (quoted (reason_text T r))
excluded_size T r = rw (excluded_quoted T r, length-append)

-- a, v: the texts that were handed out
pub solvable_sum : (T : Tables) (s n : ℕ) (a v : List ℕ) (i j : ℕ) → n ≡ solvable_name T s → a ≡ name_text T n → v ≡ version_text T s → i ≡ length (quoted a)
    → j ≡ length (quoted v) → i + 1 + j ≡ length (quoted (solvable_text T s))
solvable_sum T s n a v i j qn qa qv qi qj = rw (solvable_size, qi, qj, qa, qv, qn)

pub solvable_room : (T : Tables) (s n : ℕ) (a v : List ℕ) (k : ℕ) → length (quoted (solvable_text T s)) ≤ k → n ≡ solvable_name T s → a ≡ name_text T n
    → v ≡ version_text T s → length (quoted a) + 1 + length (quoted v) ≤ k
solvable_room T s n a v k h qn qa qv = rw (qa, qv, qn) (rw solvable_size at h)

pub solvable_wrote : (T : Tables) (s n : ℕ) (a v o d : List ℕ) (r : ℕ) → Wrote (quoted a ++ utf8 " " ++ quoted v) o d r → n ≡ solvable_name T s
    → a ≡ name_text T n → v ≡ version_text T s → Wrote (quoted (solvable_text T s)) o d r
solvable_wrote T s n a v o d r w qn qa qv = rw solvable_quoted (rw (qa, qv, qn) at w)

pub excluded_sum : (T : Tables) (r : ℕ) (a : List ℕ) (i : ℕ) → a ≡ reason_text T r → i ≡ length (quoted a) → 8 + i ≡ length (quoted (excluded_text T r))
excluded_sum T r a i qa qi = rw (excluded_size, qi, qa)

pub excluded_room : (T : Tables) (r : ℕ) (a : List ℕ) (k : ℕ) → length (quoted (excluded_text T r)) ≤ k → a ≡ reason_text T r → 8 + length (quoted a) ≤ k
excluded_room T r a k h qa = rw qa (rw excluded_size at h)

pub excluded_wrote : (T : Tables) (r : ℕ) (a o d : List ℕ) (i : ℕ) → Wrote (utf8 "reason: " ++ quoted a) o d i → a ≡ reason_text T r
    → Wrote (quoted (excluded_text T r)) o d i
excluded_wrote T r a o d i w qa = rw excluded_quoted (rw qa at w)

module _ (T : Tables) (x : ConflictNode) where
  pub root_size : x ≡ N.Root → 6 ≡ length (quoted (node_text T x))
  unfolding node_text quoted
  root_size e = rw e

  pub root_room : (k : ℕ) → x ≡ N.Root → length (quoted (node_text T x)) ≤ k → 6 ≤ k
  unfolding node_text quoted
  root_room k e h = rw e at h

  pub root_wrote : (o d : List ℕ) (r : ℕ) → x ≡ N.Root → Wrote (utf8 "<root>") o d r → Wrote (quoted (node_text T x)) o d r
  unfolding node_text quoted
  root_wrote o d r e w = rw e w

  pub unresolved_size : x ≡ N.UnresolvedDependency → 10 ≡ length (quoted (node_text T x))
  unfolding node_text quoted
  unresolved_size e = rw e

  pub unresolved_room : (k : ℕ) → x ≡ N.UnresolvedDependency → length (quoted (node_text T x)) ≤ k → 10 ≤ k
  unfolding node_text quoted
  unresolved_room k e h = rw e at h

  pub unresolved_wrote : (o d : List ℕ) (r : ℕ) → x ≡ N.UnresolvedDependency → Wrote (utf8 "unresolved") o d r → Wrote (quoted (node_text T x)) o d r
  unfolding node_text quoted
  unresolved_wrote o d r e w = rw e w

  pub its_size : (s r : ℕ) → x ≡ N.Solvable s → r ≡ length (quoted (solvable_text T s)) → r ≡ length (quoted (node_text T x))
  unfolding node_text
  its_size s r e q = rw e q

  pub its_room : (s k : ℕ) → x ≡ N.Solvable s → length (quoted (node_text T x)) ≤ k → length (quoted (solvable_text T s)) ≤ k
  unfolding node_text
  its_room s k e h = rw e at h

  pub its_wrote : (s : ℕ) (o d : List ℕ) (r : ℕ) → x ≡ N.Solvable s → Wrote (quoted (solvable_text T s)) o d r → Wrote (quoted (node_text T x)) o d r
  unfolding node_text
  its_wrote s o d r e w = rw e w

  pub reason_size : (s r : ℕ) → x ≡ N.Excluded s → r ≡ length (quoted (excluded_text T s)) → r ≡ length (quoted (node_text T x))
  unfolding node_text
  reason_size s r e q = rw e q

  pub reason_room : (s k : ℕ) → x ≡ N.Excluded s → length (quoted (node_text T x)) ≤ k → length (quoted (excluded_text T s)) ≤ k
  unfolding node_text
  reason_room s k e h = rw e at h

  pub reason_wrote : (s : ℕ) (o d : List ℕ) (r : ℕ) → x ≡ N.Excluded s → Wrote (quoted (excluded_text T s)) o d r → Wrote (quoted (node_text T x)) o d r
  unfolding node_text
  reason_wrote s o d r e w = rw e w

pub ruleset node_sizes = (root_size, unresolved_size, its_size, reason_size)

pub ruleset node_rooms = (root_room, unresolved_room, its_room, reason_room)

pub ruleset node_wrotes = (root_wrote, unresolved_wrote, its_wrote, reason_wrote)

-- ---- labels: a label's text as one list, t, with its length and its writing

module _ (T : Tables) (c : ConflictCause) where
  pub locked_size : (s : ℕ) → c ≡ K.Locked s → 17 ≡ length (quoted (label T (W.Conflict c)))
  unfolding label quoted
  locked_size s e = rw e

  pub locked_room : (s k : ℕ) → c ≡ K.Locked s → length (quoted (label T (W.Conflict c))) ≤ k → 17 ≤ k
  unfolding label quoted
  locked_room s k e h = rw e at h

  pub locked_wrote : (s : ℕ) (o d : List ℕ) (r : ℕ) → c ≡ K.Locked s → Wrote (utf8 "already installed") o d r → Wrote (quoted (label T (W.Conflict c))) o d r
  unfolding label quoted
  locked_wrote s o d r e w = rw e w

  pub forbid_size : c ≡ K.ForbidMultipleInstances → 17 ≡ length (quoted (label T (W.Conflict c)))
  unfolding label quoted
  forbid_size e = rw e

  pub forbid_room : (k : ℕ) → c ≡ K.ForbidMultipleInstances → length (quoted (label T (W.Conflict c))) ≤ k → 17 ≤ k
  unfolding label quoted
  forbid_room k e h = rw e at h

  pub forbid_wrote : (o d : List ℕ) (r : ℕ) → c ≡ K.ForbidMultipleInstances → Wrote (utf8 "already installed") o d r
      → Wrote (quoted (label T (W.Conflict c))) o d r
  unfolding label quoted
  forbid_wrote o d r e w = rw e w

  pub exclude_size : c ≡ K.Excluded → 8 ≡ length (quoted (label T (W.Conflict c)))
  unfolding label quoted
  exclude_size e = rw e

  pub exclude_room : (k : ℕ) → c ≡ K.Excluded → length (quoted (label T (W.Conflict c))) ≤ k → 8 ≤ k
  unfolding label quoted
  exclude_room k e h = rw e at h

  pub exclude_wrote : (o d : List ℕ) (r : ℕ) → c ≡ K.Excluded → Wrote (utf8 "excluded") o d r → Wrote (quoted (label T (W.Conflict c))) o d r
  unfolding label quoted
  exclude_wrote o d r e w = rw e w

  -- t: the set's text that was handed out
  pub set_size : (v r : ℕ) (t : List ℕ) → c ≡ K.Constrains v → t ≡ set_text T v → r ≡ length (quoted t) → r ≡ length (quoted (label T (W.Conflict c)))
  unfolding label
  set_size v r t e q z = rw (e, ← q) z

  pub set_room : (v k : ℕ) (t : List ℕ) → c ≡ K.Constrains v → t ≡ set_text T v → length (quoted (label T (W.Conflict c))) ≤ k → length (quoted t) ≤ k
  unfolding label
  set_room v k t e q h = rw q (rw e at h)

  pub set_wrote : (v : ℕ) (t o d : List ℕ) (r : ℕ) → c ≡ K.Constrains v → t ≡ set_text T v → Wrote (quoted t) o d r
      → Wrote (quoted (label T (W.Conflict c))) o d r
  unfolding label
  set_wrote v t o d r e q w = rw (e, ← q) w

module _ (T : Tables) (w : ConflictEdge) where
  pub need_size : (v r : ℕ) (t : List ℕ) → w ≡ W.Requires v → t ≡ requirement_text T v → r ≡ length (quoted t) → r ≡ length (quoted (label T w))
  unfolding label
  need_size v r t e q z = rw (e, ← q) z

  pub need_room : (v k : ℕ) (t : List ℕ) → w ≡ W.Requires v → t ≡ requirement_text T v → length (quoted (label T w)) ≤ k → length (quoted t) ≤ k
  unfolding label
  need_room v k t e q h = rw q (rw e at h)

  pub need_wrote : (v : ℕ) (t o d : List ℕ) (r : ℕ) → w ≡ W.Requires v → t ≡ requirement_text T v → Wrote (quoted t) o d r → Wrote (quoted (label T w)) o d r
  unfolding label
  need_wrote v t o d r e q z = rw (e, ← q) z

  pub cause_size : (c : ConflictCause) (r : ℕ) → w ≡ W.Conflict c → r ≡ length (quoted (label T (W.Conflict c))) → r ≡ length (quoted (label T w))
  cause_size c r e q = rw e q

  pub cause_room : (c : ConflictCause) (k : ℕ) → w ≡ W.Conflict c → length (quoted (label T w)) ≤ k → length (quoted (label T (W.Conflict c))) ≤ k
  cause_room c k e h = rw e at h

  pub cause_wrote : (c : ConflictCause) (o d : List ℕ) (r : ℕ) → w ≡ W.Conflict c → Wrote (quoted (label T (W.Conflict c))) o d r
      → Wrote (quoted (label T w)) o d r
  cause_wrote c o d r e z = rw e z

-- ---- colours

module _ (red : Bool) where
  pub red_size : red ≡ true → 20 ≡ length (paint red)
  unfolding paint
  red_size e = rw e

  pub red_room : (k : ℕ) → red ≡ true → length (paint red) ≤ k → 20 ≤ k
  unfolding paint
  red_room k e h = rw e at h

  pub red_wrote : (o d : List ℕ) (r : ℕ) → red ≡ true → Wrote (utf8 "\"[color=red, label=\"") o d r → Wrote (paint red) o d r
  unfolding paint
  red_wrote o d r e w = rw e w

  pub black_size : red ≡ false → 22 ≡ length (paint red)
  unfolding paint
  black_size e = rw e

  pub black_room : (k : ℕ) → red ≡ false → length (paint red) ≤ k → 22 ≤ k
  unfolding paint
  black_room k e h = rw e at h

  pub black_wrote : (o d : List ℕ) (r : ℕ) → red ≡ false → Wrote (utf8 "\"[color=black, label=\"") o d r → Wrote (paint red) o d r
  unfolding paint
  black_wrote o d r e w = rw e w

-- ---- the whole

pub stroke_wrote : (T : Tables) (x y : ConflictNode) (red : Bool) (w : ConflictEdge) (o d : List ℕ) (r : ℕ)
    → Wrote (utf8 "\"" ++ quoted (node_text T x) ++ utf8 "\" -> \"" ++ quoted (node_text T y) ++ paint red ++ quoted (label T w) ++ utf8 "\"];") o d r
    → Wrote (stroke T x y red w) o d r
unfolding stroke
stroke_wrote T x y red w o d r z = z

-- ---- what is red

module _ (w : ConflictEdge) (x : ConflictNode) where
  pub red_conflict : (c : ConflictCause) → w ≡ W.Conflict c → true ≡ is_red w x
  unfolding is_red
  red_conflict c e = rw e

  module _ (q : ℕ) (e : w ≡ W.Requires q) where
    pub red_root : x ≡ N.Root → false ≡ is_red w x
    unfolding is_red
    red_root z = rw (e, z)

    pub red_solvable : (s : ℕ) → x ≡ N.Solvable s → false ≡ is_red w x
    unfolding is_red
    red_solvable s z = rw (e, z)

    pub red_unresolved : x ≡ N.UnresolvedDependency → true ≡ is_red w x
    unfolding is_red
    red_unresolved z = rw (e, z)

    pub red_reason : (s : ℕ) → x ≡ N.Excluded s → false ≡ is_red w x
    unfolding is_red
    red_reason s z = rw (e, z)
