-- One pass along the post-order gives both labels: the marks agree with the lists of the definitions.
use Rattle.std.specs.Prelude.{◌≡◌, Bool, cond, ◌&&◌, ◌||◌, ℕ, zero, suc, ◌+◌, ◌%◌, ◌<◌, length, get_or, set, replicate, eqb, ltb}
use Rattle.std.proofs.Math.Path.{refl}
use Rattle.std.proofs.Common.{sym, ap, ◌∙◌, inl, inr, arith, get_or-set_same, get_or-set_other, ext_get_or, eqb-true}
use Rattle.std.proofs.Math.Bool.{true, false, not}
use mathlib.Core.List.{List, [], ◌∷◌, map}
use Rattle.std.proofs.Math.ListN.{length-set}
use Rattle.std.proofs.lemmas.List.{length-replicate, length-map}
use Rattle.std.proofs.lemmas.Bool.{eqb-false}
use Rattle.basis.specs.Lists.{any, has, upto}
use Rattle.basis.specs.Members.{In, split}
use Rattle.store.specs.Graph.{Graph, out}
use Rattle.labels.proofs.Scanned.{some_none}
use Rattle.labels.specs.Labels.{order_of, conflicts, can_install, is_lacking, passing, installables, missings, installable, missing, has_unresolved}
use Rattle.labels.specs.Facts.{Sound, has_own, has_other, blank}
use Rattle.labels.proofs.Local.{install_local, lacking_local}
use Rattle.labels.specs.Bounds.{order_below}
use Rattle.labels.specs.Marks.{bits_of, label_bits, inst_at, miss_at, node_mark, marks_along, upto_at}

-- ---- the marks agree with the lists of the definitions

inst_bits : (a b : Bool) → eqb (bits_of a b % 2) 1 ≡ a
inst_bits true true = refl
inst_bits true false = refl
inst_bits false true = refl
inst_bits false false = refl

miss_bits : (a b : Bool) → ltb 1 (bits_of a b) ≡ b
miss_bits true true = refl
miss_bits true false = refl
miss_bits false true = refl
miss_bits false false = refl

record Agrees (ms I M : List ℕ) : Type 0 where
  long : length ms ≡ 128
  inst : (t : ℕ) → inst_at ms t ≡ has t I
  miss : (t : ℕ) → miss_at ms t ≡ has t M
  only : (t : ℕ) → get_or ms t 0 ≡ bits_of (has t I) (has t M)

module _ (G : Graph) where
  inst_rule : (ms I M : List ℕ) → Agrees ms I M → (n : ℕ) → can_install G (inst_at ms) n ≡ can_install G (λ t. has t I) n
  inst_rule ms I M a n = install_local G n (inst_at ms) (λ t. has t I) (λ t i. a.inst t)

  miss_rule : (ms I M : List ℕ) → Agrees ms I M → (n : ℕ) → is_lacking G (miss_at ms) n ≡ is_lacking G (λ t. has t M) n
  miss_rule ms I M a n = lacking_local G n (miss_at ms) (λ t. has t M) (λ t i. a.miss t)

  -- with n added where b
  abbrev with_it : Bool → ℕ → List ℕ → List ℕ
  with_it true n l = n ∷ l
  with_it false n l = l

  with_own : (b : Bool) (n : ℕ) (l : List ℕ) → b || has n l ≡ has n (with_it b n l)
  with_own true n l = sym (has_own n l)
  with_own false n l = refl

  with_other : (b : Bool) (t n : ℕ) (l : List ℕ) → (t ≡ n → ⊥) → has t l ≡ has t (with_it b n l)
  with_other true t n l d = sym (has_other t n l d)
  with_other false t n l d = refl

  module _ (ms I M : List ℕ) (a : Agrees ms I M) (n : ℕ) (h : n < 128) where
    abbrev ci : Bool
    ci = can_install G (λ t. has t I) n

    abbrev la : Bool
    la = is_lacking G (λ t. has t M) n

    mark_is : node_mark G ms n ≡ bits_of (has n (with_it ci n I)) (has n (with_it la n M))
    unfolding node_mark
    mark_is = rw (inst_rule ms I M a n, miss_rule ms I M a n, a.inst n, a.miss n, with_own ci n I, with_own la n M)

    marked : (t : ℕ) → get_or (set ms n (node_mark G ms n)) t 0 ≡ bits_of (has t (with_it ci n I)) (has t (with_it la n M))
    marked t =
        split (eqb t n)
        (λ e. rw (eqb-true t n e, get_or-set_same ms n (node_mark G ms n) 0 (omega (arith, a.long))) mark_is)
        (λ e. let d : t ≡ n → ⊥ = eqb-false t n e in
        rw (get_or-set_other ms n t (node_mark G ms n) 0 d, ← with_other ci t n I d, ← with_other la t n M d) (a.only t))

    agrees_next : Agrees (set ms n (node_mark G ms n)) (with_it ci n I) (with_it la n M)
    unfolding inst_at miss_at
    agrees_next =
        record {
          long = rw length-set a.long;
          inst = λ t. rw (marked t) (inst_bits (has t (with_it ci n I)) (has t (with_it la n M)));
          miss = λ t. rw (marked t) (miss_bits (has t (with_it ci n I)) (has t (with_it la n M)));
          only = marked;
        }

  passing_one : (rule : (ℕ → Bool) → ℕ → Bool) (n : ℕ) (ns yet : List ℕ) → passing rule (n ∷ ns) yet ≡ passing rule ns (with_it (rule (λ t. has t yet) n) n yet)
  unfolding passing
  passing_one rule n ns yet = split (rule (λ t. has t yet) n) (λ e. rw (e, passing)) (λ e. rw (e, passing))

  agrees_all : (ns ms I M : List ℕ) → ((t : ℕ) → In t ns → t < 128) → Agrees ms I M
      → Agrees (marks_along G ns ms) (passing (can_install G) ns I) (passing (is_lacking G) ns M)
  unfolding marks_along passing
  agrees_all [] ms I M h a = a
  agrees_all (n ∷ ns) ms I M h a =
      rw (passing_one (can_install G) n ns I, passing_one (is_lacking G) n ns M)
      (agrees_all ns (set ms n (node_mark G ms n)) (with_it (can_install G (λ t. has t I) n) n I) (with_it (is_lacking G (λ t. has t M) n) n M)
      (λ t i. h t (inr i)) (agrees_next ms I M a n (h n (inl refl))))

  -- ---- where it starts

  abbrev pub start_m : List ℕ
  start_m = cond (has_unresolved G) (1 ∷ []) []

  lacking_none : (n : ℕ) → is_lacking G (λ t. has t []) n ≡ false
  unfolding is_lacking
  lacking_none n = rw (some_none (λ t. has t []) (λ t. refl) (out G n)) (no (any conflicts (out G n)))
    where
      no : (b : Bool) → not b && false ≡ false
      no true = refl
      no false = refl

  passing_none : (ns : List ℕ) → passing (is_lacking G) ns [] ≡ []
  unfolding passing
  passing_none [] = refl
  passing_none (n ∷ ns) = rw (lacking_none n, passing) (passing_none ns)

  missings_from : missings G ≡ passing (is_lacking G) (order_of G) start_m
  unfolding missings
  missings_from = split (has_unresolved G) (λ e. rw (e, cond)) (λ e. rw (e, cond) (sym (passing_none (order_of G))))

-- no node is marked
agrees_zero : Agrees (replicate 128 0) [] []
unfolding inst_at miss_at
agrees_zero = record { long = length-replicate {A = ℕ} 128 0; inst = λ t. rw (blank 128 t); miss = λ t. rw (blank 128 t); only = blank 128 }

-- unresolved is
agrees_one : Agrees (set (replicate 128 0) 1 2) [] (1 ∷ [])
unfolding inst_at miss_at
agrees_one =
    record {
      long = length-set {A = ℕ} (replicate 128 0) 1 2 ∙ length-replicate {A = ℕ} 128 0;
      inst = λ t. rw (at t) (inst_bits false (has t (1 ∷ [])));
      miss = λ t. rw (at t) (miss_bits false (has t (1 ∷ [])));
      only = at;
    }
  where
    at : (t : ℕ) → get_or (set (replicate 128 0) 1 2) t 0 ≡ bits_of false (has t (1 ∷ []))
    at t =
        split (eqb t 1) (λ e. rw (e, any, eqb-true t 1 e))
        (λ e. rw (e, any, get_or-set_other {A = ℕ} (replicate 128 0) 1 t 2 0 (eqb-false t 1 e)) (blank 128 t))

-- ---- at the end

length_upto : (k a : ℕ) → length (upto k a) ≡ k
length_upto zero a = refl
length_upto (suc k) a = ap suc (length_upto k (suc a))

agrees_end : (G : Graph) (ms : List ℕ) → Agrees ms (installables G) (missings G) → ms ≡ label_bits G
unfolding label_bits
agrees_end G ms a =
    ext_get_or 0 ms (map (λ n. bits_of (installable G n) (missing G n)) (upto 128 0))
    (a.long ∙ sym (length-map (upto 128 0) (λ n. bits_of (installable G n) (missing G n)) ∙ length_upto 128 0))
    (λ t h. a.only t ∙ sym (upto_at (λ n. bits_of (installable G n) (missing G n)) 128 0 t (omega (arith, a.long)) ∙ zero_plus t))
  where
    zero_plus : (t : ℕ) → bits_of (installable G (0 + t)) (missing G (0 + t)) ≡ bits_of (installable G t) (missing G t)
    zero_plus t = let z : 0 + t ≡ t = omega arith in rw z

pub marks_end : (G : Graph) → Sound G → (ms : List ℕ) → ms ≡ cond (has_unresolved G) (set (replicate 128 0) 1 2) (replicate 128 0)
    → marks_along G (order_of G) ms ≡ label_bits G
unfolding installables
marks_end G s ms q =
    agrees_end G (marks_along G (order_of G) ms)
    (rw (missings_from G) (agrees_all G (order_of G) ms [] (start_m G) (λ t i. small t (order_below G s t i)) start))
  where
    small : (t : ℕ) → t < length G.nodes → t < 128
    small t h = omega (arith, s.most)

    start : Agrees ms [] (start_m G)
    start = rw q (split (has_unresolved G) (λ e. rw (e, cond) agrees_one) (λ e. rw (e, cond) agrees_zero))
