-- The two words of a node.
use Rattle.std.specs.Prelude.{◌≡◌, ℕ, ◌+◌, ◌*◌, ◌/◌, ◌%◌, ◌<◌}
use Rattle.std.proofs.Common.{arith}
use Rattle.store.specs.declared.ConflictNode.{ConflictNode}
use Rattle.store.specs.declared.ConflictNode.TheVariants as N
use Rattle.plan.specs.Display.{solvable_by}

-- w: the node's word in the table of groups
pub record HeadWord (v first end kind w s : ℕ) : Type 0 where
  pub first_is : v % 2048 ≡ first
  pub end_is : v / 2048 % 2048 ≡ end
  pub kind_is : v / 4194304 % 8 ≡ kind
  pub merged_is : v / 33554432 % 2 ≡ w / 128 % 2
  pub lead_is : v / 67108864 % 128 ≡ w % 128
  pub mate_is : v / 8589934592 % 256 ≡ w / 256
  pub solvable_is : v / 2199023255552 % 65536 ≡ s
  pub rest : v < 144115188075855872

abbrev head_of : ℕ → ℕ → ℕ → ℕ → ℕ → ℕ → ℕ → ℕ
head_of a b c m l x s = a + 2048 * b + 4194304 * c + 33554432 * m + 67108864 * l + 8589934592 * x + 2199023255552 * s

record Head (v a b c m l x s : ℕ) : Type 0 where
  a_is : v % 2048 ≡ a
  b_is : v / 2048 % 2048 ≡ b
  c_is : v / 4194304 % 8 ≡ c
  m_is : v / 33554432 % 2 ≡ m
  l_is : v / 67108864 % 128 ≡ l
  x_is : v / 8589934592 % 256 ≡ x
  s_is : v / 2199023255552 % 65536 ≡ s
  rest_is : v < 144115188075855872

head : (a b c m l x s : ℕ) → a < 2048 → b < 2048 → c < 8 → m < 2 → l < 128 → x < 256 → s < 65536 → Head (head_of a b c m l x s) a b c m l x s
head a b c m l x s ha hb hc hm hl hx hs =
    record {
      a_is = omega arith;
      b_is = omega arith;
      c_is = omega arith;
      m_is = omega arith;
      l_is = omega arith;
      x_is = omega arith;
      s_is = omega arith;
      rest_is = omega arith;
    }

pub head_packed : (a b c m l x s w : ℕ) → m ≡ w / 128 % 2 → l ≡ w % 128 → x ≡ w / 256 → a < 2048 → b < 2048 → c < 8 → w < 65536 → s < 65536
    → HeadWord (a + 2048 * b + 4194304 * c + 33554432 * m + 67108864 * l + 8589934592 * x + 2199023255552 * s) a b c w s
head_packed a b c m l x s w hm hl hx ha hb hc hw hs =
    let z = head a b c m l x s ha hb hc (omega arith) (omega arith) (omega arith) hs in
    record {
      first_is = z.a_is;
      end_is = z.b_is;
      kind_is = z.c_is;
      merged_is = rw (← hm) z.m_is;
      lead_is = rw (← hl) z.l_is;
      mate_is = rw (← hx) z.x_is;
      solvable_is = z.s_is;
      rest = z.rest_is;
    }

pub record TailWord (v first end reason : ℕ) : Type 0 where
  pub first_is : v % 2048 ≡ first
  pub end_is : v / 2048 % 2048 ≡ end
  pub reason_is : v / 4194304 % 65536 ≡ reason
  pub rest : v < 274877906944

-- the number of a node's solvable
module _ (r y : ConflictNode) where
  pub number_root : r ≡ N.Root → r ≡ y → 0 ≡ solvable_by y
  number_root e q = rw (← q, e)

  pub number_own : (t : ℕ) → r ≡ N.Solvable t → r ≡ y → t ≡ solvable_by y
  number_own t e q = rw (← q, e)

  pub number_unresolved : r ≡ N.UnresolvedDependency → r ≡ y → 0 ≡ solvable_by y
  number_unresolved e q = rw (← q, e)

  pub number_excluded : (t : ℕ) → r ≡ N.Excluded t → r ≡ y → 0 ≡ solvable_by y
  number_excluded t e q = rw (← q, e)

-- a tail to which a length is added
module _ (v t l : ℕ) (is : v ≡ t + 274877906944 * l) where
  pub tail_first : v % 2048 ≡ t % 2048
  tail_first = omega arith

  pub tail_end : v / 2048 % 2048 ≡ t / 2048 % 2048
  tail_end = let q : v / 2048 ≡ t / 2048 + 134217728 * l = omega arith in rw q (omega arith)

  pub tail_reason : v / 4194304 % 65536 ≡ t / 4194304 % 65536
  tail_reason = let q : v / 4194304 ≡ t / 4194304 + 65536 * l = omega arith in rw q (omega arith)

  pub tail_length : t < 274877906944 → l < 65536 → v / 274877906944 % 65536 ≡ l
  tail_length h k = let q : v / 274877906944 ≡ l = omega arith in rw q (omega arith)
