-- The frames as they stand in the lent array, and what they are to the machine.
use Rattle.std.specs.Prelude.{◌≡◌, refl, Bool, true, false, not, List, [], ◌∷◌, ℕ, zero, suc, ◌+◌, ◌-◌, ◌/◌, ◌%◌, ◌≤◌, ◌<◌, length, get_or, set, leb}
use Rattle.std.proofs.Common.{ap, not-suc-le-zero, add-one, sub-one, get_or-set_same, get_or-set_other}
use native.Mathlib.Omega.{arith}
use borrow.Author.Tests.{eq-eqb, ne_eqb, leb-true, leb-false}
use Rattle.basis.specs.Lists.{any, has, is_nil, take_while}
use Rattle.basis.specs.Members.{split}
use Rattle.machine.specs.Frames.{Frame, branch_of}
use Rattle.plan.specs.Fields.{merged_in, run_end, kid_end, runs_from, runs_none, runs_more, kids_from, kids_none, kids_more}
use Rattle.explanation.specs.declared.frames.Top.{Top}

-- ---- a frame: package (8 bits), first of the runs and first of the kids that wait beside it (11 bits each)

-- The ends follow from the plan: the runs are those of the package opened before, and kids that wait are the kids of the run before
-- the first one that waits.

pub record Packed (w n r k : ℕ) : Type 0 where
  pub node : w % 256 ≡ n
  pub runs : w / 256 % 2048 ≡ r
  pub kids : w / 524288 % 2048 ≡ k

-- the package opened last of the first d, or the root
unfoldable pub owner_in : List ℕ → ℕ → ℕ
owner_in fr zero = 0
owner_in fr (suc d) = get_or fr d 0 % 256

unfoldable pub frame_in : List ℕ → List ℕ → List ℕ → ℕ → Frame ℕ
frame_in p k fr d =
    record {
      node = get_or fr d 0 % 256;
      runs = runs_from (get_or fr d 0 / 256 % 2048) (run_end p (owner_in fr d));
      kids = kids_from k (get_or fr d 0 / 524288 % 2048) (kid_end p (get_or fr d 0 / 256 % 2048 - 1));
    }

-- those below d, the latest first
unfoldable pub frames_in : List ℕ → List ℕ → List ℕ → ℕ → List (Frame ℕ)
frames_in p k fr zero = []
frames_in p k fr (suc d) = frame_in p k fr d ∷ frames_in p k fr d

-- the packages alone
unfoldable pub branch_in : List ℕ → ℕ → List ℕ
branch_in fr zero = []
branch_in fr (suc d) = get_or fr d 0 % 256 ∷ branch_in fr d

pub frames_length : (p k fr : List ℕ) (d : ℕ) → length (frames_in p k fr d) ≡ d
unfolding frames_in
frames_length p k fr zero = refl
frames_length p k fr (suc d) = ap suc (frames_length p k fr d)

pub frames_branch : (p k fr : List ℕ) (d : ℕ) → branch_of (frames_in p k fr d) ≡ branch_in fr d
unfolding frames_in branch_in frame_in
frames_branch p k fr zero = refl
frames_branch p k fr (suc d) = ap (λ (b : List ℕ). get_or fr d 0 % 256 ∷ b) (frames_branch p k fr d)

owner_above : (fr : List ℕ) (d i w : ℕ) → d ≤ i → owner_in (set fr i w) d ≡ owner_in fr d
unfolding owner_in
owner_above fr zero i w h = refl
owner_above fr (suc d) i w h = rw (get_or-set_other fr i d w 0 (λ q. omega arith))

frames_above : (p k fr : List ℕ) (d i w : ℕ) → d ≤ i → frames_in p k (set fr i w) d ≡ frames_in p k fr d
unfolding frames_in frame_in
frames_above p k fr zero i w h = refl
frames_above p k fr (suc d) i w h =
    rw (get_or-set_other fr i d w 0 (λ q. omega arith), owner_above fr d i w (omega arith), frames_above p k fr d i w (omega arith))

pub frames_push : (p k fr : List ℕ) (d w n r a : ℕ) → d < length fr → Packed w n r a
    → frames_in p k (set fr d w) (d + 1) ≡ record {
      node = n;
      runs = runs_from r (run_end p (owner_in fr d));
      kids = kids_from k a (kid_end p (r - 1));
    } ∷ frames_in p k fr d
unfolding frames_in frame_in
frames_push p k fr d w n r a h q =
    rw (add-one, get_or-set_same fr d w 0 h, owner_above fr d d w (omega arith), frames_above p k fr d d w (omega arith), q.node, q.runs, q.kids)

pub owner_push : (fr : List ℕ) (d w n r a : ℕ) → d < length fr → Packed w n r a → owner_in (set fr d w) (d + 1) ≡ n
unfolding owner_in
owner_push fr d w n r a h q = rw (add-one, get_or-set_same fr d w 0 h, q.node)

pub frames_pop : (p k fr : List ℕ) (d : ℕ) → 0 < d → frames_in p k fr d ≡ frame_in p k fr (d - 1) ∷ frames_in p k fr (d - 1)
unfolding frames_in
frames_pop p k fr zero h = absurd (not-suc-le-zero h)
frames_pop p k fr (suc d) h = rw sub-one

-- as code finds it
pub owner_some : (fr : List ℕ) (d : ℕ) → 0 < d → get_or fr (d - 1) 0 % 256 ≡ owner_in fr d
unfolding owner_in
owner_some fr zero h = absurd (not-suc-le-zero h)
owner_some fr (suc d) h = rw sub-one

pub owner_none : (fr : List ℕ) (d : ℕ) → d ≤ 0 → 0 ≡ owner_in fr d
unfolding owner_in
owner_none fr zero h = refl
owner_none fr (suc d) h = absurd (not-suc-le-zero h)

branch_pop : (fr : List ℕ) (d : ℕ) → 0 < d → branch_in fr d ≡ (get_or fr (d - 1) 0 % 256) ∷ branch_in fr (d - 1)
unfolding branch_in
branch_pop fr zero h = absurd (not-suc-le-zero h)
branch_pop fr (suc d) h = rw sub-one

-- the frame that is popped
pub record Popped (p fr : List ℕ) (t u : Top) : Type 0 where
  pub r : u.r ≡ get_or fr (t.d - 1) 0 / 256 % 2048
  pub re : u.re ≡ run_end p (owner_in fr (t.d - 1))
  pub k : u.k ≡ get_or fr (t.d - 1) 0 / 524288 % 2048
  pub ke : u.ke ≡ kid_end p (get_or fr (t.d - 1) 0 / 256 % 2048 - 1)
  pub rend : u.re < 2048
  pub kend : u.ke < 2048
  pub d : u.d ≡ t.d - 1
  pub at : u.at ≡ t.at
  pub units : u.units ≡ t.units
  pub depth : u.depth ≡ t.depth

pub popped : (p fr : List ℕ) (t : Top) (m re x ke : ℕ) → m ≡ owner_in fr (t.d - 1) → re ≡ run_end p m → re < 2048 → x ≡ get_or fr (t.d - 1) 0 / 256 % 2048 - 1
    → ke ≡ kid_end p x → ke < 2048
    → Popped p fr t (record {
      r = get_or fr (t.d - 1) 0 / 256 % 2048;
      re = re;
      k = get_or fr (t.d - 1) 0 / 524288 % 2048;
      ke = ke;
      d = t.d - 1;
      at = t.at;
      units = t.units;
      depth = t.depth;
    })
popped p fr t m re x ke mi ri rl xi ki kl =
    record { r = refl; re = rw (← mi) ri; k = refl; ke = rw (← xi) ki; rend = rl; kend = kl; d = refl; at = refl; units = refl; depth = refl }

-- ---- what waits: none, or not

pub nil_runs : (r e : ℕ) → leb e r ≡ is_nil (runs_from r e)
nil_runs r e = split (leb e r) (λ q. rw (q, runs_none r e (leb-true e r q))) (λ q. rw (q, runs_more r e (leb-false e r q)))

pub nil_kids : (k : List ℕ) (i e : ℕ) → leb e i ≡ is_nil (kids_from k i e)
nil_kids k i e = split (leb e i) (λ q. rw (q, kids_none k i e (leb-true e i q))) (λ q. rw (q, kids_more k i e (leb-false e i q)))

-- ---- "below itself with only unmerged ones between" (machine: `below`)

unfoldable pub below_in : List ℕ → List ℕ → ℕ → Bool
below_in p b n = has n (take_while (λ m. not (merged_in p m)) b)

module _ (p fr : List ℕ) (j d n : ℕ) (inv : below_in p (branch_in fr j) n ≡ below_in p (branch_in fr d) n) where
  pub below_end : j ≤ 0 → false ≡ below_in p (branch_in fr d) n
  unfolding below_in branch_in
  below_end h = let z : j ≡ 0 = omega arith in rw z at inv

  module _ (b : Bool) (is : b ≡ merged_in p (get_or fr (j - 1) 0 % 256)) (h : 0 < j) where
    pub below_merged : b ≡ true → false ≡ below_in p (branch_in fr d) n
    unfolding below_in
    below_merged t = rw (branch_pop fr j h, ← is, t, take_while) at inv

    pub below_same : b ≡ false → n ≡ get_or fr (j - 1) 0 % 256 → true ≡ below_in p (branch_in fr d) n
    unfolding below_in
    below_same t e = rw (branch_pop fr j h, ← is, t, take_while, eq-eqb _ _ e, any) at inv

    pub below_other : b ≡ false → (n ≡ get_or fr (j - 1) 0 % 256 → ⊥) → below_in p (branch_in fr (j - 1)) n ≡ below_in p (branch_in fr d) n
    unfolding below_in
    below_other t e = rw (branch_pop fr j h, ← is, t, take_while, ne_eqb _ _ e, any) at inv
