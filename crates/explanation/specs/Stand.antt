-- Where the walk stands, as the machine's stack, and how it goes on behind a package's lines.
use Rattle.std.specs.Prelude.{◌≡◌, Bool, List, ◌∷◌, ◌++◌, ℕ, suc, ◌+◌, ◌*◌, ◌-◌, ◌≤◌, ◌<◌, max, set, leb}
use Rattle.std.proofs.Math.Path.{refl, sym, ap}
use Rattle.std.proofs.Common.{◌∙◌}
use Rattle.std.proofs.Math.Bool.{true, false}
use native.Mathlib.Omega.{arith}
use Rattle.std.proofs.Math.ListN.{length, length-set}
use Rattle.basis.specs.Lists.{is_nil}
use Rattle.machine.specs.Machine.{Entry, under, openings}
use Rattle.machine.specs.Frames.{Frame, marks_of, branch_of, stack_at, kid_entry, kid_marks, marks_length, under_open, under_shut, openings_open, openings_shut}
use Rattle.texts.specs.MarkBits as M
use Rattle.texts.specs.MarkBits.{upper, pushed}
use Rattle.texts.specs.Levels.{marks_count, pushed_below, upper_whole, upper_under, upper_own, upper_upper}
use Rattle.texts.specs.declared.Indenter.{Indenter}
use Rattle.plan.specs.Fields.{plan_in, opens_in, runs_in, kid_first, kid_end, run_first, run_end, runs_from, kids_from, kids_none}
use Rattle.explanation.specs.Frames.{Packed, owner_in, frame_in, frames_in, frames_length, frames_push, owner_push, frames_pop, Popped, nil_runs, nil_kids}
use Rattle.explanation.specs.declared.frames.Top.{Top}

module _ (p k : List ℕ) (t : Top) (fr : List ℕ) where
  -- the runs that wait; the kids behind the next; the opened packages
  abbrev pub runs_at : List ℕ
  runs_at = runs_from t.r t.re

  abbrev pub kids_at : List ℕ
  kids_at = kids_from k (t.k + 1) t.ke

  abbrev pub frames_at : List (Frame ℕ)
  frames_at = frames_in p k fr t.d

  unfoldable pub stack_in : List (Entry ℕ)
  stack_in = stack_at (runs_from t.r t.re) (kids_from k t.k t.ke) (frames_in p k fr t.d)

-- the indenter whose marks are lent
abbrev pub indenter_at : List ℕ → ℕ → Bool → Indenter
indenter_at ws n top = record { levels = ws; count = n; top = top }

-- behind a kid that is passed over, and behind a run's line of b bytes
abbrev pub next_kid : Top → Top
next_kid t = record { r = t.r; re = t.re; k = t.k + 1; ke = t.ke; d = t.d; at = t.at; units = t.units; depth = t.depth }

abbrev pub next_run : List ℕ → Top → ℕ → Top
next_run p t b =
    record { r = t.r + 1; re = t.re; k = kid_first p t.r; ke = kid_end p t.r; d = t.d; at = t.at + b; units = t.units + 1; depth = t.depth }

pub next_run_lem : (p : List ℕ) (t : Top) (b kf kl : ℕ) → kf ≡ kid_first p t.r → kl ≡ kid_end p t.r
    → record { r = t.r + 1; re = t.re; k = kf; ke = kl; d = t.d; at = t.at + b; units = t.units + 1; depth = t.depth } ≡ next_run p t b
next_run_lem p t b kf kl e f = rw (e, f)

-- what packing gives; each opened package has a line; the runs are those of the package opened last, and the kids those of the run before
pub record Small (p fr : List ℕ) (t : Top) : Type 0 where
  pub r : t.r < 2048
  pub re : t.re < 2048
  pub k : t.k < 2048
  pub ke : t.ke < 2048
  pub d : t.d ≤ 2079
  pub rune : t.re ≡ run_end p (owner_in fr t.d)
  pub kide : t.k < t.ke → t.ke ≡ kid_end p (t.r - 1)
  pub deep : t.d ≤ t.depth
  pub units : t.units ≤ t.at

-- a line takes a byte of the room, a package that is skipped is no longer pending, and a frame that is popped was one
abbrev pub measure : ℕ → Top → ℕ
measure room t = (room - t.at) * 16777216 + t.d * 4096 + (t.ke - t.k)

-- the indenter holds the marks of the opened packages, and of the run whose kids wait
pub record Indented (p k fr : List ℕ) (t : Top) (g : Indenter) : Type 0 where
  pub count : g.count ≤ 4160
  pub levels : 2 * t.d ≤ g.count
  pub above : upper (2 * t.d) (M.marks_in g) ≡ marks_of (frames_in p k fr t.d)
  pub wide : t.k < t.ke → 2 * t.d + 1 ≤ g.count
  pub beside : t.k < t.ke → upper (2 * t.d + 1) (M.marks_in g) ≡ is_nil (runs_from t.r t.re) ∷ marks_of (frames_in p k fr t.d)

-- ---- the indenter of the next entry

-- h is g, back at the level of what comes next, with its mark
pub record Stepped (t : Top) (g h : Indenter) : Type 0 where
  pub count : h.count ≤ 4160
  pub top : h.top ≡ g.top
  pub kid : t.k < t.ke → M.marks_in h ≡ pushed (leb t.ke (t.k + 1)) (upper (2 * t.d + 1) (M.marks_in g))
  pub run : t.ke ≤ t.k → t.r < t.re → M.marks_in h ≡ pushed (leb t.re (t.r + 1)) (upper (2 * t.d) (M.marks_in g))
  pub none : t.ke ≤ t.k → t.re ≤ t.r → h ≡ g

module _ (t : Top) (ws vs : List ℕ) (n r : ℕ) (top : Bool) where
  pub step_kid : t.k < t.ke → M.marks_at vs r ≡ pushed (leb t.ke (t.k + 1)) (upper (2 * t.d + 1) (M.marks_at ws n)) → r ≤ 4160
      → Stepped t (indenter_at ws n top) (indenter_at vs r top)
  unfolding M.marks_in
  step_kid l m c =
      record {
        count = c;
        top = refl;
        kid = λ q. m;
        run = λ q r. let z : ⊥ = omega arith in absurd z;
        none = λ q r. let z : ⊥ = omega arith in absurd z;
      }

  pub step_run : t.ke ≤ t.k → t.r < t.re → M.marks_at vs r ≡ pushed (leb t.re (t.r + 1)) (upper (2 * t.d) (M.marks_at ws n))
      → r ≤ 4160
      → Stepped t (indenter_at ws n top) (indenter_at vs r top)
  unfolding M.marks_in
  step_run l g m c =
      record {
        count = c;
        top = refl;
        kid = λ q. let z : ⊥ = omega arith in absurd z;
        run = λ q r. m;
        none = λ q r. let z : ⊥ = omega arith in absurd z;
      }

pub step_none : (t : Top) (g : Indenter) → t.ke ≤ t.k → t.re ≤ t.r → g.count ≤ 4160 → Stepped t g g
step_none t g l n c =
    record { count = c; top = refl; kid = λ q. let z : ⊥ = omega arith in absurd z; run = λ q r. let z : ⊥ = omega arith in absurd z; none = λ q r. refl }

-- the marks of the next entry
pub record Level (p k fr : List ℕ) (t : Top) (g : Indenter) : Type 0 where
  pub count : g.count ≤ 4160
  pub kid : t.k < t.ke → M.marks_in g ≡ kid_marks (runs_at p k t fr) (kids_at p k t fr) (frames_at p k t fr)
  pub run : t.ke ≤ t.k → t.r < t.re → M.marks_in g ≡ is_nil (runs_from (t.r + 1) t.re) ∷ marks_of (frames_at p k t fr)
  pub none : t.ke ≤ t.k → t.re ≤ t.r → Indented p k fr t g

pub level_kid : (p k fr : List ℕ) (t : Top) (g : Indenter) → Level p k fr t g → t.k < t.ke
    → M.marks_in g ≡ kid_marks (runs_at p k t fr) (kids_at p k t fr) (frames_at p k t fr)
level_kid p k fr t g l h = l.kid h

pub level_run : (p k fr : List ℕ) (t : Top) (g : Indenter) → Level p k fr t g → t.ke ≤ t.k → t.r < t.re
    → M.marks_in g ≡ is_nil (runs_from (t.r + 1) t.re) ∷ marks_of (frames_at p k t fr)
level_run p k fr t g l h i = l.run h i

pub level_step : (p k fr : List ℕ) (t : Top) (g h : Indenter) → Indented p k fr t g → Stepped t g h → Small p fr t → Level p k fr t h
level_step p k fr t g h e s sm =
    let b = marks_length (frames_at p k t fr) in
    let c = frames_length p k fr t.d in
    let d = sm.d in
    record {
      count = s.count;
      kid = λ l.
          s.kid l ∙ rw (e.beside l, nil_kids k (t.k + 1) t.ke) (pushed_below (is_nil (kids_at p k t fr))
          (is_nil (runs_at p k t fr) ∷ marks_of (frames_at p k t fr)) (omega arith));
      run =
          λ l m. s.run l m ∙ rw (e.above, nil_runs (t.r + 1) t.re)
          (pushed_below (is_nil (runs_from (t.r + 1) t.re)) (marks_of (frames_at p k t fr)) (omega arith));
      none = λ l m. rw (s.none l m) e;
    }

-- ---- behind the lines of package n

pub record Entered (p k : List ℕ) (t : Top) (n : ℕ) (fr : List ℕ) (u : Top) (fr' : List ℕ) : Type 0 where
  pub left : stack_in p k u fr' ≡ under (plan_in p k) (kid_marks (runs_at p k t fr) (kids_at p k t fr) (frames_at p k t fr)) (branch_of (frames_at p k t fr)) n
      ++ stack_at (runs_at p k t fr) (kids_at p k t fr) (frames_at p k t fr)
  pub at : u.at ≡ t.at
  pub units : u.units ≡ t.units
  pub depth : u.depth ≡ max t.depth (openings (plan_in p k) (kid_entry n (runs_at p k t fr) (kids_at p k t fr) (frames_at p k t fr)))
  pub small : Small p fr' u
  pub low : u.d * 4096 + (u.ke - u.k) < t.d * 4096 + 8192
  pub long : length fr' ≡ length fr
  pub held : (g : Indenter) → g.count ≤ 4160 → M.marks_in g ≡ kid_marks (runs_at p k t fr) (kids_at p k t fr) (frames_at p k t fr) → Indented p k fr' u g

module _ (p k : List ℕ) (t : Top) (fr : List ℕ) (g : Indenter) (is : M.marks_in g ≡ kid_marks (runs_at p k t fr) (kids_at p k t fr) (frames_at p k t fr)) where
  kid_count : g.count ≡ 2 * t.d + 2
  kid_count =
      let a = marks_count g in
      let b = marks_length (frames_at p k t fr) in
      let c = frames_length p k fr t.d in
      let e : length (M.marks_in g) ≡ suc (suc (length (marks_of (frames_at p k t fr)))) = ap length is in
      omega arith

  -- there is a level left for the lines under it
  kid_low : t.d < 2079 → g.count < 4160
  kid_low h = let c = kid_count in omega arith

  own_level : length (is_nil (runs_at p k t fr) ∷ marks_of (frames_at p k t fr)) ≡ 2 * t.d + 1
  own_level = let b = marks_length (frames_at p k t fr) in let c = frames_length p k fr t.d in omega arith

  kid_beside : upper (2 * t.d + 1) (M.marks_in g) ≡ is_nil (runs_at p k t fr) ∷ marks_of (frames_at p k t fr)
  kid_beside = rw is (rw own_level at (upper_own (is_nil (kids_at p k t fr)) (is_nil (runs_at p k t fr) ∷ marks_of (frames_at p k t fr))))

  kid_above : upper (2 * t.d) (M.marks_in g) ≡ marks_of (frames_at p k t fr)
  kid_above =
      let b = marks_length (frames_at p k t fr) in
      let c = frames_length p k fr t.d in
      rw is
      (upper_under (2 * t.d) (is_nil (kids_at p k t fr)) (is_nil (runs_at p k t fr) ∷ marks_of (frames_at p k t fr)) (omega arith)
      ∙ upper_under (2 * t.d) (is_nil (runs_at p k t fr)) (marks_of (frames_at p k t fr)) (omega arith)
      ∙ upper_whole (2 * t.d) (marks_of (frames_at p k t fr)) (omega arith))

pub lent_low : (p k : List ℕ) (t : Top) (fr ws : List ℕ) (n : ℕ) (top : Bool)
    → M.marks_in (indenter_at ws n top) ≡ kid_marks (runs_at p k t fr) (kids_at p k t fr) (frames_at p k t fr) → t.d < 2079 → n < 4160
lent_low p k t fr ws n top is h = kid_low p k t fr (indenter_at ws n top) is h

-- g after a package that is not opened, or is skipped
pub held_beside : (p k fr : List ℕ) (t u : Top) (g : Indenter) → g.count ≤ 4160
    → M.marks_in g ≡ kid_marks (runs_at p k t fr) (kids_at p k t fr) (frames_at p k t fr)
    → u.r ≡ t.r → u.re ≡ t.re → u.d ≡ t.d → Indented p k fr u g
held_beside p k fr t u g c is r re d =
    let n = kid_count p k t fr g is in
    record {
      count = c;
      levels = rw d (omega arith);
      above = rw d (kid_above p k t fr g is);
      wide = λ h. rw d (omega arith);
      beside = λ h. rw (d, r, re) (kid_beside p k t fr g is);
    }

-- g after a run's line, with its kids at hand
pub held_run : (p k fr : List ℕ) (t u : Top) (g : Indenter) → g.count ≤ 4160 → M.marks_in g ≡ is_nil (runs_from u.r u.re) ∷ marks_of (frames_in p k fr t.d)
    → u.d ≡ t.d → Indented p k fr u g
held_run p k fr t u g c is d =
    let a = marks_count g in
    let b = marks_length (frames_in p k fr t.d) in
    let l = frames_length p k fr t.d in
    let e : length (M.marks_in g) ≡ suc (length (marks_of (frames_in p k fr t.d))) = ap length is in
    record {
      count = c;
      levels = rw d (omega arith);
      above = rw (d, is)
          (upper_under (2 * t.d) (is_nil (runs_from u.r u.re)) (marks_of (frames_in p k fr t.d)) (omega arith)
          ∙ upper_whole (2 * t.d) (marks_of (frames_in p k fr t.d)) (omega arith));
      wide = λ h. rw d (omega arith);
      beside = λ h. rw (d, is) (upper_whole (2 * t.d + 1) (is_nil (runs_from u.r u.re) ∷ marks_of (frames_in p k fr t.d)) (omega arith));
    }

-- and back at the package opened before
pub held_pop : (p k fr : List ℕ) (t u : Top) (g : Indenter) → Indented p k fr t g → Popped p fr t u → 0 < t.d → Indented p k fr u g
unfolding frame_in
held_pop p k fr t u g e q h =
    let c = marks_count g in
    let x = e.levels in
    let d = q.d in
    let pop = frames_pop p k fr t.d h in
    let b = marks_length (frames_in p k fr (t.d - 1)) in
    let l = frames_length p k fr (t.d - 1) in
    let above : upper (2 * t.d) (M.marks_in g) ≡ marks_of (frame_in p k fr (t.d - 1) ∷ frames_in p k fr (t.d - 1)) = e.above ∙ rw pop in
    let own : upper (2 * u.d + 1) (M.marks_in g) ≡ is_nil (frame_in p k fr (t.d - 1)).runs ∷ marks_of (frames_in p k fr (t.d - 1)) =
    sym (upper_upper (2 * u.d + 1) (2 * t.d) (M.marks_in g) (omega arith) (omega arith)) ∙ rw above
    (upper_under (2 * u.d + 1) (is_nil (frame_in p k fr (t.d - 1)).kids) (is_nil (frame_in p k fr (t.d - 1)).runs ∷ marks_of (frames_in p k fr (t.d - 1)))
    (omega arith)
    ∙ upper_whole (2 * u.d + 1) (is_nil (frame_in p k fr (t.d - 1)).runs ∷ marks_of (frames_in p k fr (t.d - 1))) (omega arith)) in
    record {
      count = e.count;
      levels = omega arith;
      above =
          sym (upper_upper (2 * u.d) (2 * u.d + 1) (M.marks_in g) (omega arith) (omega arith)) ∙ rw (own, d)
          (upper_under (2 * (t.d - 1)) (is_nil (frame_in p k fr (t.d - 1)).runs) (marks_of (frames_in p k fr (t.d - 1))) (omega arith)
          ∙ upper_whole (2 * (t.d - 1)) (marks_of (frames_in p k fr (t.d - 1))) (omega arith));
      wide = λ z. omega arith;
      beside = λ z. rw (q.r, q.re, d) (rw d at own);
    }

-- the next kid is passed over
pub small_next : (p fr : List ℕ) (t : Top) → Small p fr t → t.k < t.ke → Small p fr (next_kid t)
small_next p fr t sm lt =
    record {
      r = sm.r;
      re = sm.re;
      k = let a = sm.ke in omega arith;
      ke = sm.ke;
      d = sm.d;
      rune = sm.rune;
      kide = λ h. sm.kide lt;
      deep = sm.deep;
      units = sm.units;
    }

module _ (p k fr : List ℕ) (t : Top) (n : ℕ) (o : Bool) (oi : o ≡ opens_in p n) (sm : Small p fr t) (lt : t.k < t.ke) where
  pub enter_shut : o ≡ false
      → Entered p k t n fr (record { r = t.r; re = t.re; k = t.k + 1; ke = t.ke; d = t.d; at = t.at; units = t.units; depth = t.depth }) fr
  unfolding stack_in plan_in
  enter_shut e =
      let q : opens_in p n ≡ false = sym oi ∙ e in
      record {
        left = sym (under_shut (plan_in p k) (runs_at p k t fr) (frames_at p k t fr) n (kids_at p k t fr) q);
        at = refl;
        units = refl;
        depth =
            let a = openings_shut (plan_in p k) n (runs_at p k t fr) (kids_at p k t fr) (frames_at p k t fr) q in
            let b = frames_length p k fr t.d in
            let c = sm.deep in
            omega arith;
        small = small_next p fr t sm lt;
        low = let a = sm.ke in omega arith;
        long = refl;
        held =
            λ g c is. held_beside p k fr t (record { r = t.r; re = t.re; k = t.k + 1; ke = t.ke; d = t.d; at = t.at; units = t.units; depth = t.depth })
            g c is refl refl refl;
      }

  enter_push : (w : ℕ) → Packed w n t.r (t.k + 1) → t.d < length fr
      → frames_in p k (set fr t.d w) (t.d + 1) ≡ record { node = n; runs = runs_at p k t fr; kids = kids_at p k t fr } ∷ frames_at p k t fr
  enter_push w pk h = frames_push p k fr t.d w n t.r (t.k + 1) h pk ∙ rw (sm.rune, sm.kide lt)

  pub enter_open : o ≡ true → (w a e dp : ℕ) → Packed w n t.r (t.k + 1) → t.d < 2079 → length fr ≡ 2080 → a ≡ run_first p n → a < 2048 → e ≡ run_end p n
      → e < 2048
      → dp ≡ max t.depth (t.d + 1)
      → Entered p k t n fr (record { r = a; re = e; k = 0; ke = 0; d = t.d + 1; at = t.at; units = t.units; depth = dp }) (set fr t.d w)
  unfolding stack_in plan_in runs_in
  enter_open f w a e dp pk h len ai al ei el q =
      let o : opens_in p n ≡ true = sym oi ∙ f in
      let push = enter_push w pk (omega arith) in
      record {
        left = rw (push, kids_none k 0 0 (omega arith), ai, ei) (sym (under_open (plan_in p k) (runs_at p k t fr) (frames_at p k t fr) n (kids_at p k t fr) o));
        at = refl;
        units = refl;
        depth =
            let x = openings_open (plan_in p k) n (runs_at p k t fr) (kids_at p k t fr) (frames_at p k t fr) o in
            let y = frames_length p k fr t.d in
            omega arith;
        small =
            record {
              r = al;
              re = el;
              k = omega arith;
              ke = omega arith;
              d = omega arith;
              rune = rw (owner_push fr t.d w n t.r (t.k + 1) (omega arith) pk) ei;
              kide = λ z. let y : ⊥ = omega arith in absurd y;
              deep = omega arith;
              units = sm.units;
            };
        low = omega arith;
        long = length-set fr t.d w;
        held = λ g c is.
            let m = kid_count p k t fr g is in
            let l : 2 * (t.d + 1) ≡ 2 * t.d + 2 = omega arith in
            record {
              count = c;
              levels = omega arith;
              above = rw (push, is) (upper_whole (2 * (t.d + 1)) (kid_marks (runs_at p k t fr) (kids_at p k t fr) (frames_at p k t fr))
                  (let y = ap length is in let z = marks_count g in omega arith));
              wide = λ z. let y : ⊥ = omega arith in absurd y;
              beside = λ z. let y : ⊥ = omega arith in absurd y;
            };
      }
