-- What a turn of the code is: none or one turn of the machine, with the lines that it writes into the room left.
use Rattle.std.specs.Prelude.{◌≡◌, Bool, false, cond, length, eqb, ltb, Ok, Err}
use Rattle.std.specs.declared.result.Result.{Result}
use Rattle.std.proofs.Math.Path.{refl}
use Rattle.std.proofs.Common.{sym, ap, ◌∙◌, ne_eqb, ltb-true}
use mathlib.Core.List.{List, [], ◌∷◌, ◌++◌, append-nil}
use Prim.Native.Nat.{ℕ, suc, ◌+◌, ◌-◌, ◌≤◌, ◌<◌, max}
use native.Mathlib.Omega.{arith}
use Rattle.std.proofs.Math.ListN.{length-append}
use Rattle.basis.specs.Lists.{is_nil}
use Rattle.basis.specs.Members.{split}
use Rattle.records.specs.Tables.{Tables}
use Rattle.machine.specs.Machine.{Plan, Entry, State, state, going, loops, stop_of, says, repeats, skipped, report, openings}
use Rattle.machine.specs.Units.{text_of, depth_of}
use Rattle.machine.specs.Tally.{Added, added_none}
use Rattle.machine.specs.Explained.{lines_as, units_for}
use Rattle.machine.specs.Turns.{Turns, stay}
use Rattle.machine.specs.Frames.{Frame, marks_of, branch_of, stack_at, kid_entry, kid_marks, run_entry, openings_run, openings_shut, run_goes, kid_goes}
use Rattle.machine.specs.Frames.{kid_loops, run_says, kid_says, turn_run, turn_skip, turn_kid}
use Rattle.texts.specs.Wrote.{Wrote}
use Rattle.texts.specs.Laws.Wrote.{wrote_none}
use Rattle.texts.specs.MarkBits as M
use Rattle.texts.specs.MarkBits.{upper}
use Rattle.texts.specs.declared.Indenter.{Indenter}
use Rattle.plan.specs.Fields.{plan_in, opens_in, tag_in, kids_in, kid_first, kid_end, kid_at, text_length, reason_in, sets_in, requirement_in}
use Rattle.plan.specs.Fields.{wording_in, runs_from, runs_none, runs_more, kids_none, kids_more}
use Rattle.plan.specs.Texts.{package_in}
use Rattle.lines.specs.Said.{run_said, package_said, sets_said, package_all, lines_in}
use Rattle.lines.specs.Tried.{LineWrote, LineFull, text_all, LinesWhole, Broken}
use Rattle.lines.specs.PackageLaws as L
use Rattle.explanation.specs.Frames.{frame_in, frames_in, frames_length, frames_branch, frames_pop, branch_in, Popped}
use Rattle.explanation.specs.Judge.{Flags, Skipped, Repeated, Showing, Judged}
use Rattle.explanation.specs.Stand.{next_kid, next_run, runs_at, kids_at, frames_at, stack_in, Small, measure, Indented, Level, Entered, small_next}
use Rattle.explanation.specs.Stand.{held_beside, held_run, held_pop}
use Rattle.explanation.specs.declared.frames.Top.{Top}
use Rattle.explanation.specs.declared.frames.Verdict.{Verdict}
use Rattle.explanation.specs.declared.frames.Verdict.TheVariants.{Skip, Repeat, Show}
use Rattle.explanation.specs.declared.turns.End.{End}
use Rattle.explanation.specs.declared.turns.End.TheVariants.{Done, Loops, Full}

-- ---- the outcomes

-- from the state s the machine comes to where the code stands, and what it shows on the way is written
pub record Went (T : Tables) (p k : List ℕ) (top : Bool) (s : State ℕ) (t : Top) (room : List ℕ) (u : Top) (fr seen left : List ℕ) : Type 0 where
  pub es : List (Entry ℕ)
  pub rep : List ℕ
  pub turns : Turns (plan_in p k) s es (state (stack_in p k u fr) rep)
  pub flags : Flags seen rep
  pub added : Added (units_for (plan_in p k) (lines_in T p k top) es) t.at t.units t.depth u.at u.units u.depth
  pub bytes : ℕ
  pub wrote : Wrote (text_of (units_for (plan_in p k) (lines_in T p k top) es)) room left bytes
  pub at : u.at ≡ t.at + bytes

pub record TurnedOn (T : Tables) (p k : List ℕ) (g : Indenter) (t : Top) (fr seen room : List ℕ) (u : Top) (fr' seen' left : List ℕ) : Type 0 where
  pub went : (rep : List ℕ) → Flags seen rep → Went T p k g.top (state (stack_in p k t fr) rep) t room u fr' seen' left
  pub small : Small p fr' u
  pub less : measure (t.at + length room) u < measure (t.at + length room) t
  pub within : u.at ≤ t.at + length room
  pub frames : length fr' ≡ length fr
  pub flags : length seen' ≡ length seen
  pub held : Indented p k fr' u g

pub record TurnedDone (p k : List ℕ) (t : Top) (fr room left : List ℕ) : Type 0 where
  pub same : left ≡ room
  pub empty : stack_in p k t fr ≡ []

pub record TurnedLoops (p k : List ℕ) (t : Top) (fr room : List ℕ) (n : ℕ) (left : List ℕ) : Type 0 where
  pub same : left ≡ room
  pub stops : stop_of (plan_in p k) (stack_in p k t fr) ≡ loops n

-- of the next entry the first lines are written, and `line` has no room
pub record TurnedFull (T : Tables) (p k : List ℕ) (g : Indenter) (t : Top) (fr seen room : List ℕ) (u : Top) (left : List ℕ) : Type 0 where
  pub entry : Entry ℕ
  pub goes : stop_of (plan_in p k) (stack_in p k t fr) ≡ going
  pub shown : (rep : List ℕ) → Flags seen rep → says (plan_in p k) (state (stack_in p k t fr) rep) ≡ entry ∷ []
  pub first : List (List ℕ)
  pub line : List ℕ
  pub rest : List (List ℕ)
  pub is : lines_in T p k g.top entry ≡ first ++ (line ∷ rest)
  pub added : Added (lines_as (plan_in p k) entry first) t.at t.units t.depth u.at u.units u.depth
  pub bytes : ℕ
  pub wrote : Wrote (text_of (lines_as (plan_in p k) entry first)) room left bytes
  pub at : u.at ≡ t.at + bytes
  pub over : length room < bytes + length line

unfoldable pub WalkTurned : Tables → List ℕ → List ℕ → Indenter → Top → List ℕ → List ℕ → List ℕ → Result Top End → List ℕ → List ℕ → List ℕ → Type 0
WalkTurned T p k g t fr seen room (Ok u) fr' seen' left = TurnedOn T p k g t fr seen room u fr' seen' left
WalkTurned T p k g t fr seen room (Err Done) fr' seen' left = TurnedDone p k t fr room left
WalkTurned T p k g t fr seen room (Err (Loops n)) fr' seen' left = TurnedLoops p k t fr room n left
WalkTurned T p k g t fr seen room (Err (Full u)) fr' seen' left = TurnedFull T p k g t fr seen room u left

-- ---- lines as units

module _ (P : Plan ℕ) (e : Entry ℕ) where
  pub text_lines : (ls : List (List ℕ)) → text_of (lines_as P e ls) ≡ text_all ls
  text_lines [] = refl
  text_lines (l ∷ ls) = ap (λ (x : List ℕ). l ++ x) (text_lines ls)

  count_lines : (ls : List (List ℕ)) → length (lines_as P e ls) ≡ length ls
  count_lines [] = refl
  count_lines (l ∷ ls) = ap suc (count_lines ls)

  depth_most : (ls : List (List ℕ)) → depth_of (lines_as P e ls) ≤ openings P e
  depth_most [] = omega arith
  depth_most (l ∷ ls) = let h = depth_most ls in omega arith

  -- all lines of an entry, of which there is one at least
  added_all : (l : List ℕ) (ls : List (List ℕ)) (a n d b c : ℕ) → b ≡ length (text_all (l ∷ ls)) → c ≡ length (l ∷ ls)
      → Added (lines_as P e (l ∷ ls)) a n d (a + b) (n + c) (max d (openings P e))
  added_all l ls a n d b c bi ci =
      let x = text_lines (l ∷ ls) in
      let y = count_lines (l ∷ ls) in
      let z = depth_most ls in
      record { bytes = rw x (omega arith); count = rw y (omega arith); deepest = omega arith }

  -- the first of them, where the entry is no deeper than what is written, or none
  added_some : (ls : List (List ℕ)) (a n d b c : ℕ) → b ≡ length (text_all ls) → c ≡ length ls → depth_of (lines_as P e ls) ≤ d
      → Added (lines_as P e ls) a n d (a + b) (n + c) d
  added_some ls a n d b c bi ci h =
      record { bytes = rw (text_lines ls) (omega arith); count = rw (count_lines ls) (omega arith); deepest = omega arith }

units_one : (P : Plan ℕ) (f : Entry ℕ → List (List ℕ)) (e : Entry ℕ) → units_for P f (e ∷ []) ≡ lines_as P e (f e)
units_one P f e = append-nil (lines_as P e (f e))

-- ---- a package's lines, and how the code goes on

-- so many bytes and units later
abbrev pub moved : Top → ℕ → ℕ → Top
moved t b c = record { r = t.r; re = t.re; k = t.k; ke = t.ke; d = t.d; at = t.at + b; units = t.units + c; depth = t.depth }

pub record ShownOn (T : Tables) (p k : List ℕ) (g : Indenter) (t : Top) (n : ℕ) (fr room : List ℕ) (u : Top) (fr' left : List ℕ) : Type 0 where
  pub bytes : ℕ
  pub units : ℕ
  pub lines : LinesWhole (package_all T p k g.top (M.marks_in g) n) room left bytes units
  pub entered : Entered p k (moved t bytes units) n fr u fr'

pub record ShownFull (T : Tables) (p k : List ℕ) (g : Indenter) (t : Top) (n : ℕ) (room : List ℕ) (u : Top) (left : List ℕ) : Type 0 where
  pub bytes : ℕ
  pub units : ℕ
  pub lines : Broken (package_all T p k g.top (M.marks_in g) n) room left bytes units
  pub stands : u ≡ moved t bytes units

abbrev pub ShowTurned : Tables → List ℕ → List ℕ → Indenter → Top → ℕ → List ℕ → List ℕ → Result Top End → List ℕ → List ℕ → Type 0
ShowTurned T p k g t n fr room (Ok u) fr' left = ShownOn T p k g t n fr room u fr' left
ShowTurned T p k g t n fr room (Err Done) fr' left = ⊥
ShowTurned T p k g t n fr room (Err (Loops m)) fr' left = ⊥
ShowTurned T p k g t n fr room (Err (Full u)) fr' left = ShownFull T p k g t n room u left

module _ (t v : Top) (b c : ℕ) (e : v ≡ moved t b c) where
  pub moved_small : (p fr : List ℕ) → Small p fr t → c ≤ b → Small p fr v
  moved_small p fr sm h =
      rw e (record {
        r = sm.r;
        re = sm.re;
        k = sm.k;
        ke = sm.ke;
        d = sm.d;
        rune = sm.rune;
        kide = sm.kide;
        deep = sm.deep;
        units = let a = sm.units in omega arith;
      })

  module _ (T : Tables) (p k : List ℕ) (g : Indenter) (n : ℕ) (fr room left : List ℕ) where
    pub shown_on : (u : Top) (fr' : List ℕ) → LinesWhole (package_all T p k g.top (M.marks_in g) n) room left b c
        → ((k : List ℕ) → Entered p k v n fr u fr') → ShownOn T p k g t n fr room u fr' left
    shown_on u fr' l x = record { bytes = b; units = c; lines = l; entered = rw e at (x k) }

    pub shown_full : Broken (package_all T p k g.top (M.marks_in g) n) room left b c → ShownFull T p k g t n room v left
    shown_full l = record { bytes = b; units = c; lines = l; stands = e }

-- ---- a package's turn

pub said_some : (T : Tables) (p : List ℕ) (top : Bool) (ms : List Bool) (n : ℕ) → 0 < length (package_said T p top ms n)
unfolding package_said
said_some T p top ms n = let y = L.tail_some T (tag_in p n) (reason_in p n) in rw length-append (omega arith)

single : (x : List ℕ) (first : List (List ℕ)) (line : List ℕ) (rest : List (List ℕ)) → x ∷ [] ≡ first ++ (line ∷ rest) → first ≡ []
single x [] line rest e = refl
single x (y ∷ first) line rest e =
    let l : 1 ≡ suc (length (first ++ (line ∷ rest))) = ap length e in
    let m = length-append first (line ∷ rest) in
    let z : ⊥ = omega arith in
    absurd z

-- what is written of a package's lines is no deeper than what was written before, unless it is opened, and then it has one line
broken_depth : (T : Tables) (p k : List ℕ) (top : Bool) (rs ks : List ℕ) (fs : List (Frame ℕ)) (n d : ℕ) (first : List (List ℕ)) (line : List ℕ)
    (rest : List (List ℕ))
    → package_all T p k top (kid_marks rs ks fs) n ≡ first ++ (line ∷ rest) → length fs ≤ d → depth_of (lines_as (plan_in p k) (kid_entry n rs ks fs) first) ≤ d
unfolding package_all opens_in plan_in
broken_depth T p k top rs ks fs n d first line rest e h =
    split (ltb 3 (tag_in p n))
    (λ q.
    let a : 3 < tag_in p n = ltb-true 3 (tag_in p n) q in
    let f : first ≡ [] = single (package_said T p top (kid_marks rs ks fs) n) first line rest (rw (ne_eqb (tag_in p n) 3 (λ z. omega arith)) at e) in
    rw f (omega arith))
    (λ q.
    let a : openings (plan_in p k) (kid_entry n rs ks fs) ≡ length fs = openings_shut (plan_in p k) n rs ks fs q in
    let b = depth_most (plan_in p k) (kid_entry n rs ks fs) first in
    omega arith)

stack_next : (p k fr : List ℕ) (t : Top) (n : ℕ) → n ≡ kid_at k t.k → t.k < t.ke
    → stack_in p k t fr ≡ stack_at (runs_at p k t fr) (n ∷ kids_at p k t fr) (frames_at p k t fr)
unfolding stack_in
stack_next p k fr t n is lt = rw (is, kids_more k t.k t.ke lt)

pub kid_repeat : (p fr : List ℕ) (t : Top) (n : ℕ) (seen seen' : List ℕ) (v : Verdict) → Judged p fr t.d n seen seen' v → v ≡ Repeat → (k room : List ℕ)
    → n ≡ kid_at k t.k → t.k < t.ke
    → TurnedLoops p k t fr room n room
kid_repeat p fr t n seen seen' v j q k room is lt =
    let s : Repeated p fr t.d n seen seen' = rw q at j in
    record {
      same = refl;
      stops =
          rw (stack_next p k fr t n is lt) (kid_loops (plan_in p k) (runs_at p k t fr) (frames_at p k t fr) n (kids_at p k t fr)
          (rw (frames_branch p k fr t.d) (s.again k)));
    }

module _ (T : Tables) (p k : List ℕ) (g : Indenter) (t : Top) (n : ℕ) (fr seen room : List ℕ) (is : n ≡ kid_at k t.k) (lt : t.k < t.ke)
    (gc : g.count ≤ 4160) (gm : M.marks_in g ≡ kid_marks (runs_at p k t fr) (kids_at p k t fr) (frames_at p k t fr)) (sm : Small p fr t) where
  abbrev kid : Entry ℕ
  kid = kid_entry n (runs_at p k t fr) (kids_at p k t fr) (frames_at p k t fr)

  stack_kid : stack_in p k t fr ≡ stack_at (runs_at p k t fr) (n ∷ kids_at p k t fr) (frames_at p k t fr)
  unfolding stack_in
  stack_kid = rw (is, kids_more k t.k t.ke lt)

  branch_is : branch_of (frames_at p k t fr) ≡ branch_in fr t.d
  branch_is = frames_branch p k fr t.d

  skip : Skipped p fr t.d n seen seen → TurnedOn T p k g t fr seen room (next_kid t) fr seen room
  unfolding stack_in
  skip s =
      record {
        went = λ rep f.
            record {
              es = [];
              rep = rep;
              turns =
                  rw (kids_more k t.k t.ke lt, ← is) (turn_skip (plan_in p k) (runs_at p k t fr) (frames_at p k t fr) rep n (kids_at p k t fr)
                  (rw branch_is (s.again k)) (s.skip k rep f));
              flags = f;
              added = added_none t.at t.units t.depth;
              bytes = 0;
              wrote = wrote_none;
              at = omega arith;
            };
        small = small_next p fr t sm lt;
        less = omega arith;
        within = omega arith;
        frames = refl;
        flags = refl;
        held = held_beside p k fr t (next_kid t) g gc gm refl refl refl;
      }

  pub kid_skip : (v : Verdict) (u : Top) (seen' : List ℕ) → Judged p fr t.d n seen seen' v → v ≡ Skip → u ≡ next_kid t
      → TurnedOn T p k g t fr seen room u fr seen' room
  kid_skip v u seen' j q e =
      let s : Skipped p fr t.d n seen seen' = rw q at j in
      rw (e, s.same) (skip (rw s.same at s))

  module _ (seen' : List ℕ) (s : Showing p fr t.d n seen seen') where
    again : repeats (plan_in p k) (branch_of (frames_at p k t fr)) n ≡ false
    again = rw branch_is (s.again k)

    lines_kid : package_all T p k g.top (M.marks_in g) n ≡ lines_in T p k g.top kid
    unfolding lines_in
    lines_kid = rw gm

    units_kid : units_for (plan_in p k) (lines_in T p k g.top) (kid ∷ []) ≡ lines_as (plan_in p k) kid (package_all T p k g.top (M.marks_in g) n)
    units_kid = units_one (plan_in p k) (lines_in T p k g.top) kid ∙ rw lines_kid

    on : (u : Top) (fr' left : List ℕ) → ShownOn T p k g t n fr room u fr' left → TurnedOn T p k g t fr seen room u fr' seen' left
    unfolding package_all
    on u fr' left x =
        let w = x.lines.wrote in
        let e = x.entered in
        let b : 0 < x.bytes =
        (let a = w.count in let c = said_some T p g.top (M.marks_in g) n in
        let l = length-append (package_said T p g.top (M.marks_in g) n)
        (text_all (cond (eqb (tag_in p n) 3) (sets_said T g.top (M.marks_in g) (sets_in p k n)) [])) in omega arith) in
        record {
          went = λ rep f.
              record {
                es = kid ∷ [];
                rep = report (plan_in p k) n rep;
                turns = rw (stack_kid, e.left) (turn_kid (plan_in p k) (runs_at p k t fr) (frames_at p k t fr) rep n (kids_at p k t fr) again (s.kept k rep f));
                flags = s.then k rep f;
                added = rw (units_kid, e.at, e.units, e.depth)
                    (added_all (plan_in p k) kid (package_said T p g.top (M.marks_in g) n)
                    (cond (eqb (tag_in p n) 3) (sets_said T g.top (M.marks_in g) (sets_in p k n)) [])
                    t.at t.units t.depth x.bytes x.units w.count x.lines.count);
                bytes = x.bytes;
                wrote = rw (units_kid, text_lines (plan_in p k) kid (package_all T p k g.top (M.marks_in g) n)) w;
                at = e.at;
              };
          small = e.small;
          less = let a = e.low in let c = e.at in let d = sm.d in let h = w.count in let i = w.fits in omega arith;
          within = let c = e.at in let h = w.count in let i = w.fits in omega arith;
          frames = e.long;
          flags = s.long;
          held = e.held g gc gm;
        }

    full : (u : Top) (left : List ℕ) → ShownFull T p k g t n room u left → TurnedFull T p k g t fr seen room u left
    full u left x =
        let l = x.lines in
        let d : depth_of (lines_as (plan_in p k) kid l.first) ≤ t.depth =
        broken_depth T p k g.top (runs_at p k t fr) (kids_at p k t fr) (frames_at p k t fr) n t.depth l.first l.line l.rest (rw gm at l.is)
        (let a = frames_length p k fr t.d in let b = sm.deep in omega arith) in
        record {
          entry = kid;
          goes = rw stack_kid (kid_goes (plan_in p k) (runs_at p k t fr) (frames_at p k t fr) n (kids_at p k t fr) again);
          shown = λ rep f. rw stack_kid (kid_says (plan_in p k) (runs_at p k t fr) (frames_at p k t fr) rep n (kids_at p k t fr) (s.kept k rep f));
          first = l.first;
          line = l.line;
          rest = l.rest;
          is = sym lines_kid ∙ l.is;
          added = rw x.stands (added_some (plan_in p k) kid l.first t.at t.units t.depth x.bytes x.units l.wrote.count l.count d);
          bytes = x.bytes;
          wrote = rw (text_lines (plan_in p k) kid l.first) l.wrote;
          at = rw x.stands;
          over = l.over;
        }

    shows : (r : Result Top End) (fr' left : List ℕ) → ShowTurned T p k g t n fr room r fr' left → WalkTurned T p k g t fr seen room r fr' seen' left
    unfolding WalkTurned
    shows (Ok u) fr' left x = on u fr' left x
    shows (Err Done) fr' left x = absurd x
    shows (Err (Loops m)) fr' left x = absurd x
    shows (Err (Full u)) fr' left x = full u left x

  pub kid_show : (v : Verdict) (seen' : List ℕ) (r : Result Top End) (fr' left : List ℕ) → Judged p fr t.d n seen seen' v → v ≡ Show
      → ShowTurned T p k g t n fr room r fr' left
      → WalkTurned T p k g t fr seen room r fr' seen' left
  kid_show v seen' r fr' left j q x = shows seen' (rw q at j) r fr' left x

-- ---- a run's turn

module _ (T : Tables) (p k : List ℕ) (g : Indenter) (t : Top) (fr seen room left : List ℕ) (w q : ℕ)
    (wi : w ≡ wording_in p t.r) (qi : q ≡ requirement_in p t.r) (no : t.ke ≤ t.k) (lt : t.r < t.re)
    (gm : M.marks_in g ≡ is_nil (runs_from (t.r + 1) t.re) ∷ marks_of (frames_at p k t fr)) (gc : g.count ≤ 4160) (sm : Small p fr t) where
  abbrev later : List ℕ
  later = runs_from (t.r + 1) t.re

  abbrev run : Entry ℕ
  run = run_entry t.r later (frames_at p k t fr)

  stack_run : stack_in p k t fr ≡ stack_at (t.r ∷ later) [] (frames_at p k t fr)
  unfolding stack_in
  stack_run = rw (kids_none k t.k t.ke no, runs_more t.r t.re lt)

  line_run : lines_in T p k g.top run ≡ run_said T g.top (M.marks_in g) w q ∷ []
  unfolding lines_in
  line_run = rw (gm, wi, qi)

  pub run_full : LineFull (run_said T g.top (M.marks_in g) w q) room left → TurnedFull T p k g t fr seen room t left
  run_full f =
      record {
        entry = run;
        goes = rw stack_run (run_goes (plan_in p k) later (frames_at p k t fr) t.r);
        shown = λ rep h. rw stack_run (run_says (plan_in p k) later (frames_at p k t fr) rep t.r);
        first = [];
        line = run_said T g.top (M.marks_in g) w q;
        rest = [];
        is = line_run;
        added = added_none t.at t.units t.depth;
        bytes = 0;
        wrote = rw f.same wrote_none;
        at = omega arith;
        over = let h = f.over in omega arith;
      }

  module _ (b : ℕ) (tr : LineWrote (run_said T g.top (M.marks_in g) w q) room left b) (kb : kid_first p t.r < 2048) (lb : kid_end p t.r < 2048) where
    on_run : TurnedOn T p k g t fr seen room (next_run p t b) fr seen left
    unfolding stack_in plan_in kids_in
    on_run =
        let v = tr.wrote in
        let o = openings_run (plan_in p k) t.r later (frames_at p k t fr) in
        let fl = frames_length p k fr t.d in
        let de = sm.deep in
        let u : units_for (plan_in p k) (lines_in T p k g.top) (run ∷ []) ≡ lines_as (plan_in p k) run (run_said T g.top (M.marks_in g) w q ∷ []) =
        units_one (plan_in p k) (lines_in T p k g.top) run ∙ rw line_run in
        let m : max t.depth (openings (plan_in p k) run) ≡ t.depth = omega arith in
        record {
          went = λ rep f.
              record {
                es = run ∷ [];
                rep = rep;
                turns = rw (kids_none k t.k t.ke no, runs_more t.r t.re lt) (turn_run (plan_in p k) later (frames_at p k t fr) rep t.r);
                flags = f;
                added =
                    rw u (rw m at (added_all (plan_in p k) run (run_said T g.top (M.marks_in g) w q) [] t.at t.units t.depth b 1
                    (rw append-nil v.count) refl));
                bytes = b;
                wrote = rw (u, append-nil) v;
                at = refl;
              };
          small =
              record {
                r = let a = sm.re in omega arith;
                re = sm.re;
                k = kb;
                ke = lb;
                d = sm.d;
                rune = sm.rune;
                kide = λ h. let y : t.r + 1 - 1 ≡ t.r = omega arith in rw y;
                deep = sm.deep;
                units = let a = sm.units in omega arith;
              };
          less = let i = tr.within in let z = tr.some in let d = sm.d in omega arith;
          within = let i = tr.within in omega arith;
          frames = refl;
          flags = refl;
          held = held_run p k fr t (next_run p t b) g gc gm refl;
        }

  pub run_on : (u : Top) (b : ℕ) → LineWrote (run_said T g.top (M.marks_in g) w q) room left b → u ≡ next_run p t b → u.k < 2048 → u.ke < 2048
      → TurnedOn T p k g t fr seen room u fr seen left
  run_on u b tr e kb lb = rw e (on_run b tr (rw e at kb) (rw e at lb))

-- ---- nothing waits at hand

module _ (T : Tables) (p k : List ℕ) (g : Indenter) (t : Top) (fr seen room : List ℕ) (no : t.ke ≤ t.k) (none : t.re ≤ t.r) (lv : Level p k fr t g) where
  pub pop_on : (u : Top) → Popped p fr t u → 0 < t.d → Small p fr t → TurnedOn T p k g t fr seen room u fr seen room
  unfolding stack_in frame_in
  pop_on u q h sm =
      let a : stack_in p k t fr ≡ stack_in p k u fr =
      rw (kids_none k t.k t.ke no, runs_none t.r t.re none, frames_pop p k fr t.d h, q.r, q.re, q.k, q.ke, q.d) in
      let qd = q.d in
      let qt = q.at in
      let qe = q.kend in
      record {
        went = λ rep f.
            record {
              es = [];
              rep = rep;
              turns = rw a stay;
              flags = f;
              added = rw (q.at, q.units, q.depth) (added_none t.at t.units t.depth);
              bytes = 0;
              wrote = wrote_none;
              at = omega arith;
            };
        small =
            record {
              r = let x = q.r in omega arith;
              re = q.rend;
              k = let x = q.k in omega arith;
              ke = q.kend;
              d = let x = sm.d in omega arith;
              rune = rw q.d q.re;
              kide = λ z. rw q.r q.ke;
              deep = let x = sm.deep in let y = q.depth in omega arith;
              units = let x = sm.units in let y = q.units in omega arith;
            };
        less = omega arith;
        within = omega arith;
        frames = refl;
        flags = refl;
        held = held_pop p k fr t u g (lv.none no none) q h;
      }

pub pop_done : (p k fr : List ℕ) (t : Top) (room : List ℕ) → t.ke ≤ t.k → t.re ≤ t.r → t.d ≤ 0 → TurnedDone p k t fr room room
unfolding stack_in frames_in
pop_done p k fr t room x y h =
    let z : t.d ≡ 0 = omega arith in
    record { same = refl; empty = rw (kids_none k t.k t.ke x, runs_none t.r t.re y, z) }

-- ---- the text of the next kid is as long as the plan says

pub record Known (T : Tables) (p k : List ℕ) (t : Top) : Type 0 where
  pub own : t.k < t.ke → text_length p (kid_at k t.k) ≡ length (package_in T p (kid_at k t.k))

pub known_at : (T : Tables) (p k : List ℕ) (t : Top) (n : ℕ) → Known T p k t → n ≡ kid_at k t.k → t.k < t.ke → text_length p n ≡ length (package_in T p n)
known_at T p k t n x e h = rw e (x.own h)

-- ---- the bound of demand 3, as the frames need it: where the next kid is shown, there is a frame for it

pub record Framed (p k fr seen : List ℕ) (t : Top) : Type 0 where
  pub left : t.k < t.ke → repeats (plan_in p k) (branch_in fr t.d) (kid_at k t.k) ≡ false
      → ((rep : List ℕ) → Flags seen rep → skipped (plan_in p k) rep (kid_at k t.k) ≡ false) → t.d < 2079

pub framed_at : (p fr : List ℕ) (t : Top) (n : ℕ) (seen seen' : List ℕ) (v : Verdict) → Judged p fr t.d n seen seen' v → v ≡ Show
    → (k : List ℕ) → Framed p k fr seen t → n ≡ kid_at k t.k → t.k < t.ke → t.d < 2079
framed_at p fr t n seen seen' v j q k x is lt =
    let s : Showing p fr t.d n seen seen' = rw q at j in
    x.left lt (rw is at (s.again k)) (rw is at (s.kept k))
