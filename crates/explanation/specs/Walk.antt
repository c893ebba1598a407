-- The whole walk: the contract `Explained` of the machine, over the packed plan, and every byte of the room.
use Rattle.std.specs.Prelude.{◌≡◌, Bool, true, ℕ, ◌+◌, ◌-◌, ◌≤◌, ◌<◌, take, drop, Ok, Err}
use Rattle.std.proofs.Math.Path.{refl, sym}
use Rattle.std.proofs.Common.{ap, subst, ◌∙◌, arith, length-take, length-drop}
use mathlib.Core.List.{List, [], ◌∷◌, ◌++◌, append-nil}
use Rattle.std.proofs.Math.Option.{Option, some}
use Rattle.std.proofs.Math.ListN.{length}
use borrow.Rule.Slice.PartMut.{put_mid}
use Rattle.basis.specs.Members.{In, All, all_append, split}
use Rattle.records.specs.Tables.{Tables}
use Rattle.machine.specs.Machine.{Plan, Op, requirement, candidate, Entry, entry, State, state, start, level, next}
use Rattle.machine.specs.Machine.{skipped, under}
use Rattle.machine.specs.Bound.{Counted, most}
use Rattle.machine.specs.Keeps.{all_level, fits_start}
use Rattle.machine.specs.Halts.{halts}
use Rattle.machine.specs.Units.{TextUnit, text_of}
use Rattle.machine.specs.Units as U
use Rattle.std.specs.declared.result.Result.{Result}
use Rattle.machine.specs.Tally.{Tally, tally_none, tally_added}
use Rattle.machine.specs.Fit.{text_append}
use Rattle.machine.specs.Explained.{Explained, lines_as, units_for}
use Rattle.machine.specs.Laws.Explained.{unique}
use Rattle.machine.specs.Turns.{Turns, stay, turn, turns_then, turns_fit}
use Rattle.machine.specs.Writes.{so_far, units_append, end_done, end_loops, end_full}
use Rattle.machine.specs.Frames.{branch_of, branch_length, kid_marks}
use Rattle.texts.specs.Wrote.{Wrote, over}
use Rattle.texts.specs.Laws.Wrote.{wrote_none, wrote_length, behind}
use Rattle.texts.specs.MarkBits as M
use Rattle.texts.specs.declared.Indenter.{Indenter}
use Rattle.plan.specs.Fields.{plan_in, start_in, kids_in, runs_in, run_first, run_end, kid_at, kids_none, kids_more, solvable_in}
use Rattle.plan.specs.Fields.{text_length}
use Rattle.plan.specs.Texts.{package_in}
use Rattle.lines.specs.Said.{lines_in}
use Rattle.lines.specs.SetLaws.{part_back}
use Rattle.explanation.specs.Deep.{kid_within}
use Rattle.explanation.specs.Ends.{answer_at, told_of}
use Rattle.explanation.specs.Frames.{owner_in, frames_in, frames_length, frames_branch}
use Rattle.explanation.specs.Judge.{Flags}
use Rattle.explanation.specs.Stand.{indenter_at, stack_in, runs_at, kids_at, frames_at, Small, measure, Indented, Stepped, Level, level_step}
use Rattle.explanation.specs.Turned.{Went, WalkTurned, TurnedOn, TurnedDone, TurnedLoops, TurnedFull, Known, Framed}
use Rattle.explanation.specs.declared.frames.Top.{Top}
use Rattle.explanation.specs.declared.turns.End.{End}
use Rattle.explanation.specs.declared.turns.End.TheVariants.{Done, Loops, Full}
use Rattle.explanation.specs.declared.walk.WalkAnswer.{WalkAnswer}

-- what the walk asks of a packed plan: a kid's text is as long as the plan says, and the kids are counted, within the frames
pub record Ready (T : Tables) (p k : List ℕ) : Type 0 where
  pub sized : (r n : ℕ) → In n (kids_in p k r) → text_length p n ≡ length (package_in T p n)
  pub G : List ℕ
  pub U : List ℕ
  pub counted : (r n : ℕ) → In n ((plan_in p k).kids r) → Counted (plan_in p k) G U n
  pub small : most (plan_in p k) G U ≤ 2079

-- ---- what holds of every entry on the stack: its branch is of packages that open, and a package was a kid

module _ (P : Plan ℕ) (N : ℕ → Type 0) where
  abbrev pub OwnKid : Op ℕ → Type 0
  OwnKid (requirement r) = Unit {0}
  OwnKid (candidate n) = N n

  abbrev pub Came : Entry ℕ → Type 0
  Came e = All (λ m. P.opens m ≡ true) e.branch × OwnKid e.op

  module _ (kids : (r n : ℕ) → In n (P.kids r) → N n) where
    came_pushed : (o : Op ℕ) (ms : List Bool) (b : List ℕ) (es : List (Entry ℕ)) (rep : List ℕ) → All Came (entry o ms b ∷ es)
        → All Came (next P (state (entry o ms b ∷ es) rep)).stack
    came_pushed (requirement r) ms b es rep a =
        all_append Came (level candidate ms b (P.kids r)) es (all_level Came candidate ms b (P.kids r) (λ n ns i. (a.0.0, kids r n i))) a.1
    came_pushed (candidate n) ms b es rep a =
        split (skipped P rep n)
        (λ s. rw s a.1)
        (λ s. rw s (all_append Came (under P ms b n) es
        (split (P.opens n) (λ o. rw o (all_level Came requirement ms (n ∷ b) (P.runs n) (λ r ns i. ((o, a.0.0), tt)))) (λ o. rw o tt)) a.1))

    came_next : (s : State ℕ) → All Came s.stack → All Came (next P s).stack
    came_next s a = by_stack s.stack s.reported a
      where
        by_stack : (es : List (Entry ℕ)) (rep : List ℕ) → All Came es → All Came (next P (state es rep)).stack
        by_stack [] rep a = tt
        by_stack (e ∷ es) rep a = came_pushed e.op e.marks e.branch es rep a

    pub came_turns : (s s' : State ℕ) (es : List (Entry ℕ)) → Turns P s es s' → All Came s.stack → All Came s'.stack
    came_turns s s' es stay a = a
    came_turns s s' es (turn gs u q g) a = came_next u (came_turns s u gs q a)

  pub came_start : (rs : List ℕ) → All Came (start rs).stack
  came_start rs = all_level Came requirement [] [] rs (λ r ns i. (tt, tt))

-- ---- so far: the machine's turns from the start, and the text at the start of the room

pub record SoFar (T : Tables) (p k : List ℕ) (top : Bool) (fr seen : List ℕ) (t : Top) (out₀ out : List ℕ) : Type 0 where
  pub es : List (Entry ℕ)
  pub rep : List ℕ
  pub turns : Turns (plan_in p k) (start_in p) es (state (stack_in p k t fr) rep)
  pub flags : Flags seen rep
  pub tally : Tally (units_for (plan_in p k) (lines_in T p k top) es) t.at t.units t.depth
  pub wrote : Wrote (text_of (units_for (plan_in p k) (lines_in T p k top) es)) out₀ out t.at

-- all that holds whenever the loop begins a turn
pub record Walking (T : Tables) (p k : List ℕ) (top : Bool) (fr seen : List ℕ) (t : Top) (g : Indenter) (out₀ out : List ℕ) : Type 0 where
  pub ready : Ready T p k
  pub so_far_lem : SoFar T p k top fr seen t out₀ out
  pub small : Small p fr t
  pub within : t.at ≤ length out
  pub same : length out ≡ length out₀
  pub frames : length fr ≡ 2080
  pub flags : length seen ≡ 128
  pub held : Indented p k fr t g
  pub top_is : g.top ≡ top

unfoldable pub to_go : List ℕ → Top → ℕ
to_go out t = measure (length out) t

-- an answer with the text that it counts
abbrev pub result_by : WalkAnswer → List ℕ → U.Result
result_by r t = record { number = r.number; place = r.place; bytes = r.bytes; units = r.units; depth = r.depth; text = t }

-- the contract: the machine's answer for this room, and every byte of it
pub record Answered (T : Tables) (p k : List ℕ) (top : Bool) (out left : List ℕ) (r : WalkAnswer) : Type 0 where
  pub text : List ℕ
  pub is : Explained (plan_in p k) (lines_in T p k top) (solvable_in p) (start_in p) (length out) (result_by r text)
  pub room : Wrote text out left r.bytes

-- two results that the contract allows are equal
pub answered_one : (T : Tables) (p k : List ℕ) (top : Bool) (out a b : List ℕ) (r q : WalkAnswer) → Answered T p k top out a r → Answered T p k top out b q
    → (r ≡ q) × (a ≡ b)
answered_one T p k top out a b r q x y =
    let e = unique (plan_in p k) (lines_in T p k top) (solvable_in p) (start_in p) (length out) (result_by r x.text) (result_by q y.text) x.is y.is in (
      ap (λ (z : U.Result). record { number = z.number; place = z.place; bytes = z.bytes; units = z.units; depth = z.depth }) e,
      x.room.leaves ∙ ap (λ (z : U.Result). over z.text out) e ∙ sym y.room.leaves,
    )

-- where the walk begins
abbrev pub first : ℕ → ℕ → Top
first a b = record { r = a; re = b; k = 0; ke = 0; d = 0; at = 0; units = 0; depth = 0 }

pub first_so_far : (T : Tables) (p k : List ℕ) (top : Bool) (fr seen out : List ℕ) (a b : ℕ) → a ≡ run_first p 0 → b ≡ run_end p 0 → Flags seen []
    → SoFar T p k top fr seen (first a b) out out
unfolding stack_in start_in runs_in frames_in
first_so_far T p k top fr seen out a b ai bi f =
    record {
      es = [];
      rep = [];
      turns = rw (kids_none k 0 0 (omega arith), ai, bi, append-nil) stay;
      flags = f;
      tally = tally_none;
      wrote = wrote_none;
    }

pub first_small : (p fr : List ℕ) (a b : ℕ) → a < 2048 → b < 2048 → b ≡ run_end p 0 → Small p fr (first a b)
unfolding owner_in
first_small p fr a b h i e =
    record {
      r = h;
      re = i;
      k = omega arith;
      ke = omega arith;
      d = omega arith;
      rune = e;
      kide = λ z. let y : ⊥ = omega arith in absurd y;
      deep = omega arith;
      units = omega arith;
    }

first_held : (p k fr : List ℕ) (a b : ℕ) (ws : List ℕ) (top : Bool) → Indented p k fr (first a b) (indenter_at ws 0 top)
unfolding frames_in M.upper M.marks_in M.marks_at
first_held p k fr a b ws top =
    record {
      count = omega arith;
      levels = omega arith;
      above = refl;
      wide = λ z. let y : ⊥ = omega arith in absurd y;
      beside = λ z. let y : ⊥ = omega arith in absurd y;
    }

pub walking_first : (T : Tables) (p k : List ℕ) (top : Bool) (fr seen out : List ℕ) (a b : ℕ) (ws : List ℕ) → Ready T p k
    → a ≡ run_first p 0 → b ≡ run_end p 0 → a < 2048
    → b < 2048 → Flags seen [] → length fr ≡ 2080 → length seen ≡ 128 → Walking T p k top fr seen (first a b) (indenter_at ws 0 top) out out
walking_first T p k top fr seen out a b ws r ai bi al bl f lf ls =
    record {
      ready = r;
      so_far_lem = first_so_far T p k top fr seen out a b ai bi f;
      small = first_small p fr a b al bl bi;
      within = omega arith;
      same = refl;
      frames = lf;
      flags = ls;
      held = first_held p k fr a b ws top;
      top_is = refl;
    }

-- ---- the next kid was a kid

so_far_known : (T : Tables) (p k : List ℕ) (top : Bool) (fr seen : List ℕ) (t : Top) (out₀ out : List ℕ) → SoFar T p k top fr seen t out₀ out → Ready T p k
    → Known T p k t
unfolding stack_in start_in plan_in
so_far_known T p k top fr seen t out₀ out s r =
    record {
      own = λ h.
          let a = came_turns (plan_in p k) (λ n. text_length p n ≡ length (package_in T p n)) r.sized (start_in p) (state (stack_in p k t fr) s.rep) s.es
          s.turns
          (came_start (plan_in p k) (λ n. text_length p n ≡ length (package_in T p n)) (runs_in p 0)) in
          (rw (kids_more k t.k t.ke h) at a).0.1;
    }

wrote_at : {t o d : List ℕ} {n m : ℕ} → n ≡ m → Wrote t o d m → Wrote t o d n
wrote_at e w = rw e w

pub walking_known : (T : Tables) (p k : List ℕ) (top : Bool) (fr seen : List ℕ) (t : Top) (g : Indenter) (out₀ out : List ℕ)
    → Walking T p k top fr seen t g out₀ out → Known T p k t
walking_known T p k top fr seen t g out₀ out x = so_far_known T p k top fr seen t out₀ out x.so_far_lem x.ready

pub walking_level : (T : Tables) (p k : List ℕ) (top : Bool) (fr seen : List ℕ) (t : Top) (g h : Indenter) (out₀ out : List ℕ)
    → Walking T p k top fr seen t g out₀ out → Stepped t g h → Level p k fr t h
walking_level T p k top fr seen t g h out₀ out x sp = level_step p k fr t g h x.held sp x.small

-- B1: no package is shown below as many opened ones as there are frames
pub walking_framed : (T : Tables) (p k : List ℕ) (top : Bool) (fr seen : List ℕ) (t : Top) (g : Indenter) (out₀ out : List ℕ)
    → Walking T p k top fr seen t g out₀ out → Framed p k fr seen t
unfolding start_in stack_in
walking_framed T p k top fr seen t g out₀ out x =
    let s = x.so_far_lem in
    let r = x.ready in
    let P = plan_in p k in
    let now = state (stack_in p k t fr) s.rep in
    record {
      left = λ h again kept.
          let fit = rw (kids_more k t.k t.ke h) at
          (turns_fit P r.G r.U r.counted (start_in p) now s.es s.turns (fits_start P r.G r.U (runs_in p 0))) in
          let came = rw (kids_more k t.k t.ke h) at
          (came_turns P (λ n. Unit {0}) (λ x n i. tt) (start_in p) now s.es s.turns (came_start P (λ n. Unit {0}) (runs_in p 0))) in
          let b = kid_within P r.G r.U (kid_at k t.k) (kid_marks (runs_at p k t fr) (kids_at p k t fr) (frames_at p k t fr))
          (branch_of (frames_at p k t fr)) s.rep fit.0 came.0.0 (kept s.rep s.flags)
          (rw (frames_branch p k fr t.d) again) in
          let l = branch_length (frames_at p k t fr) in
          let m = frames_length p k fr t.d in
          let f = r.small in
          omega arith;
    }

-- ---- the room: the rest from at on was lent, and comes back as left

abbrev pub rest : List ℕ → ℕ → List ℕ
rest out at = take (length out - at) (drop at out)

abbrev pub back : List ℕ → ℕ → List ℕ → List ℕ
back out at left = put_mid at (length out - at) out left

pub rest_length : (out : List ℕ) (at : ℕ) → at ≤ length out → at + length (rest out at) ≡ length out
rest_length out at h = rw (length-take, length-drop) (omega arith)

pub rest_fits : (T : Tables) (p k : List ℕ) (top : Bool) (fr seen : List ℕ) (t : Top) (g : Indenter) (out₀ out : List ℕ)
    → Walking T p k top fr seen t g out₀ out → length out₀ < 18446744073709551616
    → t.at + length (rest out t.at) < 18446744073709551616
rest_fits T p k top fr seen t g out₀ out x h = let e = rest_length out t.at x.within in let s = x.same in omega arith

module _ (T : Tables) (p k : List ℕ) (top : Bool) (fr seen : List ℕ) (t : Top) (out₀ out : List ℕ) (g : Indenter) (x : Walking T p k top fr seen t g out₀ out)
    (h : Indenter) (sp : Stepped t g h)
    (r : Result Top End) (fr' seen' left : List ℕ) (q : WalkTurned T p k h t fr seen (rest out t.at) r fr' seen' left) where
  s : SoFar T p k top fr seen t out₀ out
  s = x.so_far_lem

  abbrev P : Plan ℕ
  P = plan_in p k

  abbrev lines : Entry ℕ → List (List ℕ)
  lines = lines_in T p k top

  ht : h.top ≡ top
  ht = sp.top ∙ x.top_is

  same_length : length out ≡ length out₀
  same_length = wrote_length s.wrote

  -- ---- the walk goes on

  module _ (u : Top) (e : r ≡ Ok u) where
    on : TurnedOn T p k h t fr seen (rest out t.at) u fr' seen' left
    unfolding WalkTurned
    on = rw e at q

    went : Went T p k top (state (stack_in p k t fr) s.rep) t (rest out t.at) u fr' seen' left
    went = subst (λ (b : Bool). Went T p k b (state (stack_in p k t fr) s.rep) t (rest out t.at) u fr' seen' left) ht (on.went s.rep s.flags)

    on_so_far : SoFar T p k top fr' seen' u out₀ (back out t.at left)
    on_so_far =
        let w = went in
        record {
          es = s.es ++ w.es;
          rep = w.rep;
          turns = turns_then P (start_in p) (state (stack_in p k t fr) s.rep) (state (stack_in p k u fr') w.rep) s.es w.es s.turns w.turns;
          flags = w.flags;
          tally = rw (units_append P lines s.es w.es)
              (tally_added (units_for P lines s.es) (units_for P lines w.es) t.at t.units t.depth u.at u.units u.depth s.tally
              w.added);
          wrote =
              rw (units_append P lines s.es w.es, text_append (units_for P lines s.es) (units_for P lines w.es))
              (wrote_at w.at (behind s.wrote w.wrote));
        }

    on_length : length (back out t.at left) ≡ length out₀
    on_length = wrote_length on_so_far.wrote

    on_within : u.at ≤ length (back out t.at left)
    on_within = let a = on.within in let b = rest_length out t.at x.within in let c = on_length in let d = same_length in omega arith

    pub walking_less : to_go (back out t.at left) u < to_go out t
    unfolding to_go
    walking_less =
        let b = rest_length out t.at x.within in
        let c : length (back out t.at left) ≡ length out = on_length ∙ sym same_length in
        rw (c, ← b) on.less

    pub walking_on : Walking T p k top fr' seen' u h out₀ (back out t.at left)
    walking_on =
        record {
          ready = x.ready;
          so_far_lem = on_so_far;
          small = on.small;
          within = on_within;
          same = on_length;
          frames = on.frames ∙ x.frames;
          flags = on.flags ∙ x.flags;
          held = on.held;
          top_is = ht;
        }

  -- ---- the ways out

  abbrev so : List TextUnit
  so = units_for P lines s.es

  in_room : t.at ≤ length out₀
  in_room = let a = s.wrote.count in let b = s.wrote.fits in omega arith

  came_back : left ≡ rest out t.at → Wrote (text_of so) out₀ (back out t.at left) t.at
  came_back e = part_back left s.wrote e

  done_at : r ≡ Err Done → Answered T p k top out₀ (back out t.at left) (answer_at 0 0 t)
  unfolding WalkTurned
  done_at e =
      let d : TurnedDone p k t fr (rest out t.at) left = rw e at q in
      record {
        text = text_of so;
        is =
            end_done P lines (solvable_in p) (start_in p) (state (stack_in p k t fr) s.rep) s.es s.turns (length out₀) t.at t.units t.depth
            (text_of so)
            d.empty s.tally refl in_room;
        room = came_back d.same;
      }

  loops_at : (n : ℕ) → r ≡ Err (Loops n) → Answered T p k top out₀ (back out t.at left) (answer_at 11 (solvable_in p n) t)
  unfolding WalkTurned
  loops_at n e =
      let d : TurnedLoops p k t fr (rest out t.at) n left = rw e at q in
      record {
        text = text_of so;
        is =
            end_loops P lines (solvable_in p) (start_in p) (state (stack_in p k t fr) s.rep) s.es s.turns (length out₀) t.at t.units t.depth
            (text_of so)
            n d.stops s.tally refl in_room;
        room = came_back d.same;
      }

  ready : Ready T p k
  ready = x.ready

  full_at : (u : Top) → r ≡ Err (Full u) → Answered T p k top out₀ (back out t.at left) (answer_at 10 u.units u)
  unfolding start_in WalkTurned
  full_at u e =
      let f : TurnedFull T p k h t fr seen (rest out t.at) u left = rw e at q in
      let is : lines f.entry ≡ f.first ++ (f.line ∷ f.rest) = sym (ap (λ (b : Bool). lines_in T p k b f.entry) ht) ∙ f.is in
      let us : List TextUnit = lines_as P f.entry f.first in
      let y : Tally (so_far P lines s.es f.entry f.first) u.at u.units u.depth =
      tally_added so us t.at t.units t.depth u.at u.units u.depth s.tally f.added in
      let w : Wrote (text_of (so_far P lines s.es f.entry f.first)) out₀ (back out t.at left) u.at =
      rw (text_append so us) (wrote_at f.at (behind s.wrote f.wrote)) in
      record {
        text = text_of (so_far P lines s.es f.entry f.first);
        is = end_full P lines (solvable_in p) (start_in p) (state (stack_in p k t fr) s.rep) s.es s.turns (length out₀) u.at u.units u.depth
            (text_of (so_far P lines s.es f.entry f.first))
            (halts P ready.G ready.U ready.counted (runs_in p 0)) f.entry f.goes (f.shown s.rep s.flags) f.first f.line f.rest is
            y refl (let a = w.count in let b = w.fits in omega arith)
            (let a = f.over in let b = f.at in let c = rest_length out t.at (let x = same_length in let z = in_room in omega arith) in
            let d = same_length in omega arith);
        room = w;
      }

  some_same : {A : Type 0} {x y : A} → ◌≡◌ {A = Option A} (some x) (some y) → x ≡ y
  some_same e = cc

  -- a turn that ends the walk gives the answer of its case
  pub walk_ends : (y : End) (a : WalkAnswer) → r ≡ Err y → told_of p (Err y) t ≡ some a → Answered T p k top out₀ (back out t.at left) a
  unfolding told_of
  walk_ends Done a e i = rw (← some_same i) (done_at e)
  walk_ends (Loops n) a e i = rw (← some_same i) (loops_at n e)
  walk_ends (Full u) a e i = rw (← some_same i) (full_at u e)
