-- Demand 3, as theorems about the contract `Explained`, over any plan, any wording and any room.
use Rattle.std.specs.Prelude.{◌≡◌, refl, ◌⊎◌, List, [], ◌∷◌, ◌++◌, map, ℕ, ◌+◌, ◌≤◌, ◌<◌, max, length, leb}
use Rattle.std.proofs.Common.{sym, ◌∙◌, inl, inr, append-nil, append_assoc, arith, leb-true, leb-false}
use Rattle.std.proofs.Math.Path.{ap}
use Rattle.std.proofs.Math.Option.{Option, none, some}
use Rattle.basis.specs.Members.{In, All, all_append, split, either, clash}
use Rattle.machine.specs.Machine.{Plan, Entry, State, start, done, loops, stop_of, Told, tell, after, shows, openings}
use Rattle.machine.specs.Bound.{Counted, most}
use Rattle.machine.specs.Halts.{halts}
use Rattle.machine.specs.Never.{by_stop, came_start}
use Rattle.machine.specs.Told.{same, Finishes, done_finishes, loops_never, first_lines, shows_more, all_lines, within_bound}
use Rattle.machine.specs.Units.{TextUnit, Result, text_of, depth_of, written, fitting, fit}
use Rattle.machine.specs.Explained.{finish, units_of, units_for, Explained}
use Rattle.machine.specs.Laws.Explained.{explained_halted}
use Rattle.machine.specs.Fit.{concat_append, depth_append, depth_within, fitting_begins, fitting_within, next_unit, fit_whole, fit_less}

-- ---- what any result leaves: "exactly the first units of the text that the Rust's rules give"

-- after `turns` turns of the Rust's rules, or any number more, their text begins with the units written, of which depth is the deepest
pub record LeavesUnits {R : Type 0} (P : Plan R) (lines_of : Entry R → List (List ℕ)) (s : State R) (room : ℕ) (r : Result) : Type 0 where
  pub turns : ℕ
  pub first : List TextUnit
  pub begins : (j : ℕ) → (rest : List TextUnit) × (units_for P lines_of (shows P (turns + j) s) ≡ first ++ rest)
  pub text : r.text ≡ text_of first
  pub bytes : r.bytes ≡ length (text_of first)
  pub units : r.units ≡ length first
  pub depth : r.depth ≡ depth_of first
  pub within : r.bytes ≤ room

-- 10: "the next unit doesn't fit the room", place "units written"
pub record Full {R : Type 0} (P : Plan R) (lines_of : Entry R → List (List ℕ)) (s : State R) (room : ℕ) (r : Result) (l : LeavesUnits P lines_of s room r) : Type
    0 where
  pub place : r.place ≡ r.units
  pub unit : TextUnit
  pub rest : List TextUnit
  pub next : units_for P lines_of (shows P l.turns s) ≡ l.first ++ (unit ∷ rest)
  pub over : room < r.bytes + length unit.bytes

module _ {R : Type 0} (P : Plan R) (lines_of : Entry R → List (List ℕ)) (place_of : ℕ → ℕ) (s : State R) where
  -- the units told in n turns
  abbrev units : ℕ → List TextUnit
  units n = units_for P lines_of (tell P n s).shown

  abbrev size : ℕ → ℕ
  size n = length (text_of (units n))

  -- with which number and place the text would end
  abbrev Ends : ℕ → ℕ → ℕ → Type 0
  Ends n num place =
      (((tell P n s).stop ≡ done) × (num ≡ 0) × (place ≡ 0)) ⊎ ((p : ℕ) × ((tell P n s).stop ≡ loops p) × (num ≡ 11) × (place ≡ place_of p))

  module _ (room : ℕ) (r : Result) (x : Explained P lines_of place_of s room r) where
    abbrev Fitted : Type 0
    Fitted = (num : ℕ) × (place : ℕ) × Ends x.turns num place × (r ≡ fit num place room (units x.turns))

    fitted : Fitted
    fitted =
        by_stop (tell P x.turns s).stop
        (λ q. let f : ◌≡◌ {A = Option Result} none (some r) = rw (q, finish) at x.so in clash cc)
        (λ q. let f : ◌≡◌ {A = Option Result} (some (fit 0 0 room (units x.turns))) (some r) = rw (q, finish) at x.so in (0, 0, inl (q, refl, refl), cc))
        (λ p q. let f : ◌≡◌ {A = Option Result} (some (fit 11 (place_of p) room (units x.turns))) (some r) = rw (q, finish) at x.so in
        (11, place_of p, inr (p, q, refl, refl), cc))

    -- all of it fits, or not
    abbrev Whole : Type 0
    Whole = (size x.turns ≤ room) × ((num : ℕ) × (place : ℕ) × Ends x.turns num place × (r ≡ written num place (units x.turns)))

    abbrev Less : Type 0
    Less = (room < size x.turns) × (r ≡ written 10 (length (fitting room (units x.turns))) (fitting room (units x.turns)))

    either_way : Whole ⊎ Less
    either_way =
        let f = fitted in
        let us : List TextUnit = units x.turns in
        split (leb (size x.turns) room)
        (λ q. let h : size x.turns ≤ room = leb-true (size x.turns) room q in inl (h, (f.0, f.1, f.2, f.3 ∙ fit_whole f.0 f.1 room us h)))
        (λ q. let h : room < size x.turns = leb-false (size x.turns) room q in inr (h, f.3 ∙ fit_less f.0 f.1 room us h))

    -- what is told, cut anywhere, is a beginning
    begins : (k : ℕ) (first rest : List TextUnit) → (tell P x.turns s).shown ≡ shows P k s → units x.turns ≡ first ++ rest
        → (j : ℕ) → (more : List TextUnit) × (units_for P lines_of (shows P (k + j) s) ≡ first ++ more)
    begins k first rest e f j =
        let g : units_for P lines_of (shows P k s) ≡ first ++ rest = ap (units_for P lines_of) (sym e) ∙ f in (
          rest ++ units_for P lines_of (shows P j (after P k s)),
          ap (units_for P lines_of) (shows_more P k j s) ∙ concat_append (units_of P lines_of) (shows P k s) (shows P j (after P k s)) ∙ rw (g, append_assoc),
        )

    leaves_first : (num place : ℕ) (first rest : List TextUnit) → units x.turns ≡ first ++ rest → length (text_of first) ≤ room → r ≡ written num place first
        → LeavesUnits P lines_of s room r
    leaves_first num place first rest e h q =
        let f = first_lines P x.turns s in
        record {
          turns = f.0;
          first = first;
          begins = begins f.0 first rest f.1.0 e;
          text = rw q;
          bytes = rw q;
          units = rw q;
          depth = rw q;
          within = rw q h;
        }

    leaves_by : Whole ⊎ Less → LeavesUnits P lines_of s room r
    leaves_by (inl w) = leaves_first w.1.0 w.1.1 (units x.turns) [] (sym (append-nil (units x.turns))) w.0 w.1.3
    leaves_by (inr l) =
        let us : List TextUnit = units x.turns in
        let b = fitting_begins room us in
        leaves_first 10 (length (fitting room us)) (fitting room us) b.0 b.1 (fitting_within room us) l.1

    not_ten : (num place : ℕ) → Ends x.turns num place → num ≡ 10 → ⊥
    not_ten num place e h = either e (λ d. let z = d.1 in omega arith) (λ l. let z = l.2 in omega arith)

    full_by : (w : Whole ⊎ Less) → r.number ≡ 10 → Full P lines_of s room r (leaves_by w)
    unfolding leaves_by leaves_first
    full_by (inl w) e = absurd (not_ten w.1.0 w.1.1 w.1.2 (rw w.1.3 at e))
    full_by (inr l) e =
        let n = next_unit room (units x.turns) l.0 in
        record {
          place = rw l.1;
          unit = n.unit;
          rest = n.rest;
          next = ap (units_for P lines_of) (sym (first_lines P x.turns s).1.0) ∙ n.is;
          over = rw l.1 n.over;
        }

    pub leaves : LeavesUnits P lines_of s room r
    leaves = leaves_by either_way

    pub full : r.number ≡ 10 → Full P lines_of s room r leaves
    unfolding leaves
    full e = full_by either_way e

-- ---- that it stops, with which number, and how deep: for every plan whose kids are counted

-- size: the bytes of the whole text, up to its end or to the package that would be opened below itself
pub record Demand {R : Type 0} (P : Plan R) (lines_of : Entry R → List (List ℕ)) (place_of : ℕ → ℕ) (rs : List R) (D : ℕ) : Type 0 where
  pub size : ℕ
  pub whole : (room : ℕ) (r : Result) → Explained P lines_of place_of (start rs) room r → size ≤ room
      → ((r.number ≡ 0) × (r.place ≡ 0) × Finishes P (start rs)) ⊎ ((r.number ≡ 11) × (Finishes P (start rs) → ⊥))
  pub bytes : (room : ℕ) (r : Result) → Explained P lines_of place_of (start rs) room r → size ≤ room → r.bytes ≡ size
  pub less : (room : ℕ) (r : Result) → Explained P lines_of place_of (start rs) room r → room < size → r.number ≡ 10
  -- where the Rust's rules finish, the text is all of theirs
  pub text : (room : ℕ) (r : Result) → Explained P lines_of place_of (start rs) room r → size ≤ room
      → (m : ℕ) → (after P m (start rs)).stack ≡ [] → r.text ≡ text_of (units_for P lines_of (shows P m (start rs)))
  pub depth : (room : ℕ) (r : Result) → Explained P lines_of place_of (start rs) room r → r.depth ≤ D

module _ {R : Type 0} (P : Plan R) (lines_of : Entry R → List (List ℕ)) where
  units_within : (D : ℕ) (ls : List (List ℕ)) (n : ℕ) → n ≤ D → All (λ (u : TextUnit). u.openings ≤ D) (map (λ l. record { bytes = l; openings = n }) ls)
  units_within D [] n h = tt
  units_within D (l ∷ ls) n h = (h, units_within D ls n h)

  all_within : (D : ℕ) (es : List (Entry R)) → All (λ e. openings P e ≤ D) es → All (λ (u : TextUnit). u.openings ≤ D) (units_for P lines_of es)
  all_within D [] a = tt
  all_within D (e ∷ es) a =
      all_append (λ (u : TextUnit). u.openings ≤ D) (units_of P lines_of e) (units_for P lines_of es) (units_within D (lines_of e) (openings P e) a.0)
      (all_within D es a.1)

module _ {R : Type 0} (P : Plan R) (lines_of : Entry R → List (List ℕ)) (place_of : ℕ → ℕ) (rs : List R) where
  module _ (room : ℕ) (r : Result) (x : Explained P lines_of place_of (start rs) room r) where
    number_ends : (num place : ℕ) → Ends P lines_of place_of (start rs) x.turns num place → r.number ≡ num → r.place ≡ place
        → ((r.number ≡ 0) × (r.place ≡ 0) × Finishes P (start rs)) ⊎ ((r.number ≡ 11) × (Finishes P (start rs) → ⊥))
    number_ends num place e q p =
        either e
        (λ d. inl (q ∙ d.1, p ∙ d.2, done_finishes P x.turns (start rs) d.0))
        (λ l. inr (q ∙ l.2, loops_never P x.turns (start rs) (came_start P rs) l.0 l.1))

    whole_number : size P lines_of place_of (start rs) x.turns ≤ room
        → ((r.number ≡ 0) × (r.place ≡ 0) × Finishes P (start rs)) ⊎ ((r.number ≡ 11) × (Finishes P (start rs) → ⊥))
    whole_number h =
        either (either_way P lines_of place_of (start rs) room r x)
        (λ w. number_ends w.1.0 w.1.1 w.1.2 (rw w.1.3) (rw w.1.3))
        (λ l. let k = l.0 in let z : ⊥ = omega arith in absurd z)

    whole_bytes : size P lines_of place_of (start rs) x.turns ≤ room → r.bytes ≡ size P lines_of place_of (start rs) x.turns
    whole_bytes h =
        either (either_way P lines_of place_of (start rs) room r x)
        (λ w. rw w.1.3)
        (λ l. let k = l.0 in let z : ⊥ = omega arith in absurd z)

    less_number : room < size P lines_of place_of (start rs) x.turns → r.number ≡ 10
    less_number h =
        either (either_way P lines_of place_of (start rs) room r x)
        (λ w. let k = w.0 in let z : ⊥ = omega arith in absurd z)
        (λ l. rw l.1)

    whole_text : size P lines_of place_of (start rs) x.turns ≤ room → (m : ℕ) → (after P m (start rs)).stack ≡ []
        → r.text ≡ text_of (units_for P lines_of (shows P m (start rs)))
    whole_text h m e =
        either (either_way P lines_of place_of (start rs) room r x)
        (λ w. either w.1.2
        (λ d. rw w.1.3 (ap (λ (es : List (Entry R)). text_of (units_for P lines_of es)) (all_lines P x.turns m (start rs) d.0 e)))
        (λ l. absurd (loops_never P x.turns (start rs) (came_start P rs) l.0 l.1 (m, e))))
        (λ l. let k = l.0 in let z : ⊥ = omega arith in absurd z)

    depth_within_all : (D : ℕ) → depth_of (units P lines_of place_of (start rs) x.turns) ≤ D → r.depth ≤ D
    depth_within_all D h =
        let us : List TextUnit = units P lines_of place_of (start rs) x.turns in
        either (either_way P lines_of place_of (start rs) room r x)
        (λ w. rw w.1.3 h)
        (λ l.
        let b = fitting_begins room us in
        let a : depth_of us ≡ max (depth_of (fitting room us)) (depth_of b.0) = ap depth_of b.1 ∙ depth_append (fitting room us) b.0 in
        rw l.1 (omega arith))

    -- 11 and its place: so many turns of the Rust's rules lead to where p would be opened below itself
    pub loops_at : r.number ≡ 11 → (p : ℕ) × (r.place ≡ place_of p) × ((k : ℕ) × (stop_of P (after P k (start rs)).stack ≡ loops p))
    loops_at e =
        let f = first_lines P x.turns (start rs) in
        either (either_way P lines_of place_of (start rs) room r x)
        (λ w. either w.1.2
        (λ d. let a = d.1 in let b : r.number ≡ w.1.0 = rw w.1.3 in let z : ⊥ = omega arith in absurd z)
        (λ l. (l.0, rw w.1.3 l.3, (f.0, sym f.1.1 ∙ l.1))))
        (λ l. let b : r.number ≡ 10 = rw l.1 in let z : ⊥ = omega arith in absurd z)

  module _ (G U : List ℕ) (counted : (r : R) (n : ℕ) → In n (P.kids r) → Counted P G U n) where
    -- as many turns as are enough give the same text
    same_size : (room : ℕ) (r : Result) (x : Explained P lines_of place_of (start rs) room r)
        → size P lines_of place_of (start rs) x.turns ≡ size P lines_of place_of (start rs) (halts P G U counted rs).0
    same_size room r x =
        let h = halts P G U counted rs in
        ap (λ (t : Told R). length (text_of (units_for P lines_of t.shown)))
        (same P x.turns h.0 (start rs) (explained_halted P lines_of place_of (start rs) room r x) h.1)

    pub demand : Demand P lines_of place_of rs (most P G U)
    demand =
        record {
          size = size P lines_of place_of (start rs) (halts P G U counted rs).0;
          whole = λ room r x h. whole_number room r x (rw (same_size room r x) h);
          bytes = λ room r x h. whole_bytes room r x (rw (same_size room r x) h) ∙ same_size room r x;
          less = λ room r x h. less_number room r x (rw (same_size room r x) h);
          text = λ room r x h m e. whole_text room r x (rw (same_size room r x) h) m e;
          depth = λ room r x. depth_within_all room r x (most P G U)
              (depth_within (most P G U) (units P lines_of place_of (start rs) x.turns)
              (all_within P lines_of (most P G U) (tell P x.turns (start rs)).shown (within_bound P G U counted x.turns rs)));
        }

  -- ---- the same, each half by itself, for every room

  module _ (D : ℕ) (d : Demand P lines_of place_of rs D) (room : ℕ) (r : Result) (x : Explained P lines_of place_of (start rs) room r) where
    pub done_if : r.number ≡ 0 → Finishes P (start rs)
    done_if e =
        split (leb d.size room)
        (λ q. either (d.whole room r x (leb-true d.size room q)) (λ w. w.2) (λ w. let z : ⊥ = let k = w.0 in omega arith in absurd z))
        (λ q. let k = d.less room r x (leb-false d.size room q) in let z : ⊥ = omega arith in absurd z)

    pub never_if : r.number ≡ 11 → Finishes P (start rs) → ⊥
    never_if e =
        split (leb d.size room)
        (λ q. either (d.whole room r x (leb-true d.size room q)) (λ w. let z : ⊥ = let k = w.0 in omega arith in absurd z) (λ w. w.1))
        (λ q. let k = d.less room r x (leb-false d.size room q) in let z : ⊥ = omega arith in absurd z)

    pub if_done : d.size ≤ room → Finishes P (start rs) → r.number ≡ 0
    if_done h f = either (d.whole room r x h) (λ w. w.0) (λ w. absurd (w.1 f))

    pub if_never : d.size ≤ room → (Finishes P (start rs) → ⊥) → r.number ≡ 11
    if_never h f = either (d.whole room r x h) (λ w. absurd (f w.2)) (λ w. w.0)
