-- A good record by the arm of its kind, as the code tests it on plain numbers: all that is asked of it at once. An arm that says yes
-- says what `check_pass` says; where it says no, nothing is said. Laws: one a slot, one a kind.
use Rattle.std.specs.Prelude.{◌≡◌, Bool, cond, Option, Some, None, Result, Ok, Err, List, ℕ, ◌%◌, ◌≤◌, length, replicate, leb, ltb, eqb}
use Rattle.std.proofs.Math.Path.{refl, ap}
use Rattle.std.proofs.Common.{sym, ◌∙◌}
use Rattle.std.proofs.Math.Bool.{true, false}
use Rattle.std.specs.Bool.{then_some}
use Rattle.basis.specs.Guard.{guard}
use Rattle.basis.specs.Members.{clash}
use Rattle.records.specs.declared.Allowed.{Allowed}
use Rattle.records.specs.declared.Allowed.TheVariants as A
use Rattle.records.specs.declared.Refused.{Refused}
use Rattle.records.specs.declared.Counts.{Counts}
use Rattle.records.specs.declared.First.TheVariants as F
use Rattle.records.specs.declared.Shape.{Shape}
use Rattle.records.specs.declared.Slot.{Slot}
use Rattle.records.specs.declared.Slot.TheVariants as S
use Rattle.records.specs.declared.Table.{Table}
use Rattle.records.specs.declared.Table.TheVariants.{Names, Solvables, VersionSets, Requirements, Candidates, Reasons, Variables, Assigned, Clauses}
use Rattle.records.specs.Shapes.{Rec, shape_of}
use Rattle.records.specs.Text.{text_pass, first_pass}
use Rattle.records.specs.Pass.{found_at, count_pass, limit_pass, is_next, is_before, has_room, field_pass, named_zero, shape_pass, named_pass, free_pass, number_pass}
use Rattle.records.specs.Pass.{numbers_pass, allows_pass, mark_origin, origin_pass, origins_pass, admit_pass, check_at, check_pass}
use Rattle.records.specs.Pass.{left_pass, no_counts, left_start}
use Rattle.records.specs.Read.{read_of, answer_of}
use Rattle.records.specs.Agree.{read_run}

-- ---- what the arms ask

-- number n of a table that holds l, with a text
abbrev pub texted_fits : Rec → ℕ → ℕ → Bool
texted_fits r n l =
    guard (ltb n l) false
    (guard (eqb r.a n) false
    (guard (eqb r.b 0) false
    (guard (eqb r.c 0) false
    (text_pass r))))

-- the same with one of k names
abbrev pub named_fits : Rec → ℕ → ℕ → ℕ → Bool
named_fits r n l k =
    guard (ltb n l) false
    (guard (eqb r.a n) false
    (guard (ltb r.b k) false
    (guard (eqb r.c 0) false
    (text_pass r))))

-- candidate n, over k requirements and l solvables
abbrev pub candidate_fits : Rec → ℕ → ℕ → ℕ → Bool
candidate_fits r n k l =
    guard (ltb n 1024) false
    (guard (ltb r.a k) false
    (guard (ltb r.b l) false
    (guard (eqb r.c 0) false
    (first_pass F.Unused r))))

-- the origin of a variable, and what it names
abbrev pub stands_fits : Counts → Rec → Bool
stands_fits c r =
    guard (leb r.b 5) false
    (guard (named_zero r.b r.c) false
    (named_pass c r.b r.c))

-- variable n
abbrev pub variable_fits : Counts → Rec → ℕ → Bool
variable_fits c r n =
    guard (ltb n 1024) false
    (guard (eqb r.a n) false
    (guard (stands_fits c r) false
    (first_pass F.Unused r)))

-- one of v variables, of an origin that is allowed
abbrev pub origin_fits : List ℕ → ℕ → Allowed → ℕ → Bool
origin_fits m v o x = guard (ltb x v) false (allows_pass o (mark_origin m x))

-- clause n of one of v variables, and of one of k requirements or reasons
abbrev pub refers_fits : List ℕ → Rec → ℕ → ℕ → ℕ → Allowed → Bool
refers_fits m r n v k o =
    guard (ltb n 1024) false
    (guard (ltb r.b k) false
    (guard (eqb r.c 0) false
    (guard (first_pass F.Flag r) false
    (origin_fits m v o r.a))))

-- clause n that names nothing
abbrev pub alone_fits : Rec → ℕ → Bool
alone_fits r n =
    guard (ltb n 1024) false
    (guard (eqb r.a 0) false
    (guard (eqb r.b 0) false
    (guard (eqb r.c 0) false
    (first_pass F.Flag r))))

-- two of v variables, and a flag
abbrev pub parties_fit : List ℕ → Rec → ℕ → Allowed → Allowed → Bool
parties_fit m r v o p =
    guard (origin_fits m v o r.a) false
    (guard (origin_fits m v p r.b) false
    (first_pass F.Flag r))

-- clause n of two of v variables
abbrev pub pair_fits : List ℕ → Rec → ℕ → ℕ → Allowed → Allowed → Bool
pair_fits m r n v o p = guard (ltb n 1024) false (guard (eqb r.c 0) false (parties_fit m r v o p))

-- clause n of two of v variables and one of k version sets
abbrev pub bounded_fits : List ℕ → Rec → ℕ → ℕ → ℕ → Allowed → Allowed → Bool
bounded_fits m r n v k o p = guard (ltb n 1024) false (guard (ltb r.c k) false (parties_fit m r v o p))

-- record 8 number n, of one of k clauses
abbrev pub assigned_fits : Counts → List ℕ → Rec → ℕ → ℕ → Bool
assigned_fits c m r n k =
    guard (ltb n 1024) false
    (guard (free_pass c m r.a) false
    (guard (ltb r.b k) false
    (guard (eqb r.c 0) false
    (first_pass F.Unused r))))

-- what an arm said
abbrev pub said_by : Bool → Table → Option Table
said_by f t = then_some f t

-- a step that goes on is the check's
unfoldable pub Sure : Counts → List ℕ → Rec → Option Table → Type 0
Sure c m r s = (t : Table) → s ≡ Some t → Ok t ≡ check_pass c m r

-- ---- ways out of the code

pub zero_via : (b x d z : ℕ) (t : Bool) → t ≡ named_zero b x → b ≡ d → x ≡ z → t ≡ named_zero d z
zero_via b x d z t q e f = rw (e, f) at q

pub named_via : (c : Counts) (b x d z : ℕ) (t : Bool) → t ≡ named_pass c b x → b ≡ d → x ≡ z → t ≡ named_pass c d z
named_via c b x d z t q e f = rw (e, f) at q

pub origin_fits_via : (m : List ℕ) (v : ℕ) (o : Allowed) (x z : ℕ) (t : Bool) → t ≡ origin_fits m v o x → x ≡ z → t ≡ origin_fits m v o z
origin_fits_via m v o x z t q e = rw e at q

pub free_via : (c : Counts) (m : List ℕ) (x z : ℕ) (t : Bool) → t ≡ free_pass c m x → x ≡ z → t ≡ free_pass c m z
free_via c m x z t q e = rw e at q

pub said_yes : (f : Bool) (t : Table) → f ≡ true → Some t ≡ said_by f t
said_yes f t e = rw e

pub said_no : (f : Bool) (t : Table) → f ≡ false → None ≡ said_by f t
said_no f t e = rw e

-- ---- one field: it is good by itself, its number is, and its origin is

pub record SlotFits (c : Counts) (m : List ℕ) (t : Table) (s : Slot) (r : Rec) (x : ℕ) : Type 0 where
  pub field : field_pass s r x ≡ true
  pub number : number_pass c m t s r.b x ≡ true
  pub origin : origin_pass m s x ≡ true

module _ (c : Counts) (m : List ℕ) (t : Table) (r : Rec) (x : ℕ) where
  unused_fits : eqb x 0 ≡ true → SlotFits c m t S.Unused r x
  unfolding field_pass number_pass origin_pass
  unused_fits e = record { field = e; number = refl; origin = refl }

  own_fits : eqb x (count_pass t c) ≡ true → SlotFits c m t S.Own r x
  unfolding field_pass number_pass origin_pass is_next
  own_fits e = record { field = refl; number = e; origin = refl }

  names_fits : (u : Table) → ltb x (count_pass u c) ≡ true → SlotFits c m t (S.Names u) r x
  unfolding field_pass number_pass origin_pass is_before
  names_fits u e = record { field = refl; number = e; origin = refl }

  variable_fits_lem : (o : Allowed) → ltb x (count_pass Variables c) ≡ true → allows_pass o (mark_origin m x) ≡ true → SlotFits c m t (S.Variable o) r x
  unfolding field_pass number_pass origin_pass is_before
  variable_fits_lem o e q = record { field = refl; number = e; origin = q }

  origin_fits_lem : leb x 5 ≡ true → SlotFits c m t S.Origin r x
  unfolding field_pass number_pass origin_pass
  origin_fits_lem e = record { field = e; number = refl; origin = refl }

  named_fits_lem : named_zero r.b x ≡ true → named_pass c r.b x ≡ true → SlotFits c m t S.Named r x
  unfolding field_pass number_pass origin_pass named_zero
  named_fits_lem e q = record { field = e; number = q; origin = refl }

  free_fits : free_pass c m x ≡ true → SlotFits c m t S.Unassigned r x
  unfolding field_pass number_pass origin_pass
  free_fits e = record { field = refl; number = e; origin = refl }

-- ---- one record

-- both tests of a guard
both : {X : Type 0} (b x : Bool) → guard b false x ≡ true → (b ≡ true → x ≡ true → X) → X
unfolding guard
both true x e f = f refl e
both false x e f = clash cc

module _ (c : Counts) (m : List ℕ) (r : Rec) where
  all_fit : (s : Shape) → first_pass s.first r ≡ true → has_room s.table c ≡ true
      → SlotFits c m s.table s.a r r.a → SlotFits c m s.table s.b r r.b → SlotFits c m s.table s.c r r.c
      → Ok s.table ≡ admit_pass c m s r
  unfolding admit_pass shape_pass numbers_pass origins_pass guard
  all_fit s e h x y z =
      rw (e, x.field, y.field, z.field, h, x.number, y.number, z.number, x.origin, y.origin, z.origin)

  by_shape : (s : Shape) (f : Bool) (q : Option Table) → found_at r.kind ≡ Some s → q ≡ said_by f s.table → (f ≡ true → Ok s.table ≡ admit_pass c m s r)
      → Sure c m r q
  unfolding Sure check_pass
  by_shape s true q h e g = λ t y. let z : t ≡ s.table = cc in ap (λ (u : Table). Ok u) z ∙ (g refl ∙ ap (λ (o : Option Shape). check_at c m r o) (sym h))
  by_shape s false q h e g = λ t y. clash cc

  -- the arm of kind n, whose shape is s
  by_arm : (k n : ℕ) (s : Shape) (f : Bool) (q : Option Table) → k ≡ n → k ≡ r.kind → found_at n ≡ Some s → q ≡ said_by f s.table
      → (f ≡ true → Ok s.table ≡ admit_pass c m s r) → Sure c m r q
  by_arm k n s f q e w h p g = by_shape s f q (ap found_at (sym w ∙ e) ∙ h) p g

  pub sure_none : Sure c m r None
  unfolding Sure
  sure_none = λ t y. clash cc

  pub sure_step : (q : Option Table) (t : Table) → Sure c m r q → q ≡ Some t → Ok t ≡ check_pass c m r
  unfolding Sure
  sure_step q t h e = h t e

  texted_fits_lem : (t : Table) (n l : ℕ) → n ≡ count_pass t c → l ≡ limit_pass t → texted_fits r n l ≡ true
      → Ok t ≡ admit_pass c m (record { table = t; first = F.Length; a = S.Own; b = S.Unused; c = S.Unused }) r
  unfolding texted_fits first_pass has_room
  texted_fits_lem t n l p q h =
      both _ _ h (λ room h1. both _ _ h1 (λ own h2. both _ _ h2 (λ zb h3. both _ _ h3 (λ zc text.
      all_fit (record { table = t; first = F.Length; a = S.Own; b = S.Unused; c = S.Unused }) text (rw (p, q) at room)
      (own_fits c m t r r.a (rw p at own)) (unused_fits c m t r r.b zb) (unused_fits c m t r r.c zc)))))

  named_fits_all : (t : Table) (n l k : ℕ) → n ≡ count_pass t c → l ≡ limit_pass t → k ≡ count_pass Names c → named_fits r n l k ≡ true
      → Ok t ≡ admit_pass c m (record { table = t; first = F.Length; a = S.Own; b = S.Names Names; c = S.Unused }) r
  unfolding named_fits first_pass has_room
  named_fits_all t n l k p q w h =
      both _ _ h (λ room h1. both _ _ h1 (λ own h2. both _ _ h2 (λ name h3. both _ _ h3 (λ zc text.
      all_fit (record { table = t; first = F.Length; a = S.Own; b = S.Names Names; c = S.Unused }) text (rw (p, q) at room)
      (own_fits c m t r r.a (rw p at own)) (names_fits c m t r r.b Names (rw w at name)) (unused_fits c m t r r.c zc)))))

  candidate_fits_lem : candidate_fits r c.candidates c.requirements c.solvables ≡ true
      → Ok Candidates ≡ admit_pass c m (record { table = Candidates; first = F.Unused; a = S.Names Requirements; b = S.Names Solvables; c = S.Unused }) r
  unfolding candidate_fits has_room count_pass limit_pass
  candidate_fits_lem h =
      both _ _ h (λ room h1. both _ _ h1 (λ na h2. both _ _ h2 (λ nb h3. both _ _ h3 (λ zc first.
      all_fit (record { table = Candidates; first = F.Unused; a = S.Names Requirements; b = S.Names Solvables; c = S.Unused }) first room
      (names_fits c m Candidates r r.a Requirements na) (names_fits c m Candidates r r.b Solvables nb) (unused_fits c m Candidates r r.c zc)))))

  variable_fits_all : variable_fits c r c.variables ≡ true
      → Ok Variables ≡ admit_pass c m (record { table = Variables; first = F.Unused; a = S.Own; b = S.Origin; c = S.Named }) r
  unfolding variable_fits stands_fits has_room count_pass limit_pass
  variable_fits_all h =
      both _ _ h (λ room h1. both _ _ h1 (λ own h2. both _ _ h2 (λ stands first. both _ _ stands (λ low h3. both _ _ h3 (λ zero name.
      all_fit (record { table = Variables; first = F.Unused; a = S.Own; b = S.Origin; c = S.Named }) first room
      (own_fits c m Variables r r.a own) (origin_fits_lem c m Variables r r.b low) (named_fits_lem c m Variables r r.c zero name))))))

  refers_fits_lem : (u : Table) (k : ℕ) (o : Allowed) → k ≡ count_pass u c → refers_fits m r c.clauses c.variables k o ≡ true
      → Ok Clauses ≡ admit_pass c m (record { table = Clauses; first = F.Flag; a = S.Variable o; b = S.Names u; c = S.Unused }) r
  unfolding refers_fits origin_fits has_room count_pass limit_pass
  refers_fits_lem u k o w h =
      both _ _ h (λ room h1. both _ _ h1 (λ nb h2. both _ _ h2 (λ zc h3. both _ _ h3 (λ first h4. both _ _ h4 (λ before origin.
      all_fit (record { table = Clauses; first = F.Flag; a = S.Variable o; b = S.Names u; c = S.Unused }) first room
      (variable_fits_lem c m Clauses r r.a o before origin) (names_fits c m Clauses r r.b u (rw w at nb)) (unused_fits c m Clauses r r.c zc))))))

  alone_fits_lem : alone_fits r c.clauses ≡ true
      → Ok Clauses ≡ admit_pass c m (record { table = Clauses; first = F.Flag; a = S.Unused; b = S.Unused; c = S.Unused }) r
  unfolding alone_fits has_room count_pass limit_pass
  alone_fits_lem h =
      both _ _ h (λ room h1. both _ _ h1 (λ za h2. both _ _ h2 (λ zb h3. both _ _ h3 (λ zc first.
      all_fit (record { table = Clauses; first = F.Flag; a = S.Unused; b = S.Unused; c = S.Unused }) first room
      (unused_fits c m Clauses r r.a za) (unused_fits c m Clauses r r.b zb) (unused_fits c m Clauses r r.c zc)))))

  -- two variables, whatever c is
  parties_fit_lem : (o p : Allowed) (s : Slot) → has_room Clauses c ≡ true → SlotFits c m Clauses s r r.c → parties_fit m r c.variables o p ≡ true
      → Ok Clauses ≡ admit_pass c m (record { table = Clauses; first = F.Flag; a = S.Variable o; b = S.Variable p; c = s }) r
  unfolding parties_fit origin_fits count_pass
  parties_fit_lem o p s room z h =
      both _ _ h (λ ha h1. both _ _ h1 (λ hb first. both _ _ ha (λ va oa. both _ _ hb (λ vb ob.
      all_fit (record { table = Clauses; first = F.Flag; a = S.Variable o; b = S.Variable p; c = s }) first room
      (variable_fits_lem c m Clauses r r.a o va oa) (variable_fits_lem c m Clauses r r.b p vb ob) z))))

  pair_fits_lem : (o p : Allowed) → pair_fits m r c.clauses c.variables o p ≡ true
      → Ok Clauses ≡ admit_pass c m (record { table = Clauses; first = F.Flag; a = S.Variable o; b = S.Variable p; c = S.Unused }) r
  unfolding pair_fits has_room count_pass limit_pass
  pair_fits_lem o p h =
      both _ _ h (λ room h1. both _ _ h1 (λ zc h2. parties_fit_lem o p S.Unused room (unused_fits c m Clauses r r.c zc) h2))

  bounded_fits_lem : (o p : Allowed) → bounded_fits m r c.clauses c.variables c.sets o p ≡ true
      → Ok Clauses ≡ admit_pass c m (record { table = Clauses; first = F.Flag; a = S.Variable o; b = S.Variable p; c = S.Names VersionSets }) r
  unfolding bounded_fits has_room count_pass limit_pass
  bounded_fits_lem o p h =
      both _ _ h (λ room h1. both _ _ h1 (λ set h2. parties_fit_lem o p (S.Names VersionSets) room (names_fits c m Clauses r r.c VersionSets set) h2))

  assigned_fits_lem : assigned_fits c m r c.assigned c.clauses ≡ true
      → Ok Assigned ≡ admit_pass c m (record { table = Assigned; first = F.Unused; a = S.Unassigned; b = S.Names Clauses; c = S.Unused }) r
  unfolding assigned_fits has_room count_pass limit_pass
  assigned_fits_lem h =
      both _ _ h (λ room h1. both _ _ h1 (λ free h2. both _ _ h2 (λ nb h3. both _ _ h3 (λ zc first.
      all_fit (record { table = Assigned; first = F.Unused; a = S.Unassigned; b = S.Names Clauses; c = S.Unused }) first room
      (free_fits c m Assigned r r.a free) (names_fits c m Assigned r r.b Clauses nb) (unused_fits c m Assigned r r.c zc)))))

  -- ---- one law a kind

  module _ (k : ℕ) (f : Bool) (q : Option Table) where
    pub sure_name : k ≡ 1 → q ≡ said_by f Names → f ≡ texted_fits r c.names 128 → k ≡ r.kind → Sure c m r q
    unfolding found_at shape_of count_pass limit_pass
    sure_name e p h w = by_arm k 1 _ f q e w refl p (λ y. texted_fits_lem Names c.names 128 refl refl (sym h ∙ y))

    pub sure_requirement : k ≡ 4 → q ≡ said_by f Requirements → f ≡ texted_fits r c.requirements 256 → k ≡ r.kind → Sure c m r q
    unfolding found_at shape_of count_pass limit_pass
    sure_requirement e p h w = by_arm k 4 _ f q e w refl p (λ y. texted_fits_lem Requirements c.requirements 256 refl refl (sym h ∙ y))

    pub sure_reason : k ≡ 6 → q ≡ said_by f Reasons → f ≡ texted_fits r c.reasons 64 → k ≡ r.kind → Sure c m r q
    unfolding found_at shape_of count_pass limit_pass
    sure_reason e p h w = by_arm k 6 _ f q e w refl p (λ y. texted_fits_lem Reasons c.reasons 64 refl refl (sym h ∙ y))

    pub sure_solvable : k ≡ 2 → q ≡ said_by f Solvables → f ≡ named_fits r c.solvables 256 c.names → k ≡ r.kind → Sure c m r q
    unfolding found_at shape_of count_pass limit_pass
    sure_solvable e p h w = by_arm k 2 _ f q e w refl p (λ y. named_fits_all Solvables c.solvables 256 c.names refl refl refl (sym h ∙ y))

    pub sure_set : k ≡ 3 → q ≡ said_by f VersionSets → f ≡ named_fits r c.sets 256 c.names → k ≡ r.kind → Sure c m r q
    unfolding found_at shape_of count_pass limit_pass
    sure_set e p h w = by_arm k 3 _ f q e w refl p (λ y. named_fits_all VersionSets c.sets 256 c.names refl refl refl (sym h ∙ y))

    pub sure_candidate : k ≡ 5 → q ≡ said_by f Candidates → f ≡ candidate_fits r c.candidates c.requirements c.solvables → k ≡ r.kind → Sure c m r q
    unfolding found_at shape_of
    sure_candidate e p h w = by_arm k 5 _ f q e w refl p (λ y. candidate_fits_lem (sym h ∙ y))

    pub sure_variable : k ≡ 7 → q ≡ said_by f Variables → f ≡ variable_fits c r c.variables → k ≡ r.kind → Sure c m r q
    unfolding found_at shape_of
    sure_variable e p h w = by_arm k 7 _ f q e w refl p (λ y. variable_fits_all (sym h ∙ y))

    pub sure_excluded : k ≡ 17 → q ≡ said_by f Clauses → f ≡ refers_fits m r c.clauses c.variables c.reasons A.Solvable → k ≡ r.kind → Sure c m r q
    unfolding found_at shape_of count_pass
    sure_excluded e p h w = by_arm k 17 _ f q e w refl p (λ y. refers_fits_lem Reasons c.reasons A.Solvable refl (sym h ∙ y))

    pub sure_requires : k ≡ 19 → q ≡ said_by f Clauses → f ≡ refers_fits m r c.clauses c.variables c.requirements A.Requirer → k ≡ r.kind → Sure c m r q
    unfolding found_at shape_of count_pass
    sure_requires e p h w = by_arm k 19 _ f q e w refl p (λ y. refers_fits_lem Requirements c.requirements A.Requirer refl (sym h ∙ y))

    pub sure_assigned : k ≡ 8 → q ≡ said_by f Assigned → f ≡ assigned_fits c m r c.assigned c.clauses → k ≡ r.kind → Sure c m r q
    unfolding found_at shape_of
    sure_assigned e p h w = by_arm k 8 _ f q e w refl p (λ y. assigned_fits_lem (sym h ∙ y))

    pub sure_root : k ≡ 16 → q ≡ said_by f Clauses → f ≡ alone_fits r c.clauses → k ≡ r.kind → Sure c m r q
    unfolding found_at shape_of
    sure_root e p h w = by_arm k 16 _ f q e w refl p (λ y. alone_fits_lem (sym h ∙ y))

    pub sure_learnt : k ≡ 18 → q ≡ said_by f Clauses → f ≡ alone_fits r c.clauses → k ≡ r.kind → Sure c m r q
    unfolding found_at shape_of
    sure_learnt e p h w = by_arm k 18 _ f q e w refl p (λ y. alone_fits_lem (sym h ∙ y))

    pub sure_lock : k ≡ 20 → q ≡ said_by f Clauses → f ≡ pair_fits m r c.clauses c.variables A.Solvable A.Solvable → k ≡ r.kind → Sure c m r q
    unfolding found_at shape_of
    sure_lock e p h w = by_arm k 20 _ f q e w refl p (λ y. pair_fits_lem A.Solvable A.Solvable (sym h ∙ y))

    pub sure_forbid : k ≡ 21 → q ≡ said_by f Clauses → f ≡ pair_fits m r c.clauses c.variables A.Solvable A.ForbidMultiple → k ≡ r.kind → Sure c m r q
    unfolding found_at shape_of
    sure_forbid e p h w = by_arm k 21 _ f q e w refl p (λ y. pair_fits_lem A.Solvable A.ForbidMultiple (sym h ∙ y))

    pub sure_constrains : k ≡ 22 → q ≡ said_by f Clauses → f ≡ bounded_fits m r c.clauses c.variables c.sets A.SolvableOrRoot A.Solvable → k ≡ r.kind
        → Sure c m r q
    unfolding found_at shape_of
    sure_constrains e p h w = by_arm k 22 _ f q e w refl p (λ y. bounded_fits_lem A.SolvableOrRoot A.Solvable (sym h ∙ y))

    pub sure_parent : k ≡ 23 → q ≡ said_by f Clauses → f ≡ bounded_fits m r c.clauses c.variables c.sets A.SolvableOrRoot A.Auxiliary → k ≡ r.kind
        → Sure c m r q
    unfolding found_at shape_of
    sure_parent e p h w = by_arm k 23 _ f q e w refl p (λ y. bounded_fits_lem A.SolvableOrRoot A.Auxiliary (sym h ∙ y))

    pub sure_barred : k ≡ 24 → q ≡ said_by f Clauses → f ≡ bounded_fits m r c.clauses c.variables c.sets A.Solvable A.Auxiliary → k ≡ r.kind
        → Sure c m r q
    unfolding found_at shape_of
    sure_barred e p h w = by_arm k 24 _ f q e w refl p (λ y. bounded_fits_lem A.Solvable A.Auxiliary (sym h ∙ y))

    pub sure_any : k ≡ 25 → q ≡ said_by f Clauses → f ≡ pair_fits m r c.clauses c.variables A.Any A.Any → k ≡ r.kind → Sure c m r q
    unfolding found_at shape_of
    sure_any e p h w = by_arm k 25 _ f q e w refl p (λ y. pair_fits_lem A.Any A.Any (sym h ∙ y))

-- ---- the whole file by the check

pub read_left : (file : List ℕ) (x : Result Counts Refused) → length file ≤ 65536 → length file % 32 ≡ 0 → x ≡ left_pass file 0 no_counts (replicate 1024 0)
    → x ≡ answer_of (read_of file)
read_left file x h l q = read_run file x h l (q ∙ left_start file no_counts (replicate 1024 0))
