-- The loop over all nodes, and what it leaves.
use Rattle.std.specs.Prelude.{◌≡◌, refl, ◌⊎◌, Bool, true, false, ◌&&◌, List, [], ◌∷◌, ℕ, zero, suc, ◌+◌, ◌-◌, ◌<◌, ◌≤◌, length, get_or, ltb, eqb}
use Rattle.std.proofs.Common.{sym, ap, ◌∙◌, inl, inr, arith, add-one, ltb-true, ltb-false, eqb-true}
use Rattle.std.proofs.lemmas.Bool.{false≢true, eqb-false}
use Rattle.basis.specs.Lists.{any, upto}
use Rattle.basis.specs.Members.{In, All, all_in, split, either}
use Rattle.store.specs.declared.Edge.{Edge}
use Rattle.store.specs.declared.Size.{Size}
use Rattle.store.specs.Graph.{is_solvable}
use Rattle.store.specs.Table.{node_in}
use Rattle.labels.specs.Runs.{Run}
use Rattle.links.specs.Build.{Chains}
use Rattle.links.specs.Walk.{out_left, first_out}
use Rattle.plan.specs.Like.{Each}
use Rattle.plan.specs.Fields.{run_in, run_first, run_end, runs_in, runs_from, kids_in, kids_none, kid_first, kid_end}
use Rattle.planning.specs.Kids.{marked_in, takes, kids_by, kids_for, lone_by}
use Rattle.planning.specs.Along.{way_start}
use Rattle.planning.specs.Written.{RunFor}
use Rattle.planning.specs.Passing.{each_runs}
use Rattle.planning.specs.Node.{NodeReady, NodeFor, NodeDone, popping}
use Rattle.planning.specs.Stacked.{Stacked, stacked_keep}
use Rattle.planning.specs.Nodes.{edges_of, ahead, ahead_most, target_node, Small, small_runs, small_popping, run_under, node_under}

-- tables as a caller's fresh arrays are
pub record FreshPlan (p k : List ℕ) : Type 0 where
  pub blank : (r : ℕ) → r < 1024 → get_or p (256 + r) 0 ≡ 0
  pub p_long : length p ≡ 1280
  pub k_long : length k ≡ 1024

-- run r is one that was written
pub record GoodRun (g ms gr : List ℕ) (count : ℕ) (p k : List ℕ) (kc r : ℕ) : Type 0 where
  pub run : Run
  pub stands : RunFor g ms gr p k kc r run
  pub small : Small count run

-- nodes below n are written; tables p₀ and k₀ came
pub record Building (g ls ms gr : List ℕ) (count : ℕ) (p₀ k₀ p k : List ℕ) (n rc kc : ℕ) : Type 0 where
  pub size : Size
  pub chains : Chains g size ls
  pub counts : size.nodes ≡ count
  pub nodes : (m : ℕ) → m < n → NodeFor g ms gr (edges_of g ls m) p k rc kc m
  pub filled : (r : ℕ) → rc ≤ r → r < 1024 → GoodRun g ms gr count p k kc r
  pub blank : (r : ℕ) → r < rc → get_or p (256 + r) 0 ≡ 0
  pub stack : Stacked g ls ms gr kc p k n rc kc
  pub rest : (m : ℕ) → n ≤ m → m < 128 → (get_or p m 0 ≡ get_or p₀ m 0) × (get_or p (128 + m) 0 ≡ get_or p₀ (128 + m) 0)
  pub under : (i : ℕ) → i < kc → get_or k i 0 ≡ get_or k₀ i 0
  pub top : n ≤ count
  pub rc_room : ahead g ls (count - n) n ≤ rc
  pub kc_room : ahead g ls (count - n) n ≤ kc
  pub rc_high : rc ≤ 1024
  pub kc_high : kc ≤ 1024
  pub p_long : length p ≡ 1280
  pub k_long : length k ≡ 1024

pub record Built (g ls ms gr : List ℕ) (count : ℕ) (p k : List ℕ) : Type 0 where
  pub nodes : (m : ℕ) → m < count → NodeFor g ms gr (edges_of g ls m) p k 0 0 m
  pub p_long : length p ≡ 1280
  -- the kids of any run number
  pub kids : (r t : ℕ) → In t (kids_in p k r) → (t < count) × (is_solvable (node_in g t) ≡ true)

-- all nodes, and nothing else of the tables that came
pub record NodesDone (g ls ms gr : List ℕ) (count : ℕ) (p₀ k₀ p k : List ℕ) : Type 0 where
  pub built : Built g ls ms gr count p k
  pub runs : ℕ
  pub places : ℕ
  pub stack : Stacked g ls ms gr places p k count runs places
  pub blank : (r : ℕ) → r < runs → get_or p (256 + r) 0 ≡ 0
  pub rest : (m : ℕ) → count ≤ m → m < 128 → (get_or p m 0 ≡ get_or p₀ m 0) × (get_or p (128 + m) 0 ≡ get_or p₀ (128 + m) 0)
  pub under : (i : ℕ) → i < places → get_or k i 0 ≡ get_or k₀ i 0
  pub few : count ≤ 128
  pub p_long : length p ≡ 1280
  pub k_long : length k ≡ 1024

each_at : (Is : ℕ → Run → Type 0) (P : Run → Type 0) (c a : ℕ) (qs : List Run) → Each Is (upto c a) qs → All P qs → (r : ℕ) → a ≤ r → r < a + c → (q : Run)
    × Is r q × P q
each_at Is P zero a [] e p r h l = absurd (never h l)
  where
    never : a ≤ r → r < a + 0 → ⊥
    never h l = omega arith
each_at Is P zero a (q ∷ qs) e p r h l = absurd e
each_at Is P (suc c) a [] e p r h l = absurd e
each_at Is P (suc c) a (q ∷ qs) e p r h l =
    split (eqb r a)
    (λ t. (q, rw (eqb-true r a t) e.0, p.0))
    (λ t. each_at Is P c (suc a) qs e.1 p.1 r (omega (arith, eqb-false r a t)) (omega arith))

runs_at_lem : (Is : ℕ → Run → Type 0) (P : Run → Type 0) (a b : ℕ) (qs : List Run) → Each Is (runs_from a b) qs → All P qs → (r : ℕ) → a ≤ r → r < b → (q : Run)
    × Is r q × P q
unfolding runs_from
runs_at_lem Is P a b qs e p r h l = each_at Is P (b - a) a qs e p r h (omega arith)

module _ (g : List ℕ) (s : Size) (ls ms gr p k : List ℕ) where
  pub build_start : (count : ℕ) → Chains g s ls → count ≡ s.nodes → FreshPlan p k → Building g ls ms gr count p k p k 0 1024 1024
  build_start count c q f =
      let z : count - 0 ≡ s.nodes = omega arith in
      record {
        size = s;
        chains = c;
        counts = sym q;
        nodes = λ m h. absurd (never m h);
        filled = λ r h l. absurd (past r h l);
        blank = λ r h. f.blank r h;
        stack = (refl, refl);
        rest = λ m a b. (refl, refl);
        under = λ i a. refl;
        top = omega arith;
        rc_room = rw z (ahead_most g s ls c);
        kc_room = rw z (ahead_most g s ls c);
        rc_high = omega arith;
        kc_high = omega arith;
        p_long = f.p_long;
        k_long = f.k_long;
      }
    where
      never : (m : ℕ) → m < 0 → ⊥
      never m h = omega arith

      past : (r : ℕ) → 1024 ≤ r → r < 1024 → ⊥
      past r h l = omega arith

module _ (g ls ms gr : List ℕ) (count : ℕ) (p₀ k₀ p k : List ℕ) (n rc kc : ℕ) (z : Building g ls ms gr count p₀ k₀ p k n rc kc) where
  module _ (h : n < count) (e : ℕ) (is : e ≡ first_out ls n) where
    inside : n < z.size.nodes
    inside = omega (arith, z.counts)

    room : ahead g ls (count - n) n ≡ length (out_left g n e) + ahead g ls (count - suc n) (suc n)
    room = let y : count - n ≡ suc (count - suc n) = omega arith in rw (y, is)

    pub build_ready : NodeReady g ls p k n e rc kc
    build_ready =
        record {
          way = way_start g z.size ls n e z.chains inside is;
          rc_room = omega (arith, z.rc_room, room);
          kc_room = omega (arith, z.kc_room, room);
          rc_high = z.rc_high;
          kc_high = z.kc_high;
          p_long = z.p_long;
          k_long = z.k_long;
        }

    pub build_small : n < 128
    build_small = omega (arith, z.counts, z.chains.stored.nodes_most)

    pub build_step : (u v : List ℕ) (rd kd : ℕ) → NodeDone g ms gr (out_left g n e) p k n rc kc u v rd kd → Building g ls ms gr count p₀ k₀ u v (n + 1) rd kd
    build_step u v rd kd d =
        let es : out_left g n e ≡ edges_of g ls n = ap (out_left g n) is in
        let sm : All (Small count) (popping ms (out_left g n e)) =
        small_popping count ms (out_left g n e) (rw (es, ← z.counts) (small_runs z.size.nodes (edges_of g ls n)
        (target_node g z.size ls z.chains n inside))) in
        let rl = d.rc_down in
        let kl = d.kc_down in
        record {
          size = z.size;
          chains = z.chains;
          counts = z.counts;
          nodes = λ m l. split (eqb m n)
              (λ t. rw (eqb-true m n t, ← es) d.node)
              (λ t. let o : m < n = omega (arith, eqb-false m n t) in
              node_under g ms gr (edges_of g ls m) p k u v n rd rc kd kc m (z.nodes m o) d.touched (omega (arith, build_small)) (eqb-false m n t) rl
              d.only_k kl);
          filled = λ r a b. split (ltb r rc)
              (λ t. let x = runs_at_lem (RunFor g ms gr u v kd) (Small count) rd rc (popping ms (out_left g n e)) d.all_runs sm r a (ltb-true r rc t) in
              record { run = x.0; stands = x.1; small = x.2 })
              (λ t. let o : rc ≤ r = ltb-false r rc t in
              let y = z.filled r o b in
              record { run = y.run; stands = run_under g ms gr p k u v n rd rc kd kc r y.run y.stands d.touched o d.only_k kl; small = y.small });
          blank = λ r a. d.touched.below r a ∙ z.blank r (omega arith);
          stack =
              rw add-one (
                rc,
                kc,
                (rw es at d.laid),
                stacked_keep g ms gr p k u v n rd rc kd kc d.touched d.only_k kl ls n rc kc (omega arith)
                    (omega (arith, build_small)) (omega arith) (omega arith) z.stack,
              );
          rest = λ m a b. let o = d.touched.heads m b (λ q. omega arith) in let y = z.rest m (omega arith) b in (o.0 ∙ y.0, o.1 ∙ y.1);
          under = λ i a. d.only_k.below i a ∙ z.under i (omega arith);
          top = omega arith;
          rc_room = rw add-one (omega (arith, z.rc_room, room, d.rc_few));
          kc_room = rw add-one (omega (arith, z.kc_room, room, d.kc_few));
          rc_high = omega (arith, z.rc_high);
          kc_high = omega (arith, z.kc_high);
          p_long = d.touched.long ∙ z.p_long;
          k_long = d.only_k.long ∙ z.k_long;
        }

-- ---- kids are solvable targets

and_left : (a b : Bool) → a && b ≡ true → a ≡ true
and_left true b e = refl
and_left false b e = absurd (false≢true e)

kids_from_lem : (g ms gr : List ℕ) (want : Bool) (acc ts : List ℕ) (t : ℕ) → In t (kids_by g ms gr want acc ts) → In t acc
    ⊎ (In t ts × (is_solvable (node_in g t) ≡ true))
unfolding kids_by takes
kids_from_lem g ms gr want acc [] t i = inl i
kids_from_lem g ms gr want acc (x ∷ ts) t i =
    split (takes g ms gr want acc x)
    (λ q. either (kids_from_lem g ms gr want (x ∷ acc) ts t (rw (q, kids_by) at i))
    (λ j. either j (λ e. inr (inl e, ap (λ (y : ℕ). is_solvable (node_in g y)) e ∙ and_left (is_solvable (node_in g x)) _ q)) (λ j. inl j))
    (λ j. inr (inr j.0, j.1)))
    (λ q. either (kids_from_lem g ms gr want acc ts t (rw (q, kids_by) at i)) (λ j. inl j) (λ j. inr (inr j.0, j.1)))

kid_good : (g ms gr : List ℕ) (ts : List ℕ) (m t : ℕ) → All (λ x. x < m) ts → In t (kids_for g ms gr ts) → (t < m) × (is_solvable (node_in g t) ≡ true)
unfolding kids_for
kid_good g ms gr ts m t a i =
    split (lone_by g ts)
    (λ q. absurd (rw q at i))
    (λ q. either (kids_from_lem g ms gr (any (marked_in ms) ts) [] ts t (rw q at i)) (λ j. absurd j) (λ j. (all_in (λ x. x < m) ts t a j.0, j.1)))

no_kids : (p k : List ℕ) (r : ℕ) → run_in p r ≡ 0 → kids_in p k r ≡ []
unfolding kids_in kid_first kid_end
no_kids p k r e = rw e (kids_none k 0 0 (omega arith))

node_low : (g ms gr : List ℕ) (es : List Edge) (p k : List ℕ) (rc kc n : ℕ) → NodeFor g ms gr es p k rc kc n → NodeFor g ms gr es p k 0 0 n
unfolding runs_in
node_low g ms gr es p k rc kc n z =
    record {
      runs = each_runs (RunFor g ms gr p k kc) (RunFor g ms gr p k 0) (run_first p n) (run_end p n) (popping ms es)
          (λ j q l f. record { kids = f.kids; requirement = f.requirement; wording = f.wording; from = omega arith; short = f.short }) z.runs;
      kind = z.kind;
      merged = z.merged;
      lead = z.lead;
      mate = z.mate;
      solvable = z.solvable;
      low_run = omega arith;
      low_set = omega arith;
      short = z.short;
    }

built_by : (g ls ms gr : List ℕ) (count : ℕ) (p₀ k₀ p k : List ℕ) (n rc kc : ℕ) → Building g ls ms gr count p₀ k₀ p k n rc kc → count ≤ n
    → Built g ls ms gr count p k
unfolding run_in
built_by g ls ms gr count p₀ k₀ p k n rc kc z h =
    record {
      nodes = λ m l. node_low g ms gr (edges_of g ls m) p k rc kc m (z.nodes m (omega arith));
      p_long = z.p_long;
      kids = λ r t i. split (ltb r 1024)
          (λ q. split (ltb r rc)
          (λ w. absurd (rw (no_kids p k r (rw q (z.blank r (ltb-true r rc w)))) at i))
          (λ w. let y = z.filled r (ltb-false r rc w) (ltb-true r 1024 q) in kid_good g ms gr y.run.to count t y.small (rw y.stands.kids at i)))
          (λ q. absurd (rw (no_kids p k r (rw q)) at i));
    }

pub build_end : (g ls ms gr : List ℕ) (count : ℕ) (p₀ k₀ p k : List ℕ) (n rc kc : ℕ) → Building g ls ms gr count p₀ k₀ p k n rc kc → count ≤ n
    → NodesDone g ls ms gr count p₀ k₀ p k
build_end g ls ms gr count p₀ k₀ p k n rc kc z h =
    let q : n ≡ count = omega (arith, z.top) in
    record {
      built = built_by g ls ms gr count p₀ k₀ p k n rc kc z h;
      runs = rc;
      places = kc;
      stack = rw q at z.stack;
      blank = z.blank;
      rest = λ m a b. z.rest m (omega arith) b;
      under = z.under;
      few = omega (arith, z.counts, z.chains.stored.nodes_most);
      p_long = z.p_long;
      k_long = z.k_long;
    }
