-- A run written into the tables.
use Rattle.std.specs.Prelude.{◌≡◌, refl, Bool, true, false, cond, not, ◌&&◌, List, [], ◌∷◌, ◌++◌, ℕ, zero, suc, ◌+◌, ◌-◌, ◌/◌, ◌%◌, ◌<◌, ◌≤◌, length, get_or, set, ltb}
use Rattle.std.proofs.Common.{sym, ap, ◌∙◌, arith, get_or-set_same, lt-ltb, ne_eqb}
use Rattle.basis.specs.Lists.{any, all}
use Rattle.basis.specs.Members.{split}
use Rattle.store.specs.Graph.{is_unresolved}
use Rattle.store.specs.Table.{node_in, edge_in}
use Rattle.labels.specs.Runs.{Run}
use Rattle.links.specs.Walk.{out_left, next_out}
use Rattle.plan.specs.Fields.{run_in, kid_first, kid_end, requirement_in, wording_in, kids_in, kids_from, kids_none}
use Rattle.planning.specs.Cut.{key_of, targets_in, targets_on, run_of}
use Rattle.planning.specs.Kids.{marked_in, lone_by, kids_by, kids_for, wording_by, wording_for}
use Rattle.planning.specs.Along.{Way, way_cons, ends_same, target_is, Only, only_none, only_put, Nodes, nodes_none, kids_keep, KidsDone}

-- run number r stands for q, and its kids stand from place c on
pub record RunFor (g ms gr p k : List ℕ) (c r : ℕ) (q : Run) : Type 0 where
  pub kids : kids_in p k r ≡ kids_for g ms gr q.to
  pub requirement : requirement_in p r ≡ q.req
  pub wording : wording_in p r ≡ wording_for g ms q.to
  pub from : c ≤ kid_first p r
  pub short : run_in p r < 1099511627776

-- the words of a run that was not touched
pub run_word : (p u : List ℕ) (lo hi r : ℕ) → Only p u lo hi → hi ≤ 256 + r → run_in u r ≡ run_in p r
unfolding run_in
run_word p u lo hi r o h = rw (o.above (256 + r) h)

pub run_keep : (g ms gr p k u v : List ℕ) (c d r lo hi : ℕ) (q : Run) → RunFor g ms gr p k c r q → Only p u lo hi → hi ≤ 256 + r → Only k v d c → d ≤ c
    → RunFor g ms gr u v d r q
unfolding kids_in kid_first kid_end requirement_in wording_in
run_keep g ms gr p k u v c d r lo hi q z o h x y =
    let e = run_word p u lo hi r o h in
    record {
      kids = rw e (kids_keep k v d c (kid_first p r) (kid_end p r) x z.from ∙ z.kids);
      requirement = rw e z.requirement;
      wording = rw e z.wording;
      from = rw e (let f = z.from in omega arith);
      short = rw e z.short;
    }

-- ---- the kids of c runs from number r on stand from place a to b, one run's behind another's

abbrev pub Tiled : List ℕ → ℕ → ℕ → ℕ → ℕ → Type 0
Tiled p zero r a b = a ≡ b
Tiled p (suc c) r a b = (kid_first p r ≡ a) × (a ≤ kid_end p r) × Tiled p c (suc r) (kid_end p r) b

pub tiled_under : (p : List ℕ) (c r a b : ℕ) → Tiled p c r a b → a ≤ b
tiled_under p zero r a b z = omega arith
tiled_under p (suc c) r a b z = omega (arith, z.1, tiled_under p c (suc r) (kid_end p r) b z.2)

pub tiled_keep : (p u : List ℕ) (c r a b : ℕ) → ((j : ℕ) → r ≤ j → run_in u j ≡ run_in p j) → Tiled p c r a b → Tiled u c r a b
unfolding kid_first kid_end
tiled_keep p u zero r a b f z = z
tiled_keep p u (suc c) r a b f z =
    rw (f r (omega arith)) (z.0, z.1, tiled_keep p u c (suc r) (kid_end p r) b (λ j h. f j (omega arith)) z.2)

pub tiled_join : (p : List ℕ) (c d r s a m b : ℕ) → r + c ≡ s → Tiled p c r a m → Tiled p d s m b → Tiled p (c + d) r a b
tiled_join p zero d r s a m b e x y =
    let q : s ≡ r = omega arith in
    let n : 0 + d ≡ d = omega arith in
    rw (n, x) (rw q at y)
tiled_join p (suc c) d r s a m b e x y =
    let n : suc c + d ≡ suc (c + d) = omega arith in
    rw n (x.0, x.1, tiled_join p c d (suc r) s (kid_end p r) m b (omega arith) x.2 y)

-- ---- the word

pub record RunWord (w first end q words : ℕ) : Type 0 where
  pub first_is : w % 2048 ≡ first
  pub end_is : w / 2048 % 2048 ≡ end
  pub requirement_is : w / 4194304 % 65536 ≡ q
  pub wording_is : w / 274877906944 % 4 ≡ words
  pub rest : w < 1099511627776

-- ---- the only target is unresolved

-- t is the first target
unfoldable pub lone_of : List ℕ → Bool → ℕ → Bool
lone_of g many t = not many && is_unresolved (node_in g t)

pub lone_many : (g : List ℕ) (many : Bool) (t : ℕ) → many ≡ true → false ≡ lone_of g many t
unfolding lone_of
lone_many g many t e = rw e

pub lone_one : (g : List ℕ) (many b : Bool) (t u : ℕ) → many ≡ false → t ≡ u → b ≡ is_unresolved (node_in g t) → b ≡ lone_of g many u
unfolding lone_of
lone_one g many b t u e q z = rw (e, ← q) z

lone_is : (g : List ℕ) (t : ℕ) (ts : List ℕ) → lone_by g (t ∷ ts) ≡ lone_of g (ltb 1 (length (t ∷ ts))) t
unfolding lone_by lone_of
lone_is g t [] = split (is_unresolved (node_in g t)) (λ q. rw (q, all)) (λ q. rw (q, all))
lone_is g t (u ∷ ts) = rw (lt-ltb 1 (suc (suc (length ts))) (omega arith), ne_eqb (suc (suc (length ts))) 1 (λ q. omega arith))

-- ---- the run at e, with key x, is written as run rc - 1, its kids below place kc

-- its targets, the first edge's in front
pub first_target : (g ls : List ℕ) (n x e r : ℕ) → Way g ls n e → 0 < e → x ≡ key_of (edge_in g (e - 1)) → 0 < x → r ≡ next_out ls (e - 1)
    → targets_in x (out_left g n e) ≡ (edge_in g (e - 1)).target ∷ targets_in x (out_left g n r)
first_target g ls n x e r w h is s q =
    let d : x ≡ 0 → ⊥ = λ z. omega arith in
    rw (way_cons g ls n e r w h q)
    (targets_on x (edge_in g (e - 1)) (out_left g n r) (sym (ends_same x x (edge_in g (e - 1)) is d refl))
    ∙ ap (λ (l : List ℕ). l ++ targets_in x (out_left g n r)) (target_is x (edge_in g (e - 1)).target (edge_in g (e - 1)) is d refl))

pub record WriteReady (g ls ms p k : List ℕ) (n x e : ℕ) (many want : Bool) (rc kc : ℕ) : Type 0 where
  pub way : Way g ls n e
  pub some : 0 < e
  pub key : x ≡ key_of (edge_in g (e - 1))
  pub requires : 0 < x
  pub narrow : x ≤ 65536
  pub many_is : many ≡ ltb 1 (length (targets_in x (out_left g n e)))
  pub want_is : want ≡ any (marked_in ms) (targets_in x (out_left g n e))
  pub room : length (targets_in x (out_left g n e)) ≤ kc
  pub kc_high : kc ≤ 1024
  pub rc_some : 0 < rc
  pub rc_high : rc ≤ 1024
  pub p_long : length p ≡ 1280
  pub k_long : length k ≡ 1024

pub record KidsMaybe (g ms gr : List ℕ) (lone want : Bool) (ts k : List ℕ) (end : ℕ) (v : List ℕ) (c : ℕ) : Type 0 where
  pub kids : kids_from v c end ≡ cond lone [] (kids_by g ms gr want [] ts)
  pub only : Only k v c end
  pub small : Nodes v c end
  pub under : c ≤ end
  pub few : end ≤ c + length ts

module _ (g ms gr : List ℕ) (lone want : Bool) (ts k : List ℕ) (end : ℕ) where
  pub maybe_none : lone ≡ true → KidsMaybe g ms gr lone want ts k end k end
  maybe_none t =
      record { kids = rw t (kids_none k end end (omega arith)); only = only_none k end; small = nodes_none k end; under = omega arith; few = omega arith }

  pub maybe_some : (v : List ℕ) (c : ℕ) → lone ≡ false → KidsDone g ms gr want ts k end v c → KidsMaybe g ms gr lone want ts k end v c
  maybe_some v c t z = record { kids = rw t z.kids; only = z.only; small = z.small; under = z.under; few = z.few }

pub record RunPut (g ms gr p k u v : List ℕ) (rc kc d : ℕ) (q : Run) : Type 0 where
  pub run : RunFor g ms gr u v d (rc - 1) q
  pub first_is : kid_first u (rc - 1) ≡ d
  pub end_is : kid_end u (rc - 1) ≡ kc
  pub small : Nodes v d kc
  pub only_p : Only p u (256 + (rc - 1)) (256 + rc)
  pub only_k : Only k v d kc
  pub under : d ≤ kc
  pub few : kc ≤ d + length q.to

pub run_put : (g ls ms gr p k v : List ℕ) (n x e : ℕ) (many want lone : Bool) (rc kc d w word : ℕ) → WriteReady g ls ms p k n x e many want rc kc
    → lone ≡ lone_of g many (edge_in g (e - 1)).target → KidsMaybe g ms gr lone want (targets_in x (out_left g n e)) k kc v d → w ≡ wording_by lone want
    → RunWord word d kc (x - 1) w
    → RunPut g ms gr p k (set p (256 + (rc - 1)) word) v rc kc d (run_of (x - 1) (targets_in x (out_left g n e)))
unfolding kids_in kid_first kid_end requirement_in wording_in run_in kids_for wording_for
run_put g ls ms gr p k v n x e many want lone rc kc d w word z ll m ww y =
    let h = first_target g ls n x e (next_out ls (e - 1)) z.way z.some z.key z.requires refl in
    let l : lone_by g (targets_in x (out_left g n e)) ≡ lone =
    rw h (lone_is g (edge_in g (e - 1)).target (targets_in x (out_left g n (next_out ls (e - 1)))))
    ∙ ap (λ (b : Bool). lone_of g b (edge_in g (e - 1)).target) (ap (λ (t : List ℕ). ltb 1 (length t)) (sym h) ∙ sym z.many_is) ∙ sym ll in
    let i : rc - 1 < 1024 = omega (arith, z.rc_some, z.rc_high) in
    let j : 256 + (rc - 1) + 1 ≡ 256 + rc = omega (arith, z.rc_some) in
    let r : get_or (set p (256 + (rc - 1)) word) (256 + (rc - 1)) 0 ≡ word =
    get_or-set_same p (256 + (rc - 1)) word 0 (omega (arith, z.rc_some, z.rc_high, z.p_long)) in
    record {
      run =
          record {
            kids = rw (lt-ltb (rc - 1) 1024 i, r, y.first_is, y.end_is, l, ← z.want_is) m.kids;
            requirement = rw (lt-ltb (rc - 1) 1024 i, r) y.requirement_is;
            wording = rw (lt-ltb (rc - 1) 1024 i, r, l, ← z.want_is) (y.wording_is ∙ ww);
            from = rw (lt-ltb (rc - 1) 1024 i, r, y.first_is) (omega arith);
            short = rw (lt-ltb (rc - 1) 1024 i, r) y.rest;
          };
      first_is = rw (lt-ltb (rc - 1) 1024 i, r) y.first_is;
      end_is = rw (lt-ltb (rc - 1) 1024 i, r) y.end_is;
      small = m.small;
      only_p = rw j at (only_put p (set p (256 + (rc - 1)) word) (256 + (rc - 1)) word refl);
      only_k = m.only;
      under = m.under;
      few = m.few;
    }
