-- Where the nodes stand in the tables: one below the other, from the ends downwards.
use Rattle.std.specs.Prelude.{◌≡◌, List, ℕ, zero, suc, ◌-◌, ◌<◌, ◌≤◌, ltb}
use Rattle.std.proofs.Common.{◌∙◌, arith}
use Rattle.std.proofs.Math.Path.{ap}
use Rattle.std.proofs.Math.Bool.{cond}
use Rattle.store.specs.declared.Edge.{Edge}
use Rattle.plan.specs.Fields.{head_in, tail_in, run_in, run_first, run_end, tag_in, merged_in, lead_in, mate_field, solvable_in, sets_first, sets_end, reason_in}
use Rattle.planning.specs.Along.{Only}
use Rattle.planning.specs.Written.{RunFor, tiled_under, tiled_keep}
use Rattle.planning.specs.Passing.{each_runs}
use Rattle.planning.specs.Sets.{sets_keep}
use Rattle.planning.specs.Node.{NodeLaid, Touched, popping}
use Rattle.planning.specs.Nodes.{edges_of, run_under}

-- the first n nodes stand from run rc and place kc on
abbrev pub Stacked : List ℕ → List ℕ → List ℕ → List ℕ → ℕ → List ℕ → List ℕ → ℕ → ℕ → ℕ → Type 0
Stacked g ls ms gr lo p k zero rc kc = (rc ≡ 1024) × (kc ≡ 1024)
Stacked g ls ms gr lo p k (suc n) rc kc = (re : ℕ) × (ke : ℕ) × NodeLaid g ms gr (edges_of g ls n) lo p k n rc re kc ke × Stacked g ls ms gr lo p k n re ke

-- what stays while node m is written below
module _ (g ms gr p k u v : List ℕ) (m ra rb ka kb : ℕ) (o : Touched p u m ra rb) (x : Only k v ka kb) (y : ka ≤ kb) where
  laid_keep : (es : List Edge) (n rd rc kd kc : ℕ) → n < 128 → (n ≡ m → ⊥) → rb ≤ rd → kb ≤ kd → NodeLaid g ms gr es kb p k n rd rc kd kc
      → NodeLaid g ms gr es ka u v n rd rc kd kc
  unfolding head_in tail_in run_in run_first run_end tag_in merged_in lead_in mate_field solvable_in sets_first sets_end reason_in
  laid_keep es n rd rc kd kc h d a b z =
      let s = (o.heads n h d).0 in
      let t = (o.heads n h d).1 in
      record {
        first = rw s z.first;
        end = rw s z.end;
        down = z.down;
        runs =
            each_runs (RunFor g ms gr p k kb) (RunFor g ms gr u v ka) rd rc (popping ms es) (λ j q l f.
            run_under g ms gr p k u v m ra rb ka kb j q f o (omega arith) x y) z.runs;
        tiled = rw t (tiled_keep p u (rc - rd) rd (sets_end p n) kc (λ j l. run_same j (omega arith)) z.tiled);
        small = rw t (λ j l w. rw (x.above j (omega (arith, z.under))) (z.small j l w));
        low = rw t z.low;
        under = rw t z.under;
        sets = rw t (sets_keep k v ka kb kd (sets_end p n) x b ∙ z.sets);
        tag = rw s z.tag;
        reason = rw t z.reason;
        merged = rw s z.merged;
        lead = rw s z.lead;
        mate = rw s z.mate;
        solvable = rw s z.solvable;
        short_head = rw s z.short_head;
        short_tail = rw t z.short_tail;
      }
    where
      run_same : (j : ℕ) → rb ≤ j → run_in u j ≡ run_in p j
      run_same j l = ap (λ (w : ℕ). cond (ltb j 1024) w 0) (o.above j l)

  pub stacked_keep : (ls : List ℕ) (n rc kc : ℕ) → n ≤ m → n ≤ 128 → rb ≤ rc → kb ≤ kc → Stacked g ls ms gr kb p k n rc kc → Stacked g ls ms gr ka u v n rc kc
  stacked_keep ls zero rc kc h l a b z = z
  stacked_keep ls (suc n) rc kc h l a b z =
      let w = z.2 in (
        z.0,
        z.1,
        laid_keep (edges_of g ls n) n rc z.0 kc z.1 (omega arith) (λ q. omega arith) a b w,
        stacked_keep ls n z.0 z.1 (omega arith) (omega arith) (omega (arith, w.down)) (omega (
          arith,
          w.under,
          tiled_under p (z.0 - rc) rc (sets_end p n) z.1 w.tiled,
        )) z.3,
      )
