-- From what the loop over the nodes leaves, and the lengths of the display texts, to the promise.
use Rattle.std.specs.Prelude.{◌≡◌, refl, Bool}
use Rattle.std.proofs.Math.Path.{sym, ap}
use Rattle.std.proofs.Common.{◌∙◌, inl, inr, arith, eq-eqb}
use Rattle.std.proofs.Math.Bool.{not}
use mathlib.Core.List.{List, [], ◌∷◌, ◌++◌, reverse}
use Prim.Native.Nat.{ℕ, suc, ◌+◌, ◌*◌, ◌/◌, ◌%◌, ◌<◌}
use Rattle.std.proofs.Math.ListN.{length, get_or}
use Rattle.std.proofs.Math.Dec.{eqb}
use Rattle.basis.specs.Lists.{any, filter, concat_map, upto}
use Rattle.basis.specs.Members.{In, All, split, filter_in}
use Rattle.basis.specs.Chains.{oldest, ups}
use Rattle.records.specs.Tables.{Tables}
use Rattle.store.specs.declared.ConflictNode.{ConflictNode}
use Rattle.store.specs.declared.Edge.{Edge}
use Rattle.store.specs.declared.Size.{Size}
use Rattle.store.specs.Graph.{out, node_at, is_solvable}
use Rattle.store.specs.Table.{graph_in, node_in, node_in_lem, nodes_count}
use Rattle.labels.specs.Runs.{Run, runs_of}
use Rattle.links.specs.Build.{Chains}
use Rattle.links.specs.Walk.{first_out, out_all}
use Rattle.plan.specs.Like.{Each}
use Rattle.plan.specs.Plan.{Shown, shown_of, is_installable, lead_shown, sorted, popped, reasons_by, reasons_of, by_reasons, line_kind}
use Rattle.plan.specs.Display.{solvable_by, members_of, package_text}
use Rattle.plan.specs.Mates.{alikes, members_alike, lead_first, in_upto}
use Rattle.plan.specs.Planned.{RunIs, NodeIs, Planned}
use Rattle.plan.specs.Fields.{head_in, tail_in, run_in, run_first, run_end, tag_in, merged_in, lead_in, mate_field, solvable_in, sets_first, sets_end, reason_in}
use Rattle.plan.specs.Fields.{text_length, sets_in, kind_in, runs_in, kids_in, kid_first, kid_end, requirement_in, wording_in, members_in, mates_from}
use Rattle.planning.specs.Kids.{marked_in, next_at}
use Rattle.planning.specs.Passed.{both_passes}
use Rattle.planning.specs.Written.{RunFor}
use Rattle.planning.specs.EdgeMarks.{reasons_at, reasons_in}
use Rattle.planning.specs.Line.{kind_for}
use Rattle.planning.specs.Words.{tail_first, tail_end, tail_reason, tail_length}
use Rattle.planning.specs.Truth.{Given, kids_is, wording_is, installable_is}
use Rattle.planning.specs.Node.{popping}
use Rattle.planning.specs.Nodes.{edges_of, target_node, Small, small_runs, small_popping}
use Rattle.planning.specs.Building.{Built}
use Rattle.planning.specs.Members.{ups_all, members_walk}

-- p became u: each node's display text has its length
pub record Sized (T : Tables) (g : List ℕ) (s : Size) (p u : List ℕ) : Type 0 where
  pub heads : (n : ℕ) → head_in u n ≡ head_in p n
  pub runs : (r : ℕ) → run_in u r ≡ run_in p r
  pub tails : (n : ℕ) → n < s.nodes → tail_in u n ≡ tail_in p n + 274877906944 * length (package_text (shown_of T (graph_in g s)) n)
  pub small : (n : ℕ) → n < s.nodes → length (package_text (shown_of T (graph_in g s)) n) < 65536

-- ---- small laws

each_small : (Is Js : ℕ → Run → Type 0) (m : ℕ) (xs : List ℕ) (qs : List Run) → ((r : ℕ) (q : Run) → Small m q → Is r q → Js r q) → All (Small m) qs
    → Each Is xs qs → Each Js xs qs
each_small Is Js m [] [] f a e = tt
each_small Is Js m [] (q ∷ qs) f a e = absurd e
each_small Is Js m (x ∷ xs) [] f a e = absurd e
each_small Is Js m (x ∷ xs) (q ∷ qs) f a e = (f x q a.0 e.0, each_small Is Js m xs qs f a.1 e.1)

filter_runs : (p q : Run → Bool) (m : ℕ) (rs : List Run) → All (Small m) rs → ((r : Run) → Small m r → p r ≡ q r) → filter p rs ≡ filter q rs
filter_runs p q m [] a h = refl
filter_runs p q m (r ∷ rs) a h =
    let ih = filter_runs p q m rs a.1 h in
    let e : p r ≡ q r = h r a.0 in
    split (q r) (λ t. rw ((e ∙ t), t, filter) (ap (λ (l : List Run). r ∷ l) ih)) (λ t. rw ((e ∙ t), t, filter) ih)

reasons_agree : (f h : ℕ → ConflictNode) (es : List Edge) → ((e : Edge) → In e es → f e.target ≡ h e.target)
    → concat_map (λ e. reasons_by e.weight (f e.target)) es ≡ concat_map (λ e. reasons_by e.weight (h e.target)) es
reasons_agree f h [] q = refl
reasons_agree f h (e ∷ es) q = rw (q e (inl refl)) (ap (λ (l : List ℕ). reasons_by e.weight (h e.target) ++ l) (reasons_agree f h es (λ d i. q d (inr i))))

-- a table with the same heads has the same members
module _ (T : Tables) (g : List ℕ) (s : Size) (ls ms gr p k u : List ℕ) (z : Given T g s ms gr) (b : Built g ls ms gr s.nodes p k)
    (nexts : (i : ℕ) → i < s.nodes → next_at gr i ≡ oldest (lead_shown (shown_of T (graph_in g s))) (suc i) s.nodes (lead_shown (shown_of T (graph_in g s)) i))
    (heads : (n : ℕ) → head_in u n ≡ head_in p n) (n : ℕ) (h : n < s.nodes) where
  abbrev M : Shown
  M = shown_of T (graph_in g s)

  inside : n < length (graph_in g s).nodes
  inside = rw (nodes_count g s z.stored) h

  mate_kept : (i : ℕ) → mate_field u i ≡ mate_field p i
  unfolding mate_field
  mate_kept i = ap (λ (w : ℕ). w / 8589934592 % 256) (heads i)

  pub built_members : members_in u n ≡ members_of M n
  unfolding members_in lead_in
  built_members =
      let a : ups (lead_shown M) 0 s.nodes (lead_shown M n) ≡ alikes T (graph_in g s) n =
      ups_all (lead_shown M) s.nodes (lead_shown M n) ∙ ap (λ (m : ℕ). filter (λ i. eqb (lead_shown M i) (lead_shown M n)) (upto m 0))
      (sym (nodes_count g s z.stored)) in
      ap (λ (l : ℕ). mates_from u (l + 1)) (rw (heads n) ((b.nodes n h).lead ∙ z.lead n h))
      ∙ members_walk u (lead_shown M) s.nodes (lead_shown M n) z.stored.nodes_most (λ i l. mate_kept i ∙ (b.nodes i l).mate ∙ nexts i l) (lead_shown M n) n
      (ap (λ (l : List ℕ). get_or l 0 n) a ∙ lead_first T (graph_in g s) n inside)
      (λ q. some (alikes T (graph_in g s) n) (filter_in (λ m. eqb (lead_shown M m) (lead_shown M n)) n (upto (length (graph_in g s).nodes) 0)
      (eq-eqb (lead_shown M n) (lead_shown M n) refl) (in_upto (length (graph_in g s).nodes) 0 n (omega arith) (omega (arith, inside)))) (sym a ∙ q))
      ∙ a ∙ sym (members_alike T (graph_in g s) n inside)
    where
      some : (l : List ℕ) → In n l → l ≡ [] → ⊥
      some l i q = rw q at i

module _ (T : Tables) (g : List ℕ) (s : Size) (ls ms gr p k u : List ℕ) (c : Chains g s ls) (z : Given T g s ms gr) (b : Built g ls ms gr s.nodes p k)
    (nexts : (i : ℕ) → i < s.nodes → next_at gr i ≡ oldest (lead_shown (shown_of T (graph_in g s))) (suc i) s.nodes (lead_shown (shown_of T (graph_in g s)) i))
    (y : Sized T g s p u) where
  abbrev S : Shown
  S = shown_of T (graph_in g s)

  run_is : (r : ℕ) (q : Run) → Small s.nodes q → RunFor g ms gr p k 0 r q → RunIs S u k r q
  unfolding kids_in kid_first kid_end requirement_in wording_in
  run_is r q a f =
      record {
        kids = rw (y.runs r) (f.kids ∙ kids_is T g s ms gr z q a);
        requirement = rw (y.runs r) f.requirement;
        wording = rw (y.runs r) (f.wording ∙ wording_is T g s ms gr z q a);
      }

  module _ (n : ℕ) (h : n < s.nodes) where
    edges : edges_of g ls n ≡ out (graph_in g s) n
    edges = out_all g s ls n (first_out ls n) c h refl

    small : All (Small s.nodes) (runs_of (edges_of g ls n))
    small = small_runs s.nodes (edges_of g ls n) (target_node g s ls c n h)

    popping_is : popping ms (edges_of g ls n) ≡ popped S n
    unfolding shown_of
    popping_is =
        both_passes (marked_in ms) (runs_of (edges_of g ls n))
        ∙ ap reverse
        (ap (λ (l : List Run). l ++ filter (λ r. any (marked_in ms) r.to) (runs_of (edges_of g ls n)))
        (filter_runs (λ r. not (any (marked_in ms) r.to)) (λ r. not (any (is_installable S) r.to)) s.nodes (runs_of (edges_of g ls n)) small (λ r a.
        ap not (installable_is T g s ms gr z r.to a)))
        ∙ ap (λ (l : List Run). filter (λ r. not (any (is_installable S) r.to)) (runs_of (edges_of g ls n)) ++ l)
        (filter_runs (λ r. any (marked_in ms) r.to) (λ r. any (is_installable S) r.to) s.nodes (runs_of (edges_of g ls n)) small (λ r a.
        installable_is T g s ms gr z r.to a)))
        ∙ ap (λ (es : List Edge). reverse (sorted S (runs_of es))) edges

    kind_is : kind_for g (edges_of g ls n) ≡ line_kind S n
    unfolding kind_for reasons_in reasons_at shown_of
    kind_is =
        ap (by_reasons (edges_of g ls n))
        (reasons_agree (node_in g) (node_at (graph_in g s)) (edges_of g ls n) (λ e i. node_in_lem g s z.stored e.target (target_node g s ls c n h e i)))
        ∙ ap (λ (es : List Edge). by_reasons es (reasons_of S es)) edges

    node_is : NodeIs S u k n
    unfolding runs_in run_first run_end kind_in tag_in reason_in sets_in sets_first sets_end merged_in lead_in solvable_in text_length shown_of
    node_is =
        let f = b.nodes n h in
        let t = y.tails n h in
        let l = y.small n h in
        let o = f.short in
        let m : ℕ = length (package_text S n) in
        let a : tail_in u n % 2048 ≡ tail_in p n % 2048 = tail_first (tail_in u n) (tail_in p n) m t in
        let d : tail_in u n / 2048 % 2048 ≡ tail_in p n / 2048 % 2048 = tail_end (tail_in u n) (tail_in p n) m t in
        let e : tail_in u n / 4194304 % 65536 ≡ tail_in p n / 4194304 % 65536 = tail_reason (tail_in u n) (tail_in p n) m t in
        record {
          runs =
              rw (y.heads n, ← popping_is) (each_small (RunFor g ms gr p k 0) (RunIs S u k) s.nodes (runs_in p n) (popping ms (edges_of g ls n)) run_is
              (small_popping s.nodes ms (edges_of g ls n) small) f.runs);
          kind = rw (y.heads n, a, d, e) (f.kind ∙ kind_is);
          merged = rw (y.heads n) (f.merged ∙ z.merged n h);
          lead = rw (y.heads n) (f.lead ∙ z.lead n h);
          members = built_members T g s ls ms gr p k u z b nexts y.heads n h;
          solvable = rw (y.heads n) (f.solvable ∙ ap solvable_by (node_in_lem g s z.stored n h));
          size = tail_length (tail_in u n) (tail_in p n) m t o l;
        }

  pub planned : Planned S u k
  unfolding shown_of kids_in kid_first kid_end
  planned =
      record {
        nodes = λ n h. node_is n (rw (nodes_count g s z.stored) at h);
        kids = λ r n i. let x = b.kids r n (rw (y.runs r) at i) in
            (rw (nodes_count g s z.stored) x.0, ap is_solvable (sym (node_in_lem g s z.stored n x.0)) ∙ x.1);
      }
