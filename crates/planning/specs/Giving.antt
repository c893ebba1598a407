-- What the labels' table and the groups' table promise, as `Given`.
use Rattle.std.specs.Prelude.{◌≡◌, refl, List, ℕ, zero, suc, ◌-◌, ◌<◌, length, get_or, eqb, ltb}
use Rattle.std.proofs.Common.{sym, ap, ◌∙◌, arith}
use Rattle.basis.specs.Lists.{filter, upto}
use Rattle.basis.specs.Members.{split}
use Rattle.basis.specs.Chains.{oldest, oldest_hit, oldest_miss, oldest_past, ups}
use Rattle.records.specs.Tables.{Tables}
use Rattle.store.specs.declared.Size.{Size}
use Rattle.store.specs.Table.{graph_in, Stored, nodes_count}
use Rattle.plan.specs.Plan.{shown_of, is_installable, lead_shown}
use Rattle.plan.specs.Mates.{alikes, merged_alike, lead_first}
use Rattle.planning.specs.Kids.{marked_in, next_at}
use Rattle.planning.specs.Members.{ups_all}
use Rattle.planning.specs.Grouping.{merged_by, Grouped, many_members}
use Rattle.planning.specs.Truth.{Given}

oldest_agree : (k h : ℕ → ℕ) (m l : ℕ) → ((i : ℕ) → i < m → k i ≡ h i) → (c e : ℕ) → m - e ≡ c → oldest k e m l ≡ oldest h e m l
oldest_agree k h m l f zero e z = oldest_past k e m l (omega arith) ∙ sym (oldest_past h e m l (omega arith))
oldest_agree k h m l f (suc c) e z =
    let q : k e ≡ h e = f e (omega arith) in
    split (eqb (h e) l)
    (λ t. oldest_hit k e m l (omega arith) (rw q t) ∙ sym (oldest_hit h e m l (omega arith) t))
    (λ t. oldest_miss k e m l (omega arith) (rw q t) ∙ oldest_agree k h m l f c (suc e) (omega arith) ∙ sym (oldest_miss h e m l (omega arith) t))

module _ (T : Tables) (g : List ℕ) (s : Size) (ms ld gr : List ℕ) (o : Stored g s)
    (marks : (n : ℕ) → n < s.nodes → marked_in ms n ≡ is_installable (shown_of T (graph_in g s)) n)
    (leads : (n : ℕ) → n < s.nodes → get_or ld n 0 ≡ lead_shown (shown_of T (graph_in g s)) n) (z : Grouped ld gr s.nodes 0) where
  abbrev L : ℕ → ℕ
  L n = lead_shown (shown_of T (graph_in g s)) n

  next_is : (i : ℕ) → i < s.nodes → oldest (λ j. get_or ld j 0) (suc i) s.nodes (get_or ld i 0) ≡ oldest L (suc i) s.nodes (L i)
  next_is i h =
      ap (oldest (λ j. get_or ld j 0) (suc i) s.nodes) (leads i h)
      ∙ oldest_agree (λ j. get_or ld j 0) L s.nodes (L i) leads (s.nodes - suc i) (suc i) refl

  pub given_nexts : (i : ℕ) → i < s.nodes → next_at gr i ≡ oldest L (suc i) s.nodes (L i)
  given_nexts i h = z.next i (omega arith) h ∙ next_is i h

  pub given : Given T g s ms gr
  given =
      record {
        stored = o;
        marks = marks;
        lead = λ n h. z.lead n (omega arith) h ∙ leads n h;
        merged = λ n h. let b : n < length (graph_in g s).nodes = rw (nodes_count g s o) h in
            let a : ups L 0 s.nodes (L n) ≡ alikes T (graph_in g s) n =
            ups_all L s.nodes (L n) ∙ ap (λ (m : ℕ). filter (λ i. eqb (L i) (L n)) (upto m 0)) (sym (nodes_count g s o)) in
            z.merged n (omega arith) h ∙ ap (λ (l : ℕ). merged_by l n (oldest (λ j. get_or ld j 0) (suc n) s.nodes (get_or ld n 0))) (leads n h)
            ∙ ap (merged_by (L n) n) (next_is n h)
            ∙ sym (many_members L s.nodes n h (ap (λ (l : List ℕ). get_or l 0 n) a ∙ lead_first T (graph_in g s) n b))
            ∙ ap (λ (l : List ℕ). ltb 1 (length l)) a ∙ sym (merged_alike T (graph_in g s) n b);
      }
