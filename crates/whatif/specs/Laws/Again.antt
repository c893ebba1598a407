-- The ways through the code of `relabel`.
use Rattle.std.specs.Prelude.{◌≡◌, Bool, true, false, ℕ, ◌+◌, ◌-◌, ◌<◌, ◌≤◌, take, drop, set, replicate, eqb}
use Rattle.std.proofs.Math.Path.{refl, sym, ap}
use Rattle.std.proofs.Common.{◌∙◌, arith, drop_of_length-le, drop-cons}
use mathlib.Core.List.{List, [], ◌∷◌, ◌++◌, reverse, reverse-cons}
use Rattle.std.proofs.Math.Numerals.{add-one}
use Rattle.std.proofs.Math.ListN.{length, get_or}
use Rattle.std.proofs.Math.Seq.{get_or-take}
use borrow.Author.Tests.{eq-eqb, ne_eqb}
use Rattle.basis.specs.Lists.{any}
use Rattle.basis.specs.Members.{split}
use Rattle.store.specs.declared.Edge.{Edge}
use Rattle.store.specs.declared.Size.{Size}
use Rattle.store.specs.Graph.{Graph, out}
use Rattle.store.specs.Table.{graph_in, edge_in}
use Rattle.links.specs.Build.{Chains}
use Rattle.links.specs.Walk.{first_out, next_out, out_left, out_all, out_cons, out_end}
use Rattle.labels.specs.Labels.{targets, order_of}
use Rattle.labels.specs.Marks.{anew}
use Rattle.labels.specs.Frames.{Posted}
use Rattle.labels.specs.Passes.{Going, taken}
use Rattle.whatif.specs.Laws.Moving.{any_map}
use Rattle.whatif.specs.Relabel.{Pass, touched, turn, turns, relabel, stored}
use Rattle.whatif.specs.Laws.Relabel.{turn_yes, turn_no}

-- an edge leads to a node that was touched
unfoldable pub leads_up : Graph → List ℕ → ℕ → Bool
leads_up K up n = any (λ t. eqb (get_or up t 0) 1) (targets K n)

any_snoc : {A : Type 0} (p : A → Bool) (l : List A) (x : A) → any p (l ++ (x ∷ [])) ≡ any p (x ∷ l)
any_snoc p [] x = refl
any_snoc p (y ∷ l) x =
    split (p y)
    (λ t. rw (t, any) (split (p x) (λ u. rw (u, any)) (λ u. rw (u, any, t, any))))
    (λ t. rw (t, any) (any_snoc p l x ∙ split (p x) (λ u. rw (u, any)) (λ u. rw (u, any, t, any))))

any_back : {A : Type 0} (p : A → Bool) (l : List A) → any p (reverse l) ≡ any p l
any_back p [] = refl
any_back p (x ∷ l) = rw (reverse-cons x l) (any_snoc p (reverse l) x ∙ split (p x) (λ t. rw (t, any)) (λ t. rw (t, any) (any_back p l)))

unfoldable pub up_left : List ℕ → List ℕ → ℕ → ℕ → Bool
up_left g up n e = any (λ (x : Edge). eqb (get_or up x.target 0) 1) (out_left g n e)

up_whole : (g : List ℕ) (s : Size) (ls up : List ℕ) (n f : ℕ) → Chains g s ls → n < s.nodes → f ≡ first_out ls n → up_left g up n f ≡ leads_up (graph_in g s) up n
unfolding up_left leads_up targets
up_whole g s ls up n f c h q =
    rw (out_all g s ls n f c h q)
    (sym (any_map (λ (e : Edge). e.target) (λ t. eqb (get_or up t 0) 1) (reverse (out (graph_in g s) n))
    ∙ any_back (λ (x : Edge). eqb (get_or up x.target 0) 1) (out (graph_in g s) n)))

pub up_next : (g ls up : List ℕ) (n e : ℕ) (Z : Bool) (t u r : ℕ) → up_left g up n e ≡ Z → Going g ls n e → 0 < e → (u ≡ 1 → ⊥) → u ≡ get_or up t 0
    → t ≡ (edge_in g (e - 1)).target → r ≡ next_out ls (e - 1) → up_left g up n r ≡ Z
unfolding up_left
up_next g ls up n e Z t u r i w p d qu qt qr =
    let z : get_or up (edge_in g (e - 1)).target 0 ≡ u = ap (λ (k : ℕ). get_or up k 0) (sym qt) ∙ sym qu in
    sym (sym i ∙ rw (out_cons g w.size ls n e r w.on p qr, z, ne_eqb u 1 d, any))

pub up_on : (g ls up : List ℕ) (n e : ℕ) → Going g ls n e → 0 < e → (get_or up (edge_in g (e - 1)).target 0 ≡ 1 → ⊥)
    → up_left g up n (next_out ls (e - 1)) ≡ up_left g up n e
up_on g ls up n e w p d = up_next g ls up n e (up_left g up n e) (edge_in g (e - 1)).target _ (next_out ls (e - 1)) refl w p d refl refl refl

-- f is where the chain begins
pub up_here : (g ls up : List ℕ) (n e f : ℕ) → f ≡ first_out ls n → Going g ls n e → 0 < e → get_or up (edge_in g (e - 1)).target 0 ≡ 1
    → up_left g up n e ≡ true
unfolding up_left
up_here g ls up n e f q w p d = rw (out_cons g w.size ls n e (next_out ls (e - 1)) w.on p refl, d, any)

module _ (g : List ℕ) (s : Size) (ls up : List ℕ) (n f e : ℕ) (i : up_left g up n e ≡ up_left g up n f) (c : Chains g s ls) (h : n < s.nodes) (qf : f
    ≡ first_out ls n) where
  pub up_is : up_left g up n e ≡ true → true ≡ leads_up (graph_in g s) up n
  up_is w = sym w ∙ (i ∙ up_whole g s ls up n f c h qf)

  pub up_hit : (t u : ℕ) → u ≡ 1 → u ≡ get_or up t 0 → t ≡ (edge_in g (e - 1)).target → Going g ls n e → 0 < e → true ≡ leads_up (graph_in g s) up n
  up_hit t u d qu qt w p = up_is (up_here g ls up n e f qf w p (ap (λ (k : ℕ). get_or up k 0) (sym qt) ∙ (sym qu ∙ d)))

  pub up_end : e ≤ 0 → false ≡ leads_up (graph_in g s) up n
  unfolding up_left
  up_end l = (rw (out_end g n e l) at i) ∙ up_whole g s ls up n f c h qf

-- ---- touched

module _ (K : Graph) (a : ℕ) (up : List ℕ) (n : ℕ) where
  pub touched_own : n ≡ a → true ≡ touched K a up n
  unfolding touched
  touched_own e = rw (eq-eqb n a e)

  pub touched_on : (r : Bool) → (n ≡ a → ⊥) → r ≡ leads_up K up n → r ≡ touched K a up n
  unfolding touched leads_up
  touched_on r d q = q ∙ rw (ne_eqb n a d)

pub store_via : (ms ns : List ℕ) (n v w : ℕ) → ns ≡ set ms n v → v ≡ w → ns ≡ set ms n w
store_via ms ns n v w p q = rw (← q) p

-- ---- one turn

-- what a turn to n leaves
pub record MarkTurned (K : Graph) (a n : ℕ) (ms up ns vp : List ℕ) : Type 0 where
  pub is : record { marks = ns; up = vp } ≡ turn K a n (record { marks = ms; up = up })

module _ (K : Graph) (a n : ℕ) (ms up : List ℕ) (t : Bool) (q : t ≡ touched K a up n) where
  pub is_touched : t ≡ true → touched K a up n ≡ true
  is_touched e = sym q ∙ e

  pub turned_yes : t ≡ true → (ns vp : List ℕ) → ns ≡ set ms n (anew K ms n) → vp ≡ set up n 1 → MarkTurned K a n ms up ns vp
  turned_yes e ns vp p o = record { is = rw (turn_yes K a n (record { marks = ms; up = up }) (sym q ∙ e), p, o) }

  pub turned_no : t ≡ false → MarkTurned K a n ms up ms up
  turned_no e = record { is = rw (turn_no K a n (record { marks = ms; up = up }) (sym q ∙ e)) }

-- ---- along the order

unfoldable pub turns_left : Graph → ℕ → List ℕ → ℕ → List ℕ → List ℕ → ℕ → Pass
turns_left K a os k ms up i = turns K a (drop i (take k os)) (record { marks = ms; up = up })

module _ (g : List ℕ) (s : Size) (ls os : List ℕ) (k : ℕ) (L : Posted g s ls os k) (a : ℕ) where
  pub turns_next : (ms up ns vp : List ℕ) (Z : Pass) (n i : ℕ) → turns_left (graph_in g s) a os k ms up i ≡ Z → n ≡ get_or os i 0 → i < k
      → MarkTurned (graph_in g s) a n ms up ns vp → turns_left (graph_in g s) a os k ns vp (i + 1) ≡ Z
  unfolding turns_left turns
  turns_next ms up ns vp Z n i e qn h t =
      sym (sym e ∙ rw (drop-cons (take k os) i 0 (omega (arith, taken g s ls os k L)), get_or-take k os i 0 h, ← qn, add-one, t.is))

  pub turns_end : (ms up : List ℕ) (i : ℕ) (ms₀ up₀ : List ℕ) → turns_left (graph_in g s) a os k ms up i ≡ turns_left (graph_in g s) a os k ms₀ up₀ 0 → k ≤ i
      → up₀ ≡ replicate 128 0 → ms ≡ relabel (graph_in g s) a (order_of (graph_in g s)) ms₀
  unfolding turns_left turns relabel
  turns_end ms up i ms₀ up₀ e h q =
      let z : length (take k os) ≤ i = omega (arith, taken g s ls os k L) in
      let y : record { marks = ms; up = up } ≡ turns (graph_in g s) a (take k os) (record { marks = ms₀; up = up₀ }) =
      rw (drop_of_length-le (take k os) z) at e in
      ap (λ (w : Pass). w.marks) y ∙ rw (L.is, q)

  pub turns_up : (ms up : List ℕ) (i : ℕ) (ms₀ up₀ : List ℕ) → turns_left (graph_in g s) a os k ms up i ≡ turns_left (graph_in g s) a os k ms₀ up₀ 0 → k ≤ i
      → up₀ ≡ replicate 128 0 → up ≡ stored (graph_in g s) a (order_of (graph_in g s)) ms₀
  unfolding turns_left turns stored
  turns_up ms up i ms₀ up₀ e h q =
      let z : length (take k os) ≤ i = omega (arith, taken g s ls os k L) in
      let y : record { marks = ms; up = up } ≡ turns (graph_in g s) a (take k os) (record { marks = ms₀; up = up₀ }) =
      rw (drop_of_length-le (take k os) z) at e in
      ap (λ (w : Pass). w.up) y ∙ rw (L.is, q)

pub listed_chains : (g : List ℕ) (s : Size) (ls os : List ℕ) (k : ℕ) → Posted g s ls os k → Chains g s ls
listed_chains g s ls os k L = L.chains
