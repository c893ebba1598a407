-- The keys of a node's outgoing (d true) or incoming (d false) edges, as codes, walked along its chain: one set of laws for both.
use Rattle.std.specs.Prelude.{◌≡◌, ℕ, zero, suc, ◌+◌, ◌-◌, ◌*◌, ◌<◌, ◌≤◌, Bool, true, false, cond, ◌&&◌, List, [], ◌∷◌, map, reverse, length, ◌==◌, ◌≢◌, nat_eq}
use Rattle.std.proofs.Math.Path.{refl, sym, ap}
use Rattle.std.proofs.Common.{◌∙◌, true≢false, arith}
use Rattle.std.proofs.lemmas.Bool.{false≢true}
use Rattle.std.proofs.lemmas.List.{length-map, length-reverse}
use borrow.Author.Tests.{eqb-true, eqb-false, eq-eqb, ne_eqb}
use Rattle.basis.specs.Lists.{all, filter}
use Rattle.basis.specs.Members.{split}
use Rattle.store.specs.declared.Edge.{Edge}
use Rattle.store.specs.declared.Size.{Size}
use Rattle.store.specs.Graph.{Graph, out, into}
use Rattle.store.specs.Words.{requirement_code}
use Rattle.store.specs.Table.{graph_in, edge_in, Stored, edges_count}
use Rattle.links.specs.Build.{Chains}
use Rattle.links.specs.Walk.{Out, Into, first_out, next_out, first_in, next_in, out_left, into_left, out_start, out_all, out_next, out_less, out_cons, out_end}
use Rattle.links.specs.Walk.{into_start, into_all, into_next, into_less, into_cons, into_end}
use Rattle.groups.specs.Small.{filter_short}
use Rattle.groups.specs.Codes.{out_code, in_code, out_codes, in_codes}
use Rattle.groups.specs.Multi.{bump, count, evenly, Rest, rest_none, rest_both, same_codes, even_is, ended_same, long_apart}

unfoldable pub keys_in : Graph → Bool → ℕ → List ℕ
keys_in G true n = out_codes G n
keys_in G false n = in_codes G n

-- in the tables: the first of a chain, the next, an edge's key, the keys that are left
unfoldable pub first_key : List ℕ → Bool → ℕ → ℕ
first_key ls true n = first_out ls n
first_key ls false n = first_in ls n

unfoldable pub next_key : List ℕ → Bool → ℕ → ℕ
next_key ls true e = next_out ls e
next_key ls false e = next_in ls e

unfoldable pub key_at : List ℕ → Bool → ℕ → ℕ
key_at g true e = out_code (edge_in g e)
key_at g false e = in_code (edge_in g e)

unfoldable pub keys_left : List ℕ → Bool → ℕ → ℕ → List ℕ
keys_left g true n e = map out_code (out_left g n e)
keys_left g false n e = map in_code (into_left g n e)

-- e is 0 or one more than an edge of n's chain
pub record Way (g ls : List ℕ) (d : Bool) (n e : ℕ) : Type 0 where
  pub size : Size
  pub out_way : d ≡ true → Out g size ls n e
  pub into_way : d ≡ false → Into g size ls n e

pub way_all : (g : List ℕ) (s : Size) (ls : List ℕ) (d : Bool) (n r : ℕ) → Chains g s ls → n < s.nodes → r ≡ first_key ls d n
    → keys_left g d n r ≡ keys_in (graph_in g s) d n
unfolding first_key keys_left keys_in out_codes in_codes
way_all g s ls true n r c h q = ap (map out_code) (out_all g s ls n r c h q)
way_all g s ls false n r c h q = ap (map in_code) (into_all g s ls n r c h q)

pub way_start : (g : List ℕ) (s : Size) (ls : List ℕ) (d : Bool) (n r : ℕ) → Chains g s ls → n < s.nodes → r ≡ first_key ls d n → Way g ls d n r
unfolding first_key
way_start g s ls true n r c h q = record { size = s; out_way = λ t. out_start g s ls n r c h q; into_way = λ t. absurd (true≢false t) }
way_start g s ls false n r c h q = record { size = s; out_way = λ t. absurd (false≢true t); into_way = λ t. into_start g s ls n r c h q }

pub way_next : (g ls : List ℕ) (d : Bool) (n e r : ℕ) → Way g ls d n e → 0 < e → r ≡ next_key ls d (e - 1) → Way g ls d n r
unfolding next_key
way_next g ls true n e r w p q =
    record { size = w.size; out_way = λ t. out_next g w.size ls n e r (w.out_way t) p q; into_way = λ t. absurd (true≢false t) }
way_next g ls false n e r w p q =
    record { size = w.size; out_way = λ t. absurd (false≢true t); into_way = λ t. into_next g w.size ls n e r (w.into_way t) p q }

pub way_less : (g ls : List ℕ) (d : Bool) (n e r : ℕ) → Way g ls d n e → 0 < e → r ≡ next_key ls d (e - 1) → r < e
unfolding next_key
way_less g ls true n e r w p q = out_less g w.size ls n e r (w.out_way refl) p q
way_less g ls false n e r w p q = into_less g w.size ls n e r (w.into_way refl) p q

way_cons : (g ls : List ℕ) (d : Bool) (n e r : ℕ) → Way g ls d n e → 0 < e → r ≡ next_key ls d (e - 1) → keys_left g d n e ≡ key_at g d (e - 1) ∷ keys_left g d n r
unfolding next_key keys_left key_at
way_cons g ls true n e r w p q = ap (map out_code) (out_cons g w.size ls n e r (w.out_way refl) p q)
way_cons g ls false n e r w p q = ap (map in_code) (into_cons g w.size ls n e r (w.into_way refl) p q)

way_end : (g : List ℕ) (d : Bool) (n e : ℕ) → e ≤ 0 → keys_left g d n e ≡ []
unfolding keys_left
way_end g true n e h = ap (map out_code) (out_end g n e h)
way_end g false n e h = ap (map in_code) (into_end g n e h)

-- ---- reads

pub first_out_is : (ls : List ℕ) (d : Bool) (n r : ℕ) → d ≡ true → r ≡ first_out ls n → r ≡ first_key ls d n
unfolding first_key
first_out_is ls d n r e q = rw e q

pub first_in_is : (ls : List ℕ) (d : Bool) (n r : ℕ) → d ≡ false → r ≡ first_in ls n → r ≡ first_key ls d n
unfolding first_key
first_in_is ls d n r e q = rw e q

pub next_out_is : (ls : List ℕ) (d : Bool) (n r : ℕ) → d ≡ true → r ≡ next_out ls n → r ≡ next_key ls d n
unfolding next_key
next_out_is ls d n r e q = rw e q

pub next_in_is : (ls : List ℕ) (d : Bool) (n r : ℕ) → d ≡ false → r ≡ next_in ls n → r ≡ next_key ls d n
unfolding next_key
next_in_is ls d n r e q = rw e q

pub key_out_is : (g : List ℕ) (d : Bool) (e q t u : ℕ) → d ≡ true
    → q ≡ requirement_code (edge_in g e).weight → t ≡ u → u ≡ (edge_in g e).target → q * 256 + t ≡ key_at g d e
unfolding key_at
key_out_is g d e q t u z p i r = rw (z, p, i, r)

pub key_in_is : (g : List ℕ) (d : Bool) (e q t u : ℕ) → d ≡ false
    → q ≡ requirement_code (edge_in g e).weight → t ≡ u → u ≡ (edge_in g e).source → q * 256 + t ≡ key_at g d e
unfolding key_at
key_in_is g d e q t u z p i r = rw (z, p, i, r)

-- ---- counting: how often a key stands in a chain, and how long it is

-- what was counted, with what is left
unfoldable pub tally : List ℕ → Bool → ℕ → ℕ → ℕ → ℕ → ℕ
tally g d n k e c = c + count k (keys_left g d n e)

unfoldable pub span : List ℕ → Bool → ℕ → ℕ → ℕ → ℕ
span g d n e c = c + length (keys_left g d n e)

-- a counter is at most as large as the first link was
pub counter_kept : (g ls : List ℕ) (d : Bool) (n e c t r f : ℕ) → c + e ≤ f → t ≤ 1 → Way g ls d n e → 0 < e → r ≡ next_key ls d (e - 1) → c + t + r ≤ f
counter_kept g ls d n e c t r f i h w p q = omega (arith, way_less g ls d n e r w p q)

pub counter_up : (g ls : List ℕ) (d : Bool) (n e c r f : ℕ) → c + e ≤ f → Way g ls d n e → 0 < e → r ≡ next_key ls d (e - 1) → c + 1 + r ≤ f
counter_up g ls d n e c r f i w p q = omega (arith, way_less g ls d n e r w p q)

pub is_one : (k x : ℕ) → k ≡ x → 1 ≡ bump (k == x) 0
is_one k x e = rw (eq-eqb k x e)

pub is_none : (k x : ℕ) → (k ≢ x) → 0 ≡ bump (k == x) 0
is_none k x e = rw (ne_eqb k x e)

bump_plus : (b : Bool) (c n : ℕ) → c + bump b 0 + n ≡ c + bump b n
bump_plus true c n = omega arith
bump_plus false c n = omega arith

pub tally_next : (g ls : List ℕ) (d : Bool) (n k e c t x r Z : ℕ) → tally g d n k e c ≡ Z → Way g ls d n e → 0 < e → t ≡ bump (k == x) 0
    → x ≡ key_at g d (e - 1) → r ≡ next_key ls d (e - 1) → tally g d n k r (c + t) ≡ Z
unfolding tally count
tally_next g ls d n k e c t x r Z i w p qt qx qr =
    rw (qt, qx) (bump_plus (k == key_at g d (e - 1)) c (count k (keys_left g d n r)) ∙ sym (sym i ∙ rw (way_cons g ls d n e r w p qr)))

pub span_next : (g ls : List ℕ) (d : Bool) (n e c r Z : ℕ) → span g d n e c ≡ Z → Way g ls d n e → 0 < e → r ≡ next_key ls d (e - 1) → span g d n r (c + 1) ≡ Z
unfolding span
span_next g ls d n e c r Z i w p qr =
    let z : length (keys_left g d n e) ≡ suc (length (keys_left g d n r)) = ap length (way_cons g ls d n e r w p qr) in omega (arith, i)

module _ (g : List ℕ) (s : Size) (ls : List ℕ) (d : Bool) (n f : ℕ) (c : Chains g s ls) (h : n < s.nodes) (qf : f ≡ first_key ls d n) where
  pub tally_end : (k e r : ℕ) → tally g d n k e r ≡ tally g d n k f 0 → e ≤ 0 → r ≡ count k (keys_in (graph_in g s) d n)
  unfolding tally count
  tally_end k e r i l =
      let z : r + 0 ≡ 0 + count k (keys_left g d n f) = rw (way_end g d n e l) at i in
      let y : count k (keys_left g d n f) ≡ count k (keys_in (graph_in g s) d n) = ap (count k) (way_all g s ls d n f c h qf) in
      omega (arith, z, y)

  pub span_end : (e r : ℕ) → span g d n e r ≡ span g d n f 0 → e ≤ 0 → r ≡ length (keys_in (graph_in g s) d n)
  unfolding span
  span_end e r i l =
      let z : r + 0 ≡ 0 + length (keys_left g d n f) = rw (way_end g d n e l) at i in
      let y : length (keys_left g d n f) ≡ length (keys_in (graph_in g s) d n) = ap length (way_all g s ls d n f c h qf) in
      omega (arith, z, y)

-- ---- skipping equal beginnings

-- a and b are where m's and n's chains go on past equal beginnings of X and Y
pub record Skipped (g ls : List ℕ) (d : Bool) (m n : ℕ) (X Y : List ℕ) (a b : ℕ) : Type 0 where
  pub left_way : Way g ls d m a
  pub right_way : Way g ls d n b
  pub rest : Rest X Y (keys_left g d m a) (keys_left g d n b)

module _ (g : List ℕ) (s : Size) (ls : List ℕ) (d : Bool) (m n a b : ℕ) (c : Chains g s ls) (h : m < s.nodes) (k : n < s.nodes) (p : a
    ≡ first_key ls d m) (q : b ≡ first_key ls d n) where
  pub skip_start : Skipped g ls d m n (keys_left g d m a) (keys_left g d n b) a b
  skip_start =
      record { left_way = way_start g s ls d m a c h p; right_way = way_start g s ls d n b c k q; rest = rest_none (keys_left g d m a) (keys_left g d n b) }

  pub skip_done : (x y : ℕ) → Skipped g ls d m n (keys_left g d m a) (keys_left g d n b) x y
      → Skipped g ls d m n (keys_in (graph_in g s) d m) (keys_in (graph_in g s) d n) x y
  skip_done x y S = rw (way_all g s ls d m a c h p, way_all g s ls d n b c k q) at S

pub skip_next : (g ls : List ℕ) (d : Bool) (m n : ℕ) (X Y : List ℕ) (a b x y p q : ℕ) → Skipped g ls d m n X Y a b → 0 < a → (b ≢ 0) → x ≡ y
    → x ≡ key_at g d (a - 1) → y ≡ key_at g d (b - 1) → p ≡ next_key ls d (a - 1) → q ≡ next_key ls d (b - 1) → Skipped g ls d m n X Y p q
skip_next g ls d m n X Y a b x y p q S ha nb e qx qy qp qq =
    let hb : 0 < b = omega (arith, nb) in
    let z : keys_left g d m a ≡ x ∷ keys_left g d m p = rw qx (way_cons g ls d m a p S.left_way ha qp) in
    let t : keys_left g d n b ≡ x ∷ keys_left g d n q = rw (e, qy) (way_cons g ls d n b q S.right_way hb qq) in
    record {
      left_way = way_next g ls d m a p S.left_way ha qp;
      right_way = way_next g ls d n b q S.right_way hb qq;
      rest = rest_both X Y (keys_left g d m p) (keys_left g d n q) x (rw (z, t) at S.rest);
    }

pub skip_less : (g ls : List ℕ) (d : Bool) (m n : ℕ) (X Y : List ℕ) (a b p : ℕ) → Skipped g ls d m n X Y a b → 0 < a → p ≡ next_key ls d (a - 1) → p < a
skip_less g ls d m n X Y a b p S ha qp = way_less g ls d m a p S.left_way ha qp

-- ---- the keys that are left, counted in both

unfoldable pub even_left : List ℕ → Size → Bool → ℕ → ℕ → ℕ → Bool
even_left g s d m n e = evenly (keys_in (graph_in g s) d m) (keys_in (graph_in g s) d n) (keys_left g d m e)

module _ (g : List ℕ) (s : Size) (ls : List ℕ) (d : Bool) (m n e : ℕ) (Z : Bool) (i : even_left g s d m n e ≡ Z) (w : Way g ls d m e) (p : 0
    < e) (k x y : ℕ) (qk : k ≡ key_at g d (e - 1)) (qx : x ≡ count k (keys_in (graph_in g s) d m)) (qy : y ≡ count k (keys_in (graph_in g s) d n)) where
  pub even_stop : (x ≢ y) → false ≡ Z
  unfolding even_left evenly
  even_stop f =
      sym (sym i ∙ rw (way_cons g ls d m e (next_key ls d (e - 1)) w p refl, ← qk, ← qx, ← qy, ne_eqb x y f, all))

  pub even_next : (r : ℕ) → x ≡ y → r ≡ next_key ls d (e - 1) → even_left g s d m n r ≡ Z
  unfolding even_left evenly
  even_next r f qr = sym (sym i ∙ rw (way_cons g ls d m e r w p qr, ← qk, ← qx, ← qy, eq-eqb x y f, all))

pub even_end : (g : List ℕ) (s : Size) (d : Bool) (m n e : ℕ) (Z : Bool) → even_left g s d m n e ≡ Z → e ≤ 0 → true ≡ Z
unfolding even_left evenly
even_end g s d m n e Z i l = sym (sym i ∙ rw (way_end g d m e l))

-- the whole comparison
unfoldable pub same_in : Graph → Bool → ℕ → ℕ → Bool
same_in G d m n = same_codes (keys_in G d m) (keys_in G d n)

module _ (g : List ℕ) (s : Size) (ls : List ℕ) (d : Bool) (m n a b : ℕ) (S : Skipped g ls d m n (keys_in (graph_in g s) d m) (keys_in (graph_in g s) d n) a b) where
  -- m's end first: then n's have to end as well
  pub same_ended : a ≡ 0 → (b == 0) ≡ same_in (graph_in g s) d m n
  unfolding same_in
  same_ended z =
      let x : keys_left g d m a ≡ [] = way_end g d m a (omega arith) in
      split (b == 0)
      (λ t. let y : keys_left g d n b ≡ [] = way_end g d n b (let h : b ≡ 0 = eqb-true b 0 t in omega arith) in
      t ∙ sym (ended_same (keys_in (graph_in g s) d m) (keys_in (graph_in g s) d n) (rw (x, y) at S.rest)))
      (λ t. let y : keys_left g d n b ≡ key_at g d (b - 1) ∷ keys_left g d n (next_key ls d (b - 1)) = way_cons g ls d n b (next_key ls d (b - 1)) S.right_way
      (omega (arith, eqb-false b 0 t)) refl in
      let r : Rest (keys_in (graph_in g s) d m) (keys_in (graph_in g s) d n) [] (key_at g d (b - 1) ∷ keys_left g d n (next_key ls d (b - 1))) =
      rw (x, y) at S.rest in
      t ∙ sym (long_apart (keys_in (graph_in g s) d m) (keys_in (graph_in g s) d n) (λ q. omega (arith, r.lengths))))

  module _ (x y : ℕ) (p : x ≡ length (keys_in (graph_in g s) d m)) (q : y ≡ length (keys_in (graph_in g s) d n)) where
    pub same_long : (x ≢ y) → false ≡ same_in (graph_in g s) d m n
    unfolding same_in
    same_long f = sym (long_apart (keys_in (graph_in g s) d m) (keys_in (graph_in g s) d n) (λ e. f (p ∙ e ∙ sym q)))

    pub same_via : (r : Bool) → x ≡ y → r ≡ even_left g s d m n a → r ≡ same_in (graph_in g s) d m n
    unfolding same_in even_left
    same_via r e k =
        k ∙ even_is (keys_in (graph_in g s) d m) (keys_in (graph_in g s) d n) (keys_left g d m a) (keys_left g d n b) S.rest (sym p ∙ e ∙ q)

-- both directions
unfoldable pub same_edges : Graph → ℕ → ℕ → Bool
unfolding same_in
same_edges G m n = same_in G false m n && same_in G true m n

module _ (G : Graph) (m n : ℕ) (u : Bool) (k : u ≡ same_in G false m n) where
  pub same_both : (v : Bool) → u ≡ true → v ≡ same_in G true m n → v ≡ same_edges G m n
  unfolding same_edges
  same_both v t q = rw (← k, t, ← q)

  pub same_none : u ≡ false → false ≡ same_edges G m n
  unfolding same_edges
  same_none t = rw (← k, t)

-- ---- a chain has at most 1,024 edges

pub keys_few : (g : List ℕ) (s : Size) (S : Stored g s) (d : Bool) (n : ℕ) → length (keys_in (graph_in g s) d n) ≤ 1024
unfolding keys_in out_codes in_codes out into
keys_few g s S true n =
    rw length-map (omega (
      arith,
      filter_short (λ (e : Edge). nat_eq e.source n) (reverse (graph_in g s).edges),
      length-reverse (graph_in g s).edges,
      edges_count g s S,
      S.edges_most,
    ))
keys_few g s S false n =
    rw length-map (omega (
      arith,
      filter_short (λ (e : Edge). nat_eq e.target n) (reverse (graph_in g s).edges),
      length-reverse (graph_in g s).edges,
      edges_count g s S,
      S.edges_most,
    ))

pub degree_few : (g : List ℕ) (s : Size) (ls : List ℕ) (d : Bool) (n f e r : ℕ) → Chains g s ls → n < s.nodes → f ≡ first_key ls d n
    → span g d n e r ≡ span g d n f 0 → e ≤ 0 → r ≤ 1024
degree_few g s ls d n f e r c h q i l = rw (span_end g s ls d n f c h q e r i l) (keys_few g s c.stored d n)
