-- B1: how long a branch can be on which no merged group stands twice, and no unmerged package twice with only unmerged ones between.
use Rattle.std.specs.Prelude.{◌≡◌, true, false, cond, not, List, [], ◌∷◌, ℕ, ◌+◌, ◌*◌, ◌≤◌, length}
use Rattle.std.proofs.Common.{zero-le, mul-le-mul_right, suc-mul, add-one, arith}
use Rattle.basis.specs.Lists.{take_while}
use Rattle.basis.specs.Members.{In, All, Distinct, pigeon, split, either}
use Rattle.machine.specs.Machine.{Plan}

module _ {R : Type 0} (P : Plan R) where
  -- the unmerged packages opened since the last merged one
  abbrev pub segment : List ℕ → List ℕ
  segment b = take_while (λ m. not (P.merged m)) b

  -- the groups of the merged packages
  abbrev pub leads : List ℕ → List ℕ
  leads [] = []
  leads (n ∷ b) = cond (P.merged n) (P.lead n ∷ leads b) (leads b)

  -- each package of the branch was neither reported nor refused when it was opened
  abbrev pub Good : List ℕ → Type 0
  Good [] = Unit {0}
  Good (n ∷ b) = (P.merged n ≡ true → In (P.lead n) (leads b) → ⊥) × (P.merged n ≡ false → In n (segment b) → ⊥) × Good b

  leads_distinct : (b : List ℕ) → Good b → Distinct (leads b)
  leads_distinct [] h = tt
  leads_distinct (n ∷ b) h = split (P.merged n) (λ q. rw q (h.0 q, leads_distinct b h.2)) (λ q. rw q (leads_distinct b h.2))

  segment_distinct : (b : List ℕ) → Good b → Distinct (segment b)
  segment_distinct [] h = tt
  segment_distinct (n ∷ b) h = split (P.merged n) (λ q. rw (q, take_while) tt) (λ q. rw (q, take_while) (h.1 q, segment_distinct b h.2))

  -- G: the groups, U: the unmerged packages
  module _ (G U : List ℕ) where
    -- g + (g + 1) × u
    abbrev pub most : ℕ
    most = length G + (length G + 1) * length U

    abbrev pub Counted : ℕ → Type 0
    Counted n = (P.merged n ≡ true → In (P.lead n) G) × (P.merged n ≡ false → In n U)

    leads_in_lem : (b : List ℕ) → All Counted b → (x : ℕ) → In x (leads b) → In x G
    leads_in_lem [] c x i = absurd i
    leads_in_lem (n ∷ b) c x i =
        split (P.merged n)
        (λ q. either (rw q at i) (λ e. rw e (c.0.0 q)) (λ j. leads_in_lem b c.1 x j))
        (λ q. leads_in_lem b c.1 x (rw q at i))

    segment_in : (b : List ℕ) → All Counted b → (x : ℕ) → In x (segment b) → In x U
    segment_in [] c x i = absurd i
    segment_in (n ∷ b) c x i =
        split (P.merged n)
        (λ q. absurd (rw (q, take_while) at i))
        (λ q. either (rw (q, take_while) at i) (λ e. rw e (c.0.1 q)) (λ j. segment_in b c.1 x j))

    segment_short : (b : List ℕ) → Good b → All Counted b → length (segment b) ≤ length U
    segment_short b h c = pigeon (segment b) U (segment_distinct b h) (segment_in b c)

    -- each merged package ends a segment, and no segment is longer than U
    by_segments : (b : List ℕ) → Good b → All Counted b → length b ≤ length (leads b) + length (leads b) * length U + length (segment b)
    by_segments [] h c = zero-le
    by_segments (n ∷ b) h c =
        let ih = by_segments b h.2 c.1 in
        let seg : length (segment b) ≤ length U = segment_short b h.2 c.1 in
        split (P.merged n) (λ q. rw (q, take_while, suc-mul) (omega arith)) (λ q. rw (q, take_while) (omega arith))

    pub bound : (b : List ℕ) → Good b → All Counted b → length b ≤ most
    bound b h c =
        let l = by_segments b h c in
        let seg : length (segment b) ≤ length U = segment_short b h c in
        let grp : length (leads b) ≤ length G = pigeon (leads b) G (leads_distinct b h) (leads_in_lem b c) in
        let m : length (leads b) * length U ≤ length G * length U = mul-le-mul_right (length U) grp in
        rw (add-one, suc-mul) (omega arith)
