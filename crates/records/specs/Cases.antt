-- Cases of the reader, one table under one statement: document 01's P2, the reader's part of P3, each refusal, a table at
-- its limit and one past it; and one record that has every fault, of which one after the other is mended.
use Rattle.std.specs.Prelude.{◌≡◌, refl, Result, Ok, Err, List, [], ◌∷◌, ◌++◌, ℕ, ◌-◌, ◌/◌, ◌%◌, length, replicate}
use Rattle.std.proofs.Math.Option.{none, some}
use Rattle.basis.specs.Lists.{concat_map, upto}
use Rattle.basis.specs.Members.{All}
use Rattle.records.specs.declared.Counts.{Counts}
use Rattle.records.specs.declared.Refused.{Refused}
use Rattle.records.specs.Shapes.{Rec, rec_of, cut, shape_of}
use Rattle.records.specs.Tables.{Tables, no_rec}
use Rattle.records.specs.Read.{read_from, read_of, answer_of, refusal_in}

-- the 32 bytes of a record
abbrev pub bytes : ℕ → ℕ → ℕ → ℕ → ℕ → List ℕ → List ℕ
bytes k f a b c t = k ∷ f ∷ a % 256 ∷ a / 256 ∷ b % 256 ∷ b / 256 ∷ c % 256 ∷ c / 256 ∷ t ++ replicate (24 - length t) 0

-- name n, with the text "x"
abbrev name : ℕ → List ℕ
name n = bytes 1 1 n 0 0 (120 ∷ [])

abbrev many_names : ℕ → List ℕ
many_names n = concat_map name (upto n 0)

-- variable n, the root
abbrev root_variable : ℕ → List ℕ
root_variable n = bytes 7 0 n 0 0 []

abbrev learnt : ℕ → List ℕ
learnt flag = bytes 18 flag 0 0 0 []

-- record 8 for variable 0 and clause 0
abbrev assigned : List ℕ
assigned = bytes 8 0 0 0 0 []

abbrev empty : Counts
empty = record { names = 0; solvables = 0; sets = 0; requirements = 0; candidates = 0; reasons = 0; variables = 0; assigned = 0; clauses = 0 }

abbrev with_names : ℕ → Counts
with_names n = record { names = n; solvables = 0; sets = 0; requirements = 0; candidates = 0; reasons = 0; variables = 0; assigned = 0; clauses = 0 }

abbrev with789 : ℕ → ℕ → ℕ → Counts
with789 v g c = record { names = 0; solvables = 0; sets = 0; requirements = 0; candidates = 0; reasons = 0; variables = v; assigned = g; clauses = c }

pub record Case : Type 0 where
  pub file : List ℕ
  pub answer : Result Counts Refused

abbrev refused : ℕ → ℕ → Result Counts Refused
refused k i = Err (record { number = k; place = i })

abbrev case : List ℕ → Result Counts Refused → Case
case f a = record { file = f; answer = a }

abbrev pub cases : List Case
cases =
    case [] (Ok empty)
    -- P2
    ∷ case (replicate 33 0) (refused 1 0)
    ∷ case (replicate 65568 0) (refused 1 0)
    ∷ case (replicate 65536 0) (refused 2 0)
    ∷ case (name 0 ++ bytes 9 0 0 0 0 []) (refused 2 1)
    -- P3, as far as the reader goes
    ∷ case (learnt 1) (Ok (with789 0 0 1))
    ∷ case (learnt 0) (Ok (with789 0 0 1))
    ∷ case (bytes 18 1 0 0 1 []) (refused 3 0)
    ∷ case (learnt 2) (refused 3 0)
    -- texts of 0 and of 25 bytes, bytes 31, 32, 126 and 127, a byte past the text
    ∷ case (bytes 1 0 0 0 0 []) (refused 3 0)
    ∷ case (bytes 1 25 0 0 0 (replicate 24 120)) (refused 3 0)
    ∷ case (bytes 1 24 0 0 0 (replicate 24 120)) (Ok (with_names 1))
    ∷ case (bytes 1 1 0 0 0 (31 ∷ [])) (refused 3 0)
    ∷ case (bytes 1 2 0 0 0 (32 ∷ 126 ∷ [])) (Ok (with_names 1))
    ∷ case (bytes 1 1 0 0 0 (127 ∷ [])) (refused 3 0)
    ∷ case (bytes 1 1 0 0 0 (120 ∷ 120 ∷ [])) (refused 3 0)
    -- origins: 6 and 256 are none; "c is 0 for 0, 3, 4, 5"
    ∷ case (bytes 7 0 0 6 0 []) (refused 3 0)
    ∷ case (bytes 7 0 0 256 0 []) (refused 3 0)
    ∷ case (bytes 7 0 0 3 1 []) (refused 3 0)
    ∷ case (bytes 7 0 0 1 0 []) (refused 4 0)
    -- own numbers
    ∷ case (name 0 ++ name 1) (Ok (with_names 2))
    ∷ case (name 1) (refused 4 0)
    ∷ case (name 0 ++ name 0) (refused 4 1)
    -- Lock names the root; AnyOf may
    ∷ case (root_variable 0 ++ bytes 20 1 0 0 0 []) (refused 5 1)
    ∷ case (root_variable 0 ++ bytes 25 1 0 0 0 []) (Ok (with789 1 0 1))
    -- record 8
    ∷ case (root_variable 0 ++ assigned) (refused 4 1)
    ∷ case (root_variable 0 ++ learnt 0 ++ assigned) (Ok (with789 1 1 1))
    ∷ case (root_variable 0 ++ learnt 0 ++ assigned ++ assigned) (refused 4 3)
    -- a table at its limit, and one past it; there 3 comes before 6, and 6 before 4
    ∷ case (many_names 128) (Ok (with_names 128))
    ∷ case (many_names 129) (refused 6 128)
    ∷ case (many_names 128 ++ bytes 1 0 7 0 0 []) (refused 3 128)
    ∷ case (many_names 128 ++ name 7) (refused 6 128)
    ∷ []

pub right : All (λ c. answer_of (read_of c.file) ≡ c.answer) cases
unfolding read_of read_from shape_of cut
right = (
  refl,
  (
    refl,
    (
      refl,
      (
        refl,
        (
          refl,
          (
            refl,
            (
              refl,
              (
                refl,
                (
                  refl,
                  (
                    refl,
                    (
                      refl,
                      (
                        refl,
                        (
                          refl,
                          (
                            refl,
                            (
                              refl,
                              (
                                refl,
                                (
                                  refl,
                                  (
                                    refl,
                                    (
                                      refl,
                                      (
                                        refl,
                                        (refl, (refl, (refl, (refl, (refl, (refl, (refl, (refl, (refl, (refl, (refl, (refl, tt)))))))))))),
                                      ),
                                    ),
                                  ),
                                ),
                              ),
                            ),
                          ),
                        ),
                      ),
                    ),
                  ),
                ),
              ),
            ),
          ),
        ),
      ),
    ),
  ),
)

-- ---- the order 2, 3, 6, 4, 5 within one record: Excluded(variable 0, reason 0), its faults mended one by one

abbrev refusal_of : Tables → Rec → ℕ
refusal_of T r = elim (shape_of r.kind) [ none ↦ 2 | some s ↦ refusal_in T s r ]

-- variable 0 of the given origin, the reasons, the clauses
abbrev tables : ℕ → List Rec → List Rec → Tables
tables origin reasons clauses =
    record {
      names = [];
      solvables = no_rec ∷ [];
      version_sets = [];
      requirements = [];
      candidates = [];
      reasons = reasons;
      variables = rec_of (bytes 7 0 0 origin 0 []) ∷ [];
      assigned = [];
      clauses = clauses;
    }

abbrev full : List Rec
full = replicate 1024 no_rec

-- a record of kind k with flag f
abbrev faulty : ℕ → ℕ → Rec
faulty k f = rec_of (bytes k f 0 0 0 [])

pub record Fault : Type 0 where
  pub before : Tables
  pub one : Rec
  pub number : ℕ

abbrev fault : Tables → Rec → ℕ → Fault
fault T r n = record { before = T; one = r; number = n }

abbrev pub faults : List Fault
faults =
    fault (tables 0 [] full) (faulty 26 2) 2
    ∷ fault (tables 0 [] full) (faulty 17 2) 3
    ∷ fault (tables 0 [] full) (faulty 17 1) 6
    ∷ fault (tables 0 [] []) (faulty 17 1) 4
    ∷ fault (tables 0 (no_rec ∷ []) []) (faulty 17 1) 5
    ∷ fault (tables 1 (no_rec ∷ []) []) (faulty 17 1) 0
    ∷ []

pub ordered : All (λ f. refusal_of f.before f.one ≡ f.number) faults
unfolding shape_of
ordered = (refl, (refl, (refl, (refl, (refl, (refl, tt))))))
