-- Records of 32 bytes and the shape of each kind, as one table (document 01, "The record file").
use Rattle.std.specs.Prelude.{true, false, List, [], ◌∷◌, ℕ, zero, suc, ◌+◌, ◌*◌, ◌/◌, length, get_or, take, drop, eqb}
use Rattle.std.proofs.Math.Option.{Option, none, some}
use Rattle.records.specs.declared.Table.{Table}
use Rattle.records.specs.declared.Table.TheVariants.{Names, Solvables, VersionSets, Requirements, Candidates, Reasons, Variables, Assigned, Clauses}
use Rattle.records.specs.declared.First.{First}
use Rattle.records.specs.declared.First.TheVariants as F
use Rattle.records.specs.declared.Allowed.TheVariants as A
use Rattle.records.specs.declared.Slot.{Slot}
use Rattle.records.specs.declared.Slot.TheVariants as S
use Rattle.records.specs.declared.Shape.{Shape}

-- "Byte 0 kind; byte 1 text length or flag; bytes 2 to 7 fields a, b, c, 16 bits each, little-endian; bytes 8 to 31 text"
pub record Rec : Type 0 where
  pub kind : ℕ
  pub first : ℕ
  pub a : ℕ
  pub b : ℕ
  pub c : ℕ
  -- all 24 bytes
  pub text : List ℕ

-- `u16::from_le_bytes` of the bytes i and i + 1: "16 bits each, little-endian"
abbrev pub le16 : List ℕ → ℕ → ℕ
le16 s i = get_or s i 0 + 256 * get_or s (i + 1) 0

-- the `Rec` of its 32 bytes
abbrev pub rec_of : List ℕ → Rec
rec_of s = record { kind = get_or s 0 0; first = get_or s 1 0; a = le16 s 2; b = le16 s 4; c = le16 s 6; text = take 24 (drop 8 s) }

-- the first n records of a file: "Records of 32 bytes, no header."
unfoldable pub cut : ℕ → List ℕ → List Rec
cut zero s = []
cut (suc n) s = rec_of (take 32 s) ∷ cut n (drop 32 s)

-- all records of a file: "Records of 32 bytes, no header."
abbrev pub records_of : List ℕ → List Rec
records_of file = cut (length file / 32) file

-- "Tables (limit)"
abbrev pub limit : Table → ℕ
limit Names = 128
limit Solvables = 256
limit VersionSets = 256
limit Requirements = 256
limit Candidates = 1024
limit Reasons = 64
limit Variables = 1024
limit Assigned = 1024
limit Clauses = 1024

-- a row of `kinds`
abbrev shape : Table → First → Slot → Slot → Slot → Option Shape
shape t f x y z = some (record { table = t; first = f; a = x; b = y; c = z })

-- in `kinds`, a variable that stands for a solvable: "17 a, 20 a and b, 21 a, 22 b, 24 a: solvable"
abbrev solvable : Slot
solvable = S.Variable A.Solvable

-- "22 a, 23 a: solvable or root."
abbrev solvable_or_root : Slot
solvable_or_root = S.Variable A.SolvableOrRoot

-- "23 b, 24 b: auxiliary."
abbrev auxiliary : Slot
auxiliary = S.Variable A.Auxiliary

-- each kind: its table, what byte 1 is, and fields a, b, c; "Origins allowed: 17 a, 20 a and b, 21 a, 22 b, 24 a: solvable.
-- 22 a, 23 a: solvable or root. 19 a: these or a gate. 21 b: forbid-multiple. 23 b, 24 b: auxiliary. 25: any."
abbrev pub kinds : List (ℕ × Option Shape)
kinds =
    (1, shape Names F.Length S.Own S.Unused S.Unused)
    ∷ (2, shape Solvables F.Length S.Own (S.Names Names) S.Unused)
    ∷ (3, shape VersionSets F.Length S.Own (S.Names Names) S.Unused)
    ∷ (4, shape Requirements F.Length S.Own S.Unused S.Unused)
    ∷ (5, shape Candidates F.Unused (S.Names Requirements) (S.Names Solvables) S.Unused)
    ∷ (6, shape Reasons F.Length S.Own S.Unused S.Unused)
    ∷ (7, shape Variables F.Unused S.Own S.Origin S.Named)
    ∷ (8, shape Assigned F.Unused S.Unassigned (S.Names Clauses) S.Unused)
    ∷ (16, shape Clauses F.Flag S.Unused S.Unused S.Unused)
    ∷ (17, shape Clauses F.Flag solvable (S.Names Reasons) S.Unused)
    ∷ (18, shape Clauses F.Flag S.Unused S.Unused S.Unused)
    ∷ (19, shape Clauses F.Flag (S.Variable A.Requirer) (S.Names Requirements) S.Unused)
    ∷ (20, shape Clauses F.Flag solvable solvable S.Unused)
    ∷ (21, shape Clauses F.Flag solvable (S.Variable A.ForbidMultiple) S.Unused)
    ∷ (22, shape Clauses F.Flag solvable_or_root solvable (S.Names VersionSets))
    ∷ (23, shape Clauses F.Flag solvable_or_root auxiliary (S.Names VersionSets))
    ∷ (24, shape Clauses F.Flag solvable auxiliary (S.Names VersionSets))
    ∷ (25, shape Clauses F.Flag (S.Variable A.Any) (S.Variable A.Any) S.Unused)
    ∷ []

-- the row of kind k, if there is one: `Iterator::find` in `kinds`
abbrev pub row_at : ℕ → List (ℕ × Option Shape) → Option Shape
row_at k [] = none
row_at k (x ∷ xs) = elim (eqb k x.0) [ true ↦ x.1 | false ↦ row_at k xs ]

-- the shape of a kind, if it is one of the 18 of `kinds`
unfoldable pub shape_of : ℕ → Option Shape
shape_of k = row_at k kinds
