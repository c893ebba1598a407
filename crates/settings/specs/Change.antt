-- "Changing a setting appends one record, of the lowest version that knows it, and touches no earlier byte" (document 02, order 12).
-- The lent room holds the file in its first `used` bytes.
use Rattle.std.specs.Prelude.{List, [], ◌∷◌, ◌++◌, ℕ, ◌+◌, ◌/◌, ◌%◌, length, take, drop, eqb, leb}
use Rattle.basis.specs.Guard.{guard}
use Rattle.settings.specs.declared.Change.{Change}
use Rattle.settings.specs.Settings.{table, newest_in, lowest, knows, settings_of}

-- "one record, of the lowest version that knows it"
unfoldable pub record_of : ℕ → ℕ → List ℕ
record_of s c =
    (lowest s c % 256) ∷ (s % 256) ∷ (c % 256) ∷ (c / 256 % 256) ∷ 0 ∷ 0 ∷ 0 ∷ 0 ∷ 0 ∷ 0 ∷ 0 ∷ 0 ∷ 0 ∷ 0 ∷ 0 ∷ 0 ∷ []

-- "the first `used` bytes of the room are the file"
unfoldable pub file_in : List ℕ → ℕ → List ℕ
file_in room used = take used room

-- what the file's reader says of it, then "3 for a bad setting or content asked for; 10 if an append would pass 4,096 bytes or the
-- lent room; place 0 for 1 and these two": `on` where the change is made, else `bad` of the refusal and its place
unfoldable pub change_by : {X : Type 0} → (ℕ → ℕ → X) → X → List ℕ → ℕ → ℕ → ℕ → ℕ → X
change_by bad on room used v s c =
    guard (leb 1 v) (bad 12 0)
    (guard (leb v (newest_in table)) (bad 12 0)
    (guard (leb used (length room)) (bad 1 0)
    (guard (eqb (settings_of v (file_in room used)).number 0) (bad (settings_of v (file_in room used)).number (settings_of v (file_in room used)).place)
    (guard (knows v s c) (bad 3 0)
    (guard (leb (used + 16) 4096) (bad 10 0)
    (guard (leb (used + 16) (length room)) (bad 10 0) on))))))

-- `change_of` on a refusal: number and place
abbrev pub refusal : ℕ → ℕ → Change
refusal k p = record { number = k; place = p; bytes = 0; units = 0 }

-- "bytes 16, units 1"
abbrev pub done : Change
done = record { number = 0; place = 0; bytes = 16; units = 1 }

-- the answer (`change_by`)
unfoldable pub change_of : List ℕ → ℕ → ℕ → ℕ → ℕ → Change
change_of room used v s c = change_by refusal done room used v s c

-- the room with the record behind the file: "Changing a setting appends one record"
unfoldable pub appended : List ℕ → ℕ → ℕ → ℕ → List ℕ
appended room used s c = file_in room used ++ (record_of s c ++ drop (used + 16) room)

-- "touches no earlier byte"; every other byte of the room stays, and all of it on a refusal
unfoldable pub room_of : List ℕ → ℕ → ℕ → ℕ → ℕ → List ℕ
room_of room used v s c = change_by (λ k p. room) (appended room used s c) room used v s c
