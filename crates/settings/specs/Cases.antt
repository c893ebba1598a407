-- Small files by computation, each with the wrong program that it shuts out.
use Rattle.std.specs.Prelude.{◌≡◌, refl, List, [], ◌∷◌, ◌++◌, ℕ, zero, suc, replicate}
use Rattle.basis.specs.Guard.{guard}
use Rattle.settings.specs.declared.Settings.{Settings}
use Rattle.settings.specs.Settings.{fits_content, lowest_in, lowest, knows, newest_in, choices, zeros, judged_record, refused, defaults, setting_put}
use Rattle.settings.specs.Settings.{settings_from, settings_of}
use Rattle.settings.specs.Change.{record_of, file_in, change_by, change_of, refusal, appended, room_of}

-- a record of version v that sets s to c, with byte z at its end
abbrev rec : ℕ → ℕ → ℕ → ℕ → List ℕ
rec v s c z = v ∷ s ∷ c ∷ 0 ∷ (replicate 11 0 ++ (z ∷ []))

abbrev says : ℕ → ℕ → ℕ → Settings
says a b e = record { number = 0; place = 0; indent = a; simplify = b; edition = e }

-- n times the same record
abbrev times : ℕ → List ℕ → List ℕ
times zero r = []
times (suc n) r = r ++ times n r

-- ---- reading

empty : settings_of 1 [] ≡ defaults
unfolding settings_of guard newest_in settings_from choices
empty = refl

-- the first record would count: indent 0
last : settings_of 2 (rec 1 1 0 0 ++ (rec 2 2 0 0 ++ rec 2 1 1 0)) ≡ says 1 0 1
unfolding settings_of guard newest_in settings_from choices judged_record knows fits_content zeros setting_put
last = refl

-- both versions in one file
both : settings_of 2 (rec 1 1 0 0 ++ rec 2 3 2 0) ≡ says 0 1 2
unfolding settings_of guard newest_in settings_from choices judged_record knows fits_content zeros setting_put
both = refl

-- an edition in a version 1 record would be taken
early : settings_of 2 (rec 1 1 0 0 ++ rec 1 3 2 0) ≡ refused 3 1
unfolding settings_of guard newest_in settings_from choices judged_record knows fits_content zeros setting_put
early = refl

-- version 2 to a version 1 reader is 18, although it is an indent
newer : settings_of 1 (rec 1 2 0 0 ++ rec 2 1 0 0) ≡ refused 18 1
unfolding settings_of guard newest_in settings_from choices judged_record knows fits_content zeros setting_put
newer = refl

-- 3 would come before 18: setting 9, and a last byte that is not 0
order : settings_of 2 (rec 3 9 7 1) ≡ refused 18 0
unfolding settings_of guard newest_in settings_from choices judged_record knows fits_content zeros setting_put
order = refl

-- version 0 is unknown
none : settings_of 2 (rec 0 1 0 0) ≡ refused 18 0
unfolding settings_of guard newest_in settings_from choices judged_record knows fits_content zeros setting_put
none = refl

-- contents: edition 0 and 3, indent 2, and 256, whose low byte is 0
edition0 : settings_of 2 (rec 2 3 0 0) ≡ refused 3 0
unfolding settings_of guard newest_in settings_from choices judged_record knows fits_content zeros setting_put
edition0 = refl

edition3 : settings_of 2 (rec 2 3 3 0) ≡ refused 3 0
unfolding settings_of guard newest_in settings_from choices judged_record knows fits_content zeros setting_put
edition3 = refl

indent2 : settings_of 2 (rec 1 1 2 0) ≡ refused 3 0
unfolding settings_of guard newest_in settings_from choices judged_record knows fits_content zeros setting_put
indent2 = refl

high : settings_of 2 (1 ∷ 1 ∷ 0 ∷ 1 ∷ replicate 12 0) ≡ refused 3 0
unfolding settings_of guard newest_in settings_from choices judged_record knows fits_content zeros setting_put
high = refl

-- the last byte of a record
shape : settings_of 2 (rec 1 1 0 1) ≡ refused 3 0
unfolding settings_of guard newest_in settings_from choices judged_record knows fits_content zeros setting_put
shape = refl

-- lengths, and the reader's version before them
odd : settings_of 2 (rec 1 1 0 0 ++ (0 ∷ [])) ≡ refused 1 0
unfolding settings_of guard newest_in
odd = refl

reader0 : settings_of 0 (0 ∷ []) ≡ refused 12 0
unfolding settings_of guard newest_in
reader0 = refl

reader3 : settings_of 3 (0 ∷ []) ≡ refused 12 0
unfolding settings_of guard newest_in
reader3 = refl

-- ---- changing

-- version 2 would be written for indent; the byte behind stays
behind : room_of (rec 1 1 1 0 ++ replicate 17 9) 16 2 1 0 ≡ rec 1 1 1 0 ++ (rec 1 1 0 0 ++ (9 ∷ []))
unfolding room_of change_by appended record_of file_in settings_of guard newest_in settings_from choices judged_record knows fits_content zeros setting_put lowest
    lowest_in
behind = refl

edition : room_of (replicate 16 9) 0 2 3 2 ≡ rec 2 3 2 0
unfolding room_of change_by appended record_of file_in settings_of guard newest_in settings_from choices judged_record knows fits_content zeros setting_put lowest
    lowest_in
edition = refl

-- a version 1 writer asked for an edition
asked : change_of (replicate 16 9) 0 1 3 2 ≡ refusal 3 0
unfolding change_of change_by file_in settings_of guard newest_in settings_from choices judged_record knows fits_content zeros setting_put
asked = refl

-- the file's own refusal before the asked one, with its place
own : change_of (rec 1 1 0 0 ++ rec 2 1 0 0) 32 1 3 2 ≡ refusal 18 1
unfolding change_of change_by file_in settings_of guard newest_in settings_from choices judged_record knows fits_content zeros setting_put
own = refl

-- 3 before 10, and 10 where the room is one byte short
first3 : change_of [] 0 2 4 0 ≡ refusal 3 0
unfolding change_of change_by file_in settings_of guard newest_in settings_from choices judged_record knows fits_content zeros setting_put
first3 = refl

short : change_of (replicate 15 0) 0 2 1 0 ≡ refusal 10 0
unfolding change_of change_by file_in settings_of guard newest_in settings_from choices judged_record knows fits_content zeros setting_put
short = refl

-- more used than lent
past : change_of (replicate 15 0) 16 2 1 0 ≡ refusal 1 0
unfolding change_of change_by file_in settings_of guard newest_in settings_from choices judged_record knows fits_content zeros setting_put
past = refl

-- 4,096 bytes are a file, and full: 10 although the room has place; 4,112 are 1
full : change_of (times 256 (rec 1 1 0 0) ++ replicate 16 0) 4096 2 1 0 ≡ refusal 10 0
unfolding change_of change_by file_in settings_of guard newest_in settings_from choices judged_record knows fits_content zeros setting_put
full = refl

over : change_of (times 257 (rec 1 1 0 0)) 4112 2 1 0 ≡ refusal 1 0
unfolding change_of change_by file_in settings_of guard newest_in settings_from choices judged_record knows fits_content zeros setting_put
over = refl
