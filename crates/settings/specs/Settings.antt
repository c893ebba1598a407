-- The settings file (document 02, order 12): "a file of 16-byte records without a header". What each version knows, what a record
-- is, and what a reader of a version makes of a file.
use Rattle.std.specs.Prelude.{Bool, false, cond, ◌&&◌, List, [], ◌∷◌, ℕ, zero, suc, ◌+◌, ◌*◌, ◌/◌, ◌%◌, length, get_or, take, drop, eqb, leb}
use Rattle.basis.specs.Lists.{all, any}
use Rattle.basis.specs.Guard.{guard}
use Rattle.settings.specs.declared.Settings.{Settings}

-- ---- the versions

-- a row of `table`: what a version adds to those before it: a setting, and the contents from low to high that it may have
pub record Row : Type 0 where
  pub version : ℕ
  pub setting : ℕ
  pub low : ℕ
  pub high : ℕ

-- a `Row`
abbrev pub row : ℕ → ℕ → ℕ → ℕ → Row
row v s l h = record { version = v; setting = s; low = l; high = h }

-- "Version 1 knows indent (1) and simplify (2), each 0 or 1; version 2 adds the edition of order 11 (3), 1 or 2". A version 3 is one
-- row more, behind these, whether it adds a setting or a content of one.
abbrev pub table : List Row
table = row 1 1 0 1 ∷ row 1 2 0 1 ∷ row 2 3 1 2 ∷ []

-- s is the setting n, and c is among the contents from l to h: a row of `table` taken apart
unfoldable pub fits_content : ℕ → ℕ → ℕ → ℕ → ℕ → Bool
fits_content s c n l h = guard (eqb s n) false (guard (leb l c) false (leb c h))

-- the row of `table` has the setting s, with c among its contents
abbrev pub fits_row : ℕ → ℕ → Row → Bool
fits_row s c r = fits_content s c r.setting r.low r.high

-- "the lowest version that knows it": the first row that fits; 0 where none does
unfoldable pub lowest_in : List Row → ℕ → ℕ → ℕ
lowest_in [] s c = 0
lowest_in (r ∷ rs) s c = cond (fits_row s c r) r.version (lowest_in rs s c)

-- "the lowest version that knows it" (`lowest_in`)
unfoldable pub lowest : ℕ → ℕ → ℕ
lowest s c = lowest_in table s c

-- "version 2 adds": a version knows what it adds and what those before it know
abbrev pub knows_row : ℕ → ℕ → ℕ → Row → Bool
knows_row v s c r = leb r.version v && fits_row s c r

-- a record of version v may set s to c: "A version 2 record may hold any of the three settings; a
-- version 1 record with an edition is 3"
unfoldable pub knows : ℕ → ℕ → ℕ → Bool
knows v s c = any (knows_row v s c) table

-- the greatest version of the table: "`version` is the reader's: 1 or 2, else 12"
unfoldable pub newest_in : List Row → ℕ
newest_in [] = 0
newest_in (r ∷ rs) = cond (leb r.version (newest_in rs)) (newest_in rs) r.version

-- ---- a record

-- "byte 0 the version of the record, byte 1 the setting, bytes 2 and 3 its content, little-endian, the rest zero"
pub record Choice : Type 0 where
  pub version : ℕ
  pub setting : ℕ
  pub content : ℕ
  pub rest : List ℕ

-- an `Choice`
abbrev pub choice_of : List ℕ → Choice
choice_of s = record { version = get_or s 0 0; setting = get_or s 1 0; content = get_or s 2 0 + 256 * get_or s 3 0; rest = drop 4 s }

-- the first n records of a file: "a file of 16-byte records without a header"
unfoldable pub choices : ℕ → List ℕ → List Choice
choices zero s = []
choices (suc n) s = choice_of (take 16 s) ∷ choices n (drop 16 s)

-- all records of a file: "a file of 16-byte records without a header"
abbrev pub entries_of : List ℕ → List Choice
entries_of file = choices (length file / 16) file

-- "the rest zero"
unfoldable pub zeros : List ℕ → Bool
zeros s = all (eqb 0) s

-- "3 for shape or content, 18 for an unknown version, per record .. in the order 18, 3"; 0 where the record is good. A version is
-- unknown to a reader if it is 0 or above the reader's own: "A version 1 reader that meets version 2 refuses with 18. A version 2
-- reader takes both kinds of record, and an edition setting in a version 1 record is refused."
unfoldable pub judged_record : ℕ → Choice → ℕ
judged_record reader e =
    guard (leb 1 e.version) 18
    (guard (leb e.version reader) 18
    (guard (knows e.version e.setting e.content) 3
    (guard (zeros e.rest) 3 0)))

-- ---- a file

-- "unset ones take the default of order 2, simplify on, edition 1"; order 2: "A plain call now means option 1"
abbrev pub defaults : Settings
defaults = record { number = 0; place = 0; indent = 1; simplify = 1; edition = 1 }

-- "On a refusal the three settings are 0."
abbrev pub refused : ℕ → ℕ → Settings
refused k i = record { number = k; place = i; indent = 0; simplify = 0; edition = 0 }

-- the settings with s set to c: "The last record for a setting counts"
abbrev pub put_by : ℕ → ℕ → Settings → Settings
put_by s c x =
    cond (eqb s 1) (record { number = x.number; place = x.place; indent = c; simplify = x.simplify; edition = x.edition })
    (cond (eqb s 2) (record { number = x.number; place = x.place; indent = x.indent; simplify = c; edition = x.edition })
    (cond (eqb s 3) (record { number = x.number; place = x.place; indent = x.indent; simplify = x.simplify; edition = c }) x))

-- the settings with s set to c (`put_by`)
unfoldable pub setting_put : ℕ → ℕ → Settings → Settings
setting_put s c x = put_by s c x

-- the records from number i on, over the settings so far: "The last record for a setting counts"; "per record (the place)"
unfoldable pub settings_from : ℕ → List Choice → ℕ → Settings → Settings
settings_from reader [] i x = x
settings_from reader (e ∷ es) i x =
    elim (judged_record reader e) [ zero ↦ settings_from reader es (suc i) (setting_put e.setting e.content x) | suc k ↦ refused (suc k) i ]

-- a reader of another version than those of the table is 12, before all others; "1 for length", "at most 4,096 bytes"
unfoldable pub settings_of : ℕ → List ℕ → Settings
settings_of reader file =
    guard (leb 1 reader) (refused 12 0)
    (guard (leb reader (newest_in table)) (refused 12 0)
    (guard (leb (length file) 4096) (refused 1 0)
    (guard (eqb (length file % 16) 0) (refused 1 0)
    (settings_from reader (entries_of file) 0 defaults))))
