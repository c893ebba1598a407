-- The answer of a change to the settings file (document 02, order 12).
use Rattle.std.specs.Prelude.{ℕ}
use Rattle.settings.specs.declared.Change.{Change}
use Rattle.calls.specs.declared.Answer.{Answer}

-- "Done: bytes 16, units 1": number, place, bytes and units of the change; a record has no depth
abbrev pub change_answer : Change → Answer
change_answer c = record { number = c.number; place = c.place; bytes = c.bytes; units = c.units; depth = 0 }
