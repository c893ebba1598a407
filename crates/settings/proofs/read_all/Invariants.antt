use Rattle.std.proofs.Common.{◌≡◌}
use Rattle.settings.specs.Settings.{settings_from, entries_of, defaults}
use Rattle.settings.specs.Laws.Ways.{left_of}
use Rattle.settings.proofs.read_all.Given as goal

-- what is left makes of x what the whole file makes of the defaults
abbrev pub invariant-loop-i : goal.invariant-loop-i
invariant-loop-i l = left_of l.reader l.file l.i l.x ≡ settings_from l.reader (entries_of l.file) 0 defaults
