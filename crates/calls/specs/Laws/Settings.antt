-- The one way through `urzulempa_settings_set`, and where the default of indent comes from.
use Rattle.std.specs.Prelude.{◌≡◌, refl}
use Rattle.settings.specs.declared.Change.{Change}
use Rattle.settings.specs.Settings.{defaults}
use Rattle.calls.specs.declared.Answer.{Answer}
use Rattle.calls.specs.Plain.{plain_option}
use Rattle.calls.specs.Settings.{change_answer}

pub change_via : (c d : Change) → c ≡ d → change_answer c ≡ change_answer d
change_via c d e = rw e

-- "unset ones take the default of order 2": what a plain call means
pub indent_plain : defaults.indent ≡ plain_option
indent_plain = refl
