use borrow.Author.Rules.{rules}
use Rattle.settings.specs.Laws.Ways.{tests}
use Rattle.settings.specs.Settings.{newest_in, settings_of}
use Rattle.settings.proofs.read.Goals as goal

pub returns-then-version-lt1 : goal.returns-then-version-lt1
unfolding settings_of newest_in
returns-then-version-lt1 c = search (rules, tests)

pub returns-then-version-gt2 : goal.returns-then-version-gt2
unfolding settings_of newest_in
returns-then-version-gt2 c = search (rules, tests)

pub returns-then-file-gt4096 : goal.returns-then-file-gt4096
unfolding settings_of newest_in
returns-then-file-gt4096 c = search (rules, tests)

pub returns-then-file-ne0 : goal.returns-then-file-ne0
unfolding settings_of newest_in
returns-then-file-ne0 c = search (rules, tests)

pub returns : goal.returns
unfolding settings_of newest_in
returns c = search (rules, tests)
