use borrow.Author.Rules.{rules}
use Rattle.settings.specs.Laws.Ways.{tests, file_no, file_kept, file_yes}
use Rattle.settings.specs.Settings.{newest_in}
use Rattle.settings.specs.Change.{change_by, change_of, room_of}
use Rattle.settings.proofs.set.Goals as goal

pub returns-then-version-lt1-clause-value : goal.returns-then-version-lt1-clause-value
unfolding change_of room_of change_by newest_in
returns-then-version-lt1-clause-value c = search (rules, tests)

pub returns-then-version-lt1-clause-room_after : goal.returns-then-version-lt1-clause-room_after
unfolding change_of room_of change_by newest_in
returns-then-version-lt1-clause-room_after c = search (rules, tests)

pub returns-then-version-gt2-clause-value : goal.returns-then-version-gt2-clause-value
unfolding change_of room_of change_by newest_in
returns-then-version-gt2-clause-value c = search (rules, tests)

pub returns-then-version-gt2-clause-room_after : goal.returns-then-version-gt2-clause-room_after
unfolding change_of room_of change_by newest_in
returns-then-version-gt2-clause-room_after c = search (rules, tests)

pub returns-then-len-used-clause-value : goal.returns-then-len-used-clause-value
unfolding change_of room_of change_by newest_in
returns-then-len-used-clause-value c = search (rules, tests)

pub returns-then-len-used-clause-room_after : goal.returns-then-len-used-clause-room_after
unfolding change_of room_of change_by newest_in
returns-then-len-used-clause-room_after c = search (rules, tests)

pub returns-then-k-ne0-clause-value : goal.returns-then-k-ne0-clause-value
unfolding change_of room_of change_by newest_in
returns-then-k-ne0-clause-value c = search (rules, tests, file_no, file_kept, file_yes)

pub returns-then-k-ne0-clause-room_after : goal.returns-then-k-ne0-clause-room_after
unfolding change_of room_of change_by newest_in
returns-then-k-ne0-clause-room_after c = search (rules, tests, file_no, file_kept, file_yes)

pub returns-then-not-known-clause-value : goal.returns-then-not-known-clause-value
unfolding change_of room_of change_by newest_in
returns-then-not-known-clause-value c = search (rules, tests, file_no, file_kept, file_yes)

pub returns-then-not-known-clause-room_after : goal.returns-then-not-known-clause-room_after
unfolding change_of room_of change_by newest_in
returns-then-not-known-clause-room_after c = search (rules, tests, file_no, file_kept, file_yes)

pub returns-then-used-gt4096-clause-value : goal.returns-then-used-gt4096-clause-value
unfolding change_of room_of change_by newest_in
returns-then-used-gt4096-clause-value c = search (rules, tests, file_no, file_kept, file_yes)

pub returns-then-used-gt4096-clause-room_after : goal.returns-then-used-gt4096-clause-room_after
unfolding change_of room_of change_by newest_in
returns-then-used-gt4096-clause-room_after c = search (rules, tests, file_no, file_kept, file_yes)

pub returns-then-len-used-2-clause-value : goal.returns-then-len-used-2-clause-value
unfolding change_of room_of change_by newest_in
returns-then-len-used-2-clause-value c = search (rules, tests, file_no, file_kept, file_yes)

pub returns-then-len-used-2-clause-room_after : goal.returns-then-len-used-2-clause-room_after
unfolding change_of room_of change_by newest_in
returns-then-len-used-2-clause-room_after c = search (rules, tests, file_no, file_kept, file_yes)

pub returns-clause-value : goal.returns-clause-value
unfolding change_of room_of change_by newest_in
returns-clause-value c = search (rules, tests, file_no, file_kept, file_yes)

pub returns-clause-room_after : goal.returns-clause-room_after
unfolding change_of room_of change_by newest_in
returns-clause-room_after c = search (rules, tests, file_no, file_kept, file_yes)
