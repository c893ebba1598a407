use Rattle.std.proofs.Common.{◌-◌, length}
use Rattle.panel_feed.proofs.say_lines.Given as goal

abbrev pub decreases-loop-at : goal.decreases-loop-at
decreases-loop-at g l = length l.text - l.at
