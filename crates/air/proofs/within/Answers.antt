use Rattle.air.specs.Profile.{profile_of}
use Rattle.air.proofs.within.Goals as goal

pub returns-in-Some : goal.returns-in-Some
unfolding profile_of
returns-in-Some c = rw c.in-Some.ensures

pub returns : goal.returns
unfolding profile_of
returns c = rw c.in_default.ensures c.graph_profile.ensures
