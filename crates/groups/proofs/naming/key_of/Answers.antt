use Rattle.std.proofs.Common.{◌≡◌, ◌∙◌, arith}
use Rattle.groups.specs.Naming.{packed}
use Rattle.groups.specs.Noted.{key_short, key_long}
use Rattle.groups.proofs.naming.key_of.Goals as goal

pub returns-then-n-lt4 : goal.returns-then-n-lt4
returns-then-n-lt4 c =
    let q : c.from_le_bytes.result ≡ packed c.get-a.result c.get-b.result c.get-c.result 0 = c.from_le_bytes.ensures ∙ omega arith in
    search key_short

pub returns : goal.returns
returns c =
    let q : c.from_le_bytes-2.result ≡ packed c.get-a.result c.get-b-2.result c.get-c-2.result c.get-d.result = c.from_le_bytes-2.ensures ∙ omega arith in
    search key_long
