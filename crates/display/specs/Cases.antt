-- Order 5 on small texts, by computation.
use Rattle.std.specs.Prelude.{◌≡◌, refl, length, replicate}
use Rattle.basis.specs.Quote.{utf8}
use Rattle.display.specs.Quoted.{quoted}

-- "A version named 4" monitor"
pub monitor : quoted (utf8 "4\" monitor") ≡ utf8 "4\\\" monitor"
unfolding quoted
monitor = refl

-- "A backslash itself is written as it stands": at the end, and just before a quote
pub backslash : quoted (utf8 "C:\\") ≡ utf8 "C:\\"
unfolding quoted
backslash = refl

pub backslash_quote : quoted (utf8 "a\\\"b") ≡ utf8 "a\\\\\"b"
unfolding quoted
backslash_quote = refl

-- the longest text
pub all_quotes : length (quoted (replicate 24 34)) ≡ 48
unfolding quoted
all_quotes = refl
