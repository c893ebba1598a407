-- What `urzulempa_write` answers, over that of crate `writing`.
use Rattle.writing.specs.declared.Written.{Written}
use Rattle.calls.specs.declared.Answer.{Answer}

-- "done with bytes, units = records, depth 0"
abbrev pub written_answer : Written → Answer
written_answer w = record { number = w.number; place = w.place; bytes = w.bytes; units = w.units; depth = 0 }
