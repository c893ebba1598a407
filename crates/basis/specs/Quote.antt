-- A quoted text as the bytes that it is written with: UTF-8, up to three bytes a character, as "├─ " needs.
use Rattle.std.specs.Prelude.{true, false, List, [], ◌∷◌, ◌++◌, ℕ, ◌+◌, ◌/◌, ◌%◌, ltb}
use Prim.Native.Char.{code}
use Prim.Native.String as S
use Prim.Native.String.{String}

-- `char::encode_utf8`, of a character below 65,536
abbrev pub utf8_char : ℕ → List ℕ
utf8_char n =
    elim (ltb n 128) [
      | true ↦ n ∷ []
      | false ↦ elim (ltb n 2048) [
        | true ↦ (192 + n / 64) ∷ (128 + n % 64) ∷ []
        | false ↦ (224 + n / 4096) ∷ (128 + n / 64 % 64) ∷ (128 + n % 64) ∷ []
      ]
    ]

-- `str::as_bytes`
abbrev pub utf8 : String → List ℕ
utf8 S.[] = []
utf8 (S.◌∷◌ c s) = utf8_char (code c) ++ utf8 s
