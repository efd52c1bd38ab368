-- An answer's text, as the pieces that are put one after the other. Characters are in ASCII.
use Rattle.std.specs.Prelude.{ℕ, List, [], ◌∷◌, ◌++◌, Option, Some, None}
use Rattle.text.specs.Decimal.{decimal}
use Rattle.text.specs.Hex.{hex_or}
use Rattle.cases.specs.Records.{Case, asked, ended, stopped}

-- " "
abbrev pub space : List ℕ
space = 0x20 ∷ []

-- bytes in hex; "-" for none
unfoldable pub hex_word : List ℕ → List ℕ
hex_word = hex_or (0x2d ∷ [])

unfoldable pub and_num : ℕ → List (List ℕ)
and_num n = space ∷ decimal n ∷ []

-- a number, "-" for none
unfoldable pub and_some : Option ℕ → List (List ℕ)
and_some (Some n) = and_num n
and_some None = (0x20 ∷ 0x2d ∷ []) ∷ []

unfoldable pub and_hex : List ℕ → List (List ℕ)
and_hex bs = space ∷ hex_word bs ∷ []

unfoldable pub and_nums : List ℕ → List (List ℕ)
and_nums [] = []
and_nums (n ∷ ns) = and_num n ++ and_nums ns

-- a number, and numbers after it
unfoldable pub nums : ℕ → List ℕ → List (List ℕ)
nums first ns = (decimal first ∷ []) ++ and_nums ns

-- "ok", "none", "no"
abbrev pub ok_word : List ℕ
ok_word = 0x6f ∷ 0x6b ∷ []

abbrev pub none_word : List ℕ
none_word = 0x6e ∷ 0x6f ∷ 0x6e ∷ 0x65 ∷ []

abbrev pub no_word : List ℕ
no_word = 0x6e ∷ 0x6f ∷ []

-- "BAD RECORD"
abbrev pub bad_word : List ℕ
bad_word = 0x42 ∷ 0x41 ∷ 0x44 ∷ 0x20 ∷ 0x52 ∷ 0x45 ∷ 0x43 ∷ 0x4f ∷ 0x52 ∷ 0x44 ∷ []

-- "end "
abbrev pub all_word : List ℕ
all_word = 0x65 ∷ 0x6e ∷ 0x64 ∷ 0x20 ∷ []

-- "BAD RECORD", a line feed and "stopped "
abbrev pub cut_word : List ℕ
cut_word = bad_word ++ (0x0a ∷ 0x73 ∷ 0x74 ∷ 0x6f ∷ 0x70 ∷ 0x70 ∷ 0x65 ∷ 0x64 ∷ 0x20 ∷ [])

-- how the records end
unfoldable pub end_word : Case → List ℕ
end_word (asked op len) = all_word
end_word ended = all_word
end_word stopped = cut_word

-- and how many there were, and a line feed
unfoldable pub end_line : Case → ℕ → List (List ℕ)
end_line t count = end_word t ∷ ((decimal count ∷ []) ++ ((0x0a ∷ []) ∷ []))
