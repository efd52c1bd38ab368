-- Cut numbers read back: RFC 9000, A.3; and the Rust's PacketNumber::expand beside it. w is the window 2^(8k), v the value, e the expected number.
use Rattle.std.specs.Prelude.{ℕ, ◌+◌, ◌-◌, ◌/◌, ◌%◌, ◌&&◌, ltb, leb, if◌then◌else◌}
use Rattle.coding.specs.Words.{Answer, no, ok, number_end}
use Rattle.shared.specs.declared.kinds.CutNumber.{CutNumber}
use Rattle.number.specs.Cutting.{window_of, is_cut}

-- the expected number with its last bytes replaced
abbrev pub candidate : ℕ → ℕ → ℕ → ℕ
candidate w v e = e - e % w + v

-- A.3 as it stands there, with sums for its differences
unfoldable pub decode_a3 : ℕ → ℕ → ℕ → ℕ
decode_a3 w v e =
    let c = candidate w v e in
    if leb (c + w / 2) e && ltb (c + w) number_end then c + w else
    if ltb (e + w / 2) c && leb w c then c - w else
    c

-- 14 outside the rule of a cut number, and for an expected number past 2^62
unfoldable pub expanded : CutNumber → ℕ → Answer ℕ
expanded c e = if is_cut c then (if ltb number_end e then no 14 else ok (decode_a3 (window_of c.0) c.1 e)) else no 14

-- the Rust's rule, which no promise cites: it has no test of 2^62, and asks for more than the window before taking it off
unfoldable pub nearest_to : ℕ → ℕ → ℕ → ℕ
nearest_to w v e =
    let c = candidate w v e in
    if leb (c + w / 2) e then c + w else
    if ltb (e + w / 2) c && ltb w c then c - w else
    c
