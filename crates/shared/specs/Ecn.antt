-- Explicit congestion notification: RFC 3168, section 5.
use Rattle.std.specs.Prelude.{ℕ, ◌%◌}

-- the ECN field is the two low bits: 00 not ECN-capable, 01 ECT(1), 10 ECT(0), 11 CE
unfoldable pub ecn_bits : ℕ → ℕ
ecn_bits x = x % 4
