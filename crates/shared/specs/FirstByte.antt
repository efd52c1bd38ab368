-- The bits of a header's first byte: RFC 9000, 17.2 and 17.3.1.
use Rattle.std.specs.Prelude.{ℕ}

abbrev pub long_header_form : ℕ
long_header_form = 0x80

abbrev pub fixed_bit : ℕ
fixed_bit = 0x40

abbrev pub spin_bit : ℕ
spin_bit = 0x20

abbrev pub short_reserved_bits : ℕ
short_reserved_bits = 0x18

abbrev pub long_reserved_bits : ℕ
long_reserved_bits = 0x0c

abbrev pub key_phase_bit : ℕ
key_phase_bit = 0x04
