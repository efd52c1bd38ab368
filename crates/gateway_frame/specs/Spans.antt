-- A place as a record for C.
use Rattle.std.specs.Prelude.{ℕ}
use Rattle.coding.specs.declared.Place.{Place}
use Rattle.gateway_frame.specs.declared.records.Span.{Span}

abbrev pub span_at : ℕ → ℕ → Span
span_at start len = record { start = start; len = len }

abbrev pub span_of : Place → Span
span_of p = span_at p.start p.len

-- and back
abbrev pub place_back : Span → Place
place_back p = record { start = p.start; len = p.len }
