-- ECN counts (RFC 9000, 13.4.1 and 19.3.2; document 01): the count of a mark is raised by one where it stands, the other two stay;
-- at 2^62 - 1 or above it is refused 14, and nothing changes.
use Rattle.std.specs.Prelude.{ℕ, ◌+◌, ◌-◌, cond, ltb, eqb, if◌then◌else◌}
use Rattle.coding.specs.Words.{Answer, no, ok, number_end}
use Rattle.ecn.specs.declared.EcnCounts.{EcnCounts}

-- the counts before any mark was seen
abbrev pub zero_counts : EcnCounts
zero_counts = record { ect0 = 0; ect1 = 0; ce = 0 }

-- one count: what is said of it, and what it is afterwards
unfoldable pub count_said : ℕ → Answer Unit
count_said n = if ltb n (number_end - 1) then ok tt else no 14

unfoldable pub count_of : ℕ → ℕ
count_of n = if ltb n (number_end - 1) then n + 1 else n

-- the counts after a mark, which is two bits (RFC 3168, 5): 10 ECT(0), 01 ECT(1), 11 CE
abbrev pub counts_after : EcnCounts → ℕ → EcnCounts
counts_after c bits =
    cond (eqb bits 0b10) (record { ect0 = count_of c.ect0; ect1 = c.ect1; ce = c.ce })
    (cond (eqb bits 0b01) (record { ect0 = c.ect0; ect1 = count_of c.ect1; ce = c.ce })
    (record { ect0 = c.ect0; ect1 = c.ect1; ce = count_of c.ce }))

abbrev pub said_after : EcnCounts → ℕ → Answer Unit
said_after c bits = count_said (cond (eqb bits 0b10) c.ect0 (cond (eqb bits 0b01) c.ect1 c.ce))
