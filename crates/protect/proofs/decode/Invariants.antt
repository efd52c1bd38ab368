use Rattle.std.proofs.Common.{◌≡◌, ◌+◌, ◌-◌, ◌*◌, ◌^◌, ◌≤◌, take, drop}
use Rattle.coding.specs.Bytes.{be}
use Rattle.protect.proofs.decode.Given as goal

abbrev pub invariant-loop-b : goal.invariant-loop-b
invariant-loop-b l =
    (l.b-index ≤ l.len) × ((l.value ≡ be 0 (take l.b-index (drop l.number_offset l.packet))) × ((l.value + 1) * 256 ^ (l.len - l.b-index) ≤ 256 ^ l.len))
