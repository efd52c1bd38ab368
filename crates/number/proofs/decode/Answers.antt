use Rattle.std.proofs.Common.{ℕ, ◌-◌, ◌/◌, arith, ap}
use Rattle.coding.specs.Said.{answer_of}
use Rattle.number.proofs.Windows.{bytes_power}
use Rattle.number.proofs.Cuts.{read_word}
use Rattle.number.proofs.decode.Goals as goal

pub returns : goal.returns
unfolding answer_of
returns c =
    let a = c.args in
    read_word a.len a.word c.if-len-lt1.false c.if-len-gt4.false (omega arith) (ap (λ (p : ℕ). a.word / p) (bytes_power (4 - a.len)))
