use Rattle.std.proofs.Common.{◌≡◌, rules, of_calls}
use Rattle.row_out.specs.Writing.{word_number}
use Rattle.frame_out.specs.Closes.{connection}
use Rattle.frame_out.specs.Said.{type_word}
use Rattle.frame_out.proofs.Cuts.{close_is_cut}
use Rattle.frame_out.proofs.closes.connection_close.Goals as goal

pub returns : goal.returns
returns c =
    let ty : c.map_or-ty.result ≡ word_number (type_word c.args.frame_type) = search (rules, of_calls) in
    rw (close_is_cut (connection c.args.error_code (type_word c.args.frame_type)), ← ty) c.close_of.ensures
