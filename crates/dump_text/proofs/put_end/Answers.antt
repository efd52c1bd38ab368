use Rattle.dump_text.specs.Dump.{number_then, total_line}
use Rattle.dump_text.proofs.Puts.{room_after, two}
use Rattle.dump_text.proofs.put_end.Goals as goal

pub put_word-requires : goal.put_word-requires
unfolding total_line
put_word-requires c = room_after _ (number_then c.args.total 0x0a) c.requires c.put_slice-a.ensures

pub returns : goal.returns
unfolding total_line
returns c = two _ _ c.requires c.put_slice-a.ensures c.put_word.ensures
