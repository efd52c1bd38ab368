-- Every row of the examples holds, by computing.
use mathlib.Core.Path.{◌≡◌, refl}
use Rattle.coding.specs.Words.{and_then}
use Rattle.coding.specs.Bytes.{be, bytes_be}
use Rattle.coding.specs.Places.{part_of}
use Rattle.coding.specs.Reading.{fixed_at, take_at}
use Rattle.coding.specs.Varint.{var_len, var_at, var_tag, var_size, var_bytes, in62, var_out}
use Rattle.shared.specs.Cid.{cid_of, cid_on, long_cid_at}
use Rattle.number.specs.Cutting.{window_of, is_cut, bytes_for, cut_to, cut_made}
use Rattle.number.specs.Expanding.{decode_a3, expanded}
use Rattle.packet.specs.Header.{outside, unfixed, listed, headed, initial_at, length_at, tail_at, body_at, long_at, short_at, first_at, header_by}
use Rattle.ack.specs.Scan.{rounds, scan_at}
use Rattle.ack.specs.Step.{ack_step, go_on, stepping}
use Rattle.frame.specs.Format.{then_read, up_to, blocks_at, field_at, fields_at}
use Rattle.frame.specs.Table as frame
use Rattle.examples.specs.Table.{found, written, made, grown, number_said, place_in, ranged, answer, examples, answers, replies}

-- the statement
pub holds_table : answers examples ≡ replies examples
unfolding examples answers replies answer found written made grown and_then be bytes_be part_of fixed_at take_at var_len var_at var_tag var_size var_bytes in62 var_out cid_of cid_on long_cid_at window_of is_cut bytes_for cut_to cut_made decode_a3 expanded outside unfixed listed headed initial_at length_at tail_at body_at long_at short_at first_at header_by number_said place_in ranged rounds scan_at ack_step go_on stepping then_read up_to blocks_at field_at fields_at frame.table frame.frame_body_at frame.outcome frame.frame_at
holds_table = refl
