-- What each case of the code's arguments says, in document 01's numbers and values.
use Rattle.std.specs.Prelude.{Option, Some, None}
use Rattle.shared.specs.declared.kinds.FrameType.{FrameType}
use Rattle.row_out.specs.Writing.{Word, number, nothing}
use Rattle.frame_out.specs.declared.closes.CloseKind.{CloseKind}
use Rattle.frame_out.specs.declared.closes.CloseKind.TheVariants as close
use Rattle.frame_out.specs.Closes.{Closing, connection, application}

abbrev pub type_word : Option FrameType → Word
type_word None = nothing
type_word (Some t) = number t.0

abbrev pub closing_of : CloseKind → Closing
closing_of (close.Connection code t) = connection code (type_word t)
closing_of (close.Application code) = application code
