-- The closes, and the last arm of `is_ack_eliciting`: every kind that no arm before it names.
use Rattle.std.specs.Prelude.{if◌then◌else◌}
use mathlib.Core.Path.{◌≡◌, refl}
use mathlib.Core.Bool.{true, false}
use Rattle.frame.specs.declared.kinds.Ack.{Ack}
use Rattle.frame.specs.declared.kinds.Close.{Close}
use Rattle.frame.specs.declared.kinds.Close.TheVariants as close
use Rattle.frame.specs.declared.kinds.Frame.{Frame}
use Rattle.frame.specs.declared.kinds.Frame.TheVariants as frame
use Rattle.frame.specs.Types.{ack_eliciting}
use Rattle.frame.specs.Said.{close_said, frame_said}

pub closes : (x : Close) → false ≡ ack_eliciting (close_said x)
unfolding ack_eliciting
closes (close.Connection x) = refl
closes (close.Application x) = refl

pub elicits : (f : Frame) → (f ≡ frame.Padding → ⊥) → ((x : Ack) → f ≡ frame.Ack x → ⊥) → ((x : Close) → f ≡ frame.Close x → ⊥) → true ≡ ack_eliciting (frame_said f)
unfolding ack_eliciting
elicits frame.Padding p a c = absurd (p refl)
elicits frame.Ping p a c = refl
elicits (frame.Ack x) p a c = absurd (a x refl)
elicits (frame.ResetStream x) p a c = refl
elicits (frame.StopSending x) p a c = refl
elicits (frame.Crypto x) p a c = refl
elicits (frame.NewToken x) p a c = refl
elicits (frame.Stream x) p a c = refl
elicits (frame.MaxData n) p a c = refl
elicits (frame.MaxStreamData id n) p a c = refl
elicits (frame.MaxStreams dir n) p a c = refl
elicits (frame.DataBlocked n) p a c = refl
elicits (frame.StreamDataBlocked id n) p a c = refl
elicits (frame.StreamsBlocked dir n) p a c = refl
elicits (frame.NewConnectionId x) p a c = refl
elicits (frame.RetireConnectionId n) p a c = refl
elicits (frame.PathChallenge n) p a c = refl
elicits (frame.PathResponse n) p a c = refl
elicits (frame.Close x) p a c = absurd (c x refl)
elicits (frame.Datagram x) p a c = refl
elicits (frame.AckFrequency x) p a c = refl
elicits frame.ImmediateAck p a c = refl
elicits frame.HandshakeDone p a c = refl
