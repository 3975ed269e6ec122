-- A refusal is never answered 0 or 1, and what is not refused is answered by nothing else.
use Rattle.std.specs.Prelude.{◌≤◌, ◌<◌, Ok}
use Rattle.std.proofs.Common.{arith}
use Rattle.refusals.specs.declared.Refusal.{Refusal}
use Rattle.refusals.specs.declared.Refusal.TheVariants.{BlockEmpty, BlockOver512, OutputShort, NumberNeither, OtherSamples, TakeFull, ScaleOutOfRange, RecordOutOfRange, LineUnreadable, EpsOutOfRange, DecayOutOfRange, FloorOutOfRange, ChannelOutOfRange, ModeUnknown, RateUnknown, StoreWithoutRoom, IntervalOutOfRange, TooManyVoices, NotRiffWave, NoFmt, FmtWrong, NoData, RunsPast, NoRoom, NoGoodFmt, NoDataReached, TooManyTakes, FileTooLong, NoMidiFile, FormatUnknown, DivisionWrong, EndsEarly, WithinAnEvent, QuantityTooLong, NoRunningStatus, StatusWithin, UnknownStatus, TempoWrong, TrackTooLong}
use Rattle.refusals.specs.Refusals.{refusal_number}
use Rattle.answers.specs.declared.Turn.{Turn}
use Rattle.answers.specs.declared.Turn.TheVariants.{Taken, GivenAgain}
use Rattle.answers.specs.Numbering.{judged_number}

pub refused-above : (r : Refusal) → 1 < refusal_number r
refused-above BlockEmpty = omega arith
refused-above BlockOver512 = omega arith
refused-above OutputShort = omega arith
refused-above NumberNeither = omega arith
refused-above OtherSamples = omega arith
refused-above TakeFull = omega arith
refused-above ScaleOutOfRange = omega arith
refused-above RecordOutOfRange = omega arith
refused-above LineUnreadable = omega arith
refused-above EpsOutOfRange = omega arith
refused-above DecayOutOfRange = omega arith
refused-above FloorOutOfRange = omega arith
refused-above ChannelOutOfRange = omega arith
refused-above ModeUnknown = omega arith
refused-above RateUnknown = omega arith
refused-above StoreWithoutRoom = omega arith
refused-above IntervalOutOfRange = omega arith
refused-above TooManyVoices = omega arith
refused-above NotRiffWave = omega arith
refused-above NoFmt = omega arith
refused-above FmtWrong = omega arith
refused-above NoData = omega arith
refused-above RunsPast = omega arith
refused-above NoRoom = omega arith
refused-above NoGoodFmt = omega arith
refused-above NoDataReached = omega arith
refused-above TooManyTakes = omega arith
refused-above FileTooLong = omega arith
refused-above NoMidiFile = omega arith
refused-above FormatUnknown = omega arith
refused-above DivisionWrong = omega arith
refused-above EndsEarly = omega arith
refused-above WithinAnEvent = omega arith
refused-above QuantityTooLong = omega arith
refused-above NoRunningStatus = omega arith
refused-above StatusWithin = omega arith
refused-above UnknownStatus = omega arith
refused-above TempoWrong = omega arith
refused-above TrackTooLong = omega arith

pub turn-upto : (t : Turn) → judged_number (Ok t) ≤ 1
turn-upto Taken = omega arith
turn-upto GivenAgain = omega arith
