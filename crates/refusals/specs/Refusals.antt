-- The number of each refusal, and of a call that is taken or refused.
use Rattle.std.specs.Prelude.{ℕ, Result, Ok, Err}
use Rattle.refusals.specs.declared.Refusal.{Refusal}
use Rattle.refusals.specs.declared.Refusal.TheVariants.{BlockEmpty, BlockOver512, OutputShort, NumberNeither, OtherSamples, TakeFull, ScaleOutOfRange, RecordOutOfRange, LineUnreadable, EpsOutOfRange, DecayOutOfRange, FloorOutOfRange, ChannelOutOfRange, ModeUnknown, RateUnknown, StoreWithoutRoom, IntervalOutOfRange, TooManyVoices, NotRiffWave, NoFmt, FmtWrong, NoData, RunsPast, NoRoom, NoGoodFmt, NoDataReached, TooManyTakes, FileTooLong, NoMidiFile, FormatUnknown, DivisionWrong, EndsEarly, WithinAnEvent, QuantityTooLong, NoRunningStatus, StatusWithin, UnknownStatus, TempoWrong, TrackTooLong}

-- document 01's number of a refusal
abbrev pub refusal_number : Refusal → ℕ
refusal_number BlockEmpty = 2
refusal_number BlockOver512 = 3
refusal_number OutputShort = 4
refusal_number NumberNeither = 5
refusal_number OtherSamples = 6
refusal_number TakeFull = 7
refusal_number ScaleOutOfRange = 8
refusal_number RecordOutOfRange = 9
refusal_number LineUnreadable = 10
refusal_number EpsOutOfRange = 11
refusal_number DecayOutOfRange = 12
refusal_number FloorOutOfRange = 13
refusal_number ChannelOutOfRange = 14
refusal_number ModeUnknown = 15
refusal_number RateUnknown = 16
refusal_number StoreWithoutRoom = 17
refusal_number IntervalOutOfRange = 18
refusal_number TooManyVoices = 19
refusal_number NotRiffWave = 20
refusal_number NoFmt = 21
refusal_number FmtWrong = 22
refusal_number NoData = 23
refusal_number RunsPast = 24
refusal_number NoRoom = 25
refusal_number NoGoodFmt = 26
refusal_number NoDataReached = 27
refusal_number TooManyTakes = 28
refusal_number FileTooLong = 29
refusal_number NoMidiFile = 30
refusal_number FormatUnknown = 31
refusal_number DivisionWrong = 32
refusal_number EndsEarly = 33
refusal_number WithinAnEvent = 34
refusal_number QuantityTooLong = 35
refusal_number NoRunningStatus = 36
refusal_number StatusWithin = 37
refusal_number UnknownStatus = 38
refusal_number TempoWrong = 39
refusal_number TrackTooLong = 40

-- 0 where a call is taken, and else the number of its refusal
abbrev pub number_of : Result Unit Refusal → ℕ
number_of (Ok _) = 0
number_of (Err r) = refusal_number r
