-- Document 01, "When the dock is told no": the number of each cause, and the number and count of each answer.
use Rattle.std.specs.Prelude.{ℕ, Result, Ok, Err}
use Rattle.rules.specs.declared.Refusal.{Refusal}
use Rattle.rules.specs.declared.Refusal.TheVariants.{Cookie, Stream, Room, Short, ManyChannels, Unused, Shift, Partial, WideChannel, NoChannelBits, Parameters, Mode, Run, Unsupported, Disagree, ShiftedRaw, FewChannels, Fill, Settings, Passage, Bytes}
use Rattle.rules.specs.declared.StreamInfo.{StreamInfo}
use Rattle.rules.specs.declared.Decoded.{Decoded}
use Rattle.rules.specs.declared.Refused.{Refused}

-- the table
abbrev pub number : Refusal → ℕ
-- cookie below 24 bytes, before or after its atoms are skipped
number Cookie = 1
-- stream outside the accepted ones
number Stream = 2
-- output or scratch too short
number Room = 3
-- packet ends inside a field or skip
number Short = 4
-- element would pass the channel number
number ManyChannels = 5
-- the 12 unused bits are not zero
number Unused = 6
-- shift code 3
number Shift = 7
-- partial count above frame length
number Partial = 8
-- channel bits above 32
number WideChannel = 9
-- channel bits zero
number NoChannelBits = 10
-- quant 0, order 31, factor above 127, or mix_bits above 31 where they count
number Parameters = 11
-- mode other than 0 or 15
number Mode = 12
-- zero run too long
number Run = 13
-- CCE or PCE element
number Unsupported = 14
-- elements disagree on sample number
number Disagree = 15
-- shift not 0 in an uncompressed element
number ShiftedRaw = 16
-- END with too few channels
number FewChannels = 17
-- fill element with short count 15
number Fill = 18
-- writer: settings outside its ranges
number Settings = 19
-- writer: passage above one frame, or not a multiple of channels
number Passage = 20
-- writer: packet longer than the lent bytes
number Bytes = 21

-- 0 is accepted; a refused cookie gives no StreamInfo
abbrev pub cookie_number : Result StreamInfo Refusal → ℕ
cookie_number (Ok s) = 0
cookie_number (Err x) = number x

-- an accepted read counts samples x channels, refusals carry count 0
abbrev pub read_number : Result Decoded Refused → ℕ
read_number (Ok d) = 0
read_number (Err r) = number r.refusal

abbrev pub read_count : Result Decoded Refused → ℕ
read_count (Ok d) = d.count
read_count (Err r) = 0

-- an accepted write counts the packet's bytes
abbrev pub packed_number : Result ℕ Refusal → ℕ
packed_number (Ok n) = 0
packed_number (Err x) = number x

abbrev pub packed_count : Result ℕ Refusal → ℕ
packed_count (Ok n) = n
packed_count (Err x) = 0
