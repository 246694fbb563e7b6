-- Document 01, "Packet": elements one after the other, until END or a refusal.
use Rattle.std.specs.Prelude.{ℕ, zero, suc, ◌+◌, ◌*◌, ◌/◌, Bool, true, List, [], ◌++◌, length, leb, eqb, Option, None, Some}
use Rattle.rules.specs.declared.StreamInfo.{StreamInfo}
use Rattle.rules.specs.declared.Refusal.TheVariants.{Short, ManyChannels, Unsupported, Disagree, FewChannels, Fill}
use Rattle.rules.specs.Answers.{Ans, pick, Read, ◌>>=◌, ◌>>◌, give, refuse, check}
use Rattle.rules.specs.Bits.{field, skip, skip_to_byte}
use Rattle.rules.specs.Element.{Sound, audio_element}

-- what an element comes to: sound, nothing, or the end with the sample number
pub data Turn : Type 0 where
  audio : Sound → Turn
  passed : Turn
  end : ℕ → Turn

-- the sample number that is known already is this one
unfoldable pub agrees : Option ℕ → ℕ → Bool
agrees None n = true
agrees (Some k) n = eqb k n

-- no sample number is known only where no element was heard
abbrev pub number_known : Option ℕ → ℕ
number_known None = 0
number_known (Some n) = n

-- the channels of an element before those that follow
unfoldable pub followed : Sound → Sound → Sound
followed first rest = record { samples = rest.samples; chans = first.chans ++ rest.chans; tracks = first.tracks ++ rest.tracks }

-- what follows an element; what follows END is ignored
unfoldable pub onward : ℕ → Option ℕ → (ℕ → Option ℕ → Read Sound) → Turn → Read Sound
onward so_far m go (audio sound) = do
  rest ← go (so_far + length sound.chans) (Some sound.samples)
  give (followed sound rest)
onward so_far m go passed = go so_far m
onward so_far m go (end n) = give (record { samples = n; chans = []; tracks = [] })

module _ (bits : List ℕ) where
  -- those bytes are skipped
  unfoldable pub skip_bytes : ℕ → Read Turn
  skip_bytes n = do
    skip bits (n * 8)
    give passed

  -- count 8; at 255 plus another 8
  unfoldable pub data_count : Read ℕ
  data_count = do
    n ← field bits 8
    pick (eqb n 255) (do m ← field bits 8; give (n + m)) (give n)

  -- align if asked
  unfoldable pub aligned : ℕ → Read (Unit {0})
  aligned zero = give tt
  aligned (suc asked) = skip_to_byte bits

  unfoldable pub data_bytes : ℕ → ℕ → Read Turn
  data_bytes asked n = do
    aligned asked
    skip_bytes n

  -- DSE: instance 4, align 1, count, bytes
  unfoldable pub data_element : Read Turn
  data_element = do
    instance ← field bits 4
    align ← field bits 1
    n ← data_count
    data_bytes align n

  -- FIL: count 4, bytes; 15 is 18
  unfoldable pub fill_element : Read Turn
  fill_element = do
    n ← field bits 4
    check (leb n 14) Fill
    skip_bytes n

  module _ (s : StreamInfo) where
    -- 5 right after the tag; 15 once the whole element is done
    unfoldable pub sound_element : ℕ → Option ℕ → ℕ → Read Turn
    sound_element so_far m channels = do
      check (leb (so_far + channels) s.num_channels) ManyChannels
      sound ← audio_element bits s channels
      check (agrees m sound.samples) Disagree
      give (audio sound)

    -- END: align, judge 17
    unfoldable pub end_element : ℕ → Option ℕ → Read Turn
    end_element so_far m = do
      skip_to_byte bits
      check (leb s.num_channels so_far) FewChannels
      give (end (number_known m))

    -- all eight tags: SCE 0, CPE 1, CCE 2, LFE 3, DSE 4, PCE 5, FIL 6, END 7
    unfoldable pub tagged : ℕ → Option ℕ → ℕ → Read Turn
    tagged so_far m tag =
        pick (eqb tag 0) (sound_element so_far m 1)
        (pick (eqb tag 1) (sound_element so_far m 2)
        (pick (eqb tag 2) (refuse Unsupported)
        (pick (eqb tag 3) (sound_element so_far m 1)
        (pick (eqb tag 4) data_element
        (pick (eqb tag 5) (refuse Unsupported)
        (pick (eqb tag 6) fill_element
        (end_element so_far m)))))))

    -- one element, with the channels so far and the sample number
    unfoldable pub turn : ℕ → Option ℕ → Read Turn
    turn so_far m = do
      tag ← field bits 3
      tagged so_far m tag

    -- at most `most` elements; `enough_turns` of `laws` shows that the last line is never the packet's answer
    unfoldable pub run : ℕ → ℕ → Option ℕ → Read Sound
    run (suc most) so_far m = do
      t ← turn so_far m
      onward so_far m (run most) t
    run zero so_far m = refuse Short

    -- every element takes 3 bits at least
    unfoldable pub packet : Ans Sound
    packet = run (length bits / 3 + 1) 0 None 0
