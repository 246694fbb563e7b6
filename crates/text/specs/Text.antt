-- The writer's settings as text: decimal numbers that fit 16 bits, between blanks; '#' begins a comment that ends with its line.
-- The text is read byte by byte, and is wrong at the first byte that cannot stand where it stands.
use Rattle.std.specs.Prelude.{ℕ, ◌+◌, ◌-◌, ◌*◌, ◌≤◌, ◌≡◌, Bool, true, false, ◌||◌, List, [], ◌∷◌, ◌++◌, length, set, ltb, leb, eqb, ℤ, pos, ◌-ℤ◌, Option, None, Some, Result, Ok, Err}
use Rattle.rules.specs.Answers.{pick}
use Rattle.rules.specs.Buffers.{laid}
use Rattle.rules.specs.Words.{wrap}
use Rattle.text.specs.declared.Kind.{Kind}
use Rattle.text.specs.declared.Kind.TheVariants.{Digit, Dash, Blank, Line, Hash, Other}
use Rattle.text.specs.declared.Mode.{Mode}
use Rattle.text.specs.declared.Mode.TheVariants.{Between, Comment, Signed, Digits}
use Rattle.text.specs.declared.Turn.{Turn}
use Rattle.text.specs.declared.Turn.TheVariants.{On, Stores}
use Rattle.text.specs.declared.State.{State}
use Rattle.text.specs.declared.TextError.{TextError}
use Rattle.text.specs.declared.TextError.TheVariants.{Wrong, TooMany}

-- ---- a byte

-- tab, form feed, carriage return, space
abbrev pub is_blank : ℕ → Bool
is_blank b = eqb b 9 || (eqb b 12 || (eqb b 13 || eqb b 32))

-- the end of a line, '#', '-', a blank, '0' to '9', or another
abbrev pub kind_of : ℕ → Kind
kind_of b =
    pick (eqb b 10) Line
    (pick (eqb b 35) Hash
    (pick (eqb b 45) Dash
    (pick (is_blank b) Blank
    (pick (ltb b 48) Other
    (pick (ltb b 58) (Digit (b - 48)) Other)))))

-- ---- what it does, by where the reader stands

-- the largest size: one more below zero
abbrev pub most_of : Bool → ℕ
most_of true = 32768
most_of false = 32767

-- a digit more, while the number fits 16 bits
abbrev pub grown_to : Bool → ℕ → ℕ → Option Turn
grown_to below size digit = pick (leb (size * 10 + digit) (most_of below)) (Some (On (Digits below (size * 10 + digit)))) None

-- between numbers
abbrev pub between_of : Kind → Option Turn
between_of (Digit d) = grown_to false 0 d
between_of Dash = Some (On Signed)
between_of Blank = Some (On Between)
between_of Line = Some (On Between)
between_of Hash = Some (On Comment)
between_of Other = None

-- a comment ends with its line
abbrev pub comment_of : Kind → Option Turn
comment_of (Digit d) = Some (On Comment)
comment_of Dash = Some (On Comment)
comment_of Blank = Some (On Comment)
comment_of Line = Some (On Between)
comment_of Hash = Some (On Comment)
comment_of Other = Some (On Comment)

-- after '-' comes a digit
abbrev pub signed_of : Kind → Option Turn
signed_of (Digit d) = grown_to true 0 d
signed_of Dash = None
signed_of Blank = None
signed_of Line = None
signed_of Hash = None
signed_of Other = None

-- a number ends before a blank, a comment, or the end of the line
abbrev pub digits_of : Bool → ℕ → Kind → Option Turn
digits_of below size (Digit d) = grown_to below size d
digits_of below size Dash = None
digits_of below size Blank = Some (Stores Between)
digits_of below size Line = Some (Stores Between)
digits_of below size Hash = Some (Stores Comment)
digits_of below size Other = None

unfoldable pub turn_of : Mode → Kind → Option Turn
turn_of Between kind = between_of kind
turn_of Comment kind = comment_of kind
turn_of Signed kind = signed_of kind
turn_of (Digits below size) kind = digits_of below size kind

-- a sign and a size as 16 bits hold them
abbrev pub signed_by : Bool → ℕ → ℤ
signed_by true size = wrap 16 (pos 0 -ℤ pos size)
signed_by false size = wrap 16 (pos size)

-- the number that has ended
unfoldable pub value_of : Mode → ℤ
value_of Between = pos 0
value_of Comment = pos 0
value_of Signed = pos 0
value_of (Digits below size) = signed_by below size

-- ---- the whole text

-- all of it; or wrong at a byte; or one number more than 68. Each with the numbers before
pub data Read : Type 0 where
  whole : List ℤ → Read
  wrong : ℕ → List ℤ → Read
  full : List ℤ → Read

-- a byte at place `at`, after the numbers xs, and then the rest
unfoldable pub onward : Option Turn → Mode → ℕ → List ℤ → (Mode → ℕ → List ℤ → Read) → Read
onward (Some (On next)) mode at xs rest = rest next (at + 1) xs
onward (Some (Stores next)) mode at xs rest = pick (ltb (length xs) 68) (rest next (at + 1) (xs ++ (value_of mode ∷ []))) (full xs)
onward None mode at xs rest = wrong at xs

-- the end of the text ends its last line
unfoldable pub read_on : List ℕ → Mode → ℕ → List ℤ → Read
read_on [] mode at xs = onward (turn_of mode Line) mode at xs (λ next at xs. whole xs)
read_on (b ∷ bs) mode at xs = onward (turn_of mode (kind_of b)) mode at xs (read_on bs)

abbrev pub numbers_of : List ℕ → Read
numbers_of text = read_on text Between 0 []

abbrev pub answer_of : Read → Result ℕ TextError
answer_of (whole xs) = Ok (length xs)
answer_of (wrong at xs) = Err (Wrong at)
answer_of (full xs) = Err TooMany

abbrev pub found_of : Read → List ℤ
found_of (whole xs) = xs
found_of (wrong at xs) = xs
found_of (full xs) = xs

-- the answer, and every place: the numbers that were read stand first, later places stay
pub record Tells (text : List ℕ) (was is : List ℤ) (r : Result ℕ TextError) : Type 0 where
  pub told : r ≡ answer_of (numbers_of text)
  pub places : is ≡ laid (found_of (numbers_of text)) was
  pub most : length (found_of (numbers_of text)) ≤ 68

-- ---- one turn carried out in the places

abbrev pub took_of : Option Turn → State → ℕ → Result State TextError
took_of (Some (On next)) st at = Ok (record { mode = next; count = st.count })
took_of (Some (Stores next)) st at = pick (ltb st.count 68) (Ok (record { mode = next; count = st.count + 1 })) (Err TooMany)
took_of None st at = Err (Wrong at)

abbrev pub places_of : Option Turn → State → List ℤ → List ℤ
places_of (Some (On next)) st was = was
places_of (Some (Stores next)) st was = pick (ltb st.count 68) (set was st.count (value_of st.mode)) was
places_of None st was = was

pub record Takes (turn : Option Turn) (st : State) (at : ℕ) (was is : List ℤ) (r : Result State TextError) : Type 0 where
  pub does : r ≡ took_of turn st at
  pub puts : is ≡ places_of turn st was
