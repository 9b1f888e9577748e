-- How a line is read, from left to right. Each function gives a part and the bytes after it, or, where
-- reading stops, how many bytes are left there.
use Rattle.std.specs.Prelude.{◌≡◌, ℕ, zero, suc, ◌+◌, ◌-◌, ◌*◌, List, [], ◌∷◌, length, Option, Some, None, Result, Ok, Err, nat_lt, nat_le, ◌==◌, ◌&&◌, if◌then◌else◌}
use Rattle.rv_alu.specs.Bits.{is_between}
use Rattle.hart_step.specs.declared.event.Event.{Event}
use Rattle.hart_step.specs.declared.event.Event.TheVariants.{Commit, Exception, Interrupt, Host}
use Rattle.hart_step.specs.declared.event.Priv.{Priv}
use Rattle.hart_step.specs.declared.event.Priv.TheVariants.{U, S, M, D}
use Rattle.commit_log.specs.declared.parts.Place.{Place}
use Rattle.commit_log.specs.declared.commit.Shown.{Shown}

infixl 10 ◌>>=◌
abbrev pub ◌>>=◌ : {A B : Type 0} → Result A ℕ → (A → Result B ℕ) → Result B ℕ
(Ok x) >>= f = f x
(Err left) >>= f = Err left

-- what a function returned, seen by view, is what reading gives
abbrev pub Gives : {X Y : Type 0} → (X → Y) → Result X ℕ → Result Y ℕ → Type 0
Gives view (Ok x) read = read ≡ Ok (view x)
Gives view (Err left) read = read ≡ Err left

-- ---- single characters

abbrev pub or_stop : {A : Type 0} → Option A → List ℕ → Result (A × List ℕ) ℕ
or_stop (Some a) rest = Ok (a, rest)
or_stop None rest = Err (suc (length rest))

-- a character that stands for a value
unfoldable pub one : {A : Type 0} → (ℕ → Option A) → List ℕ → Result (A × List ℕ) ℕ
one value [] = Err 0
one value (c ∷ rest) = or_stop (value c) rest

-- this character
unfoldable pub past : ℕ → List ℕ → Result (List ℕ) ℕ
past letter [] = Err 0
past letter (c ∷ rest) = if c == letter then Ok rest else Err (suc (length rest))

-- nothing, and what was read
unfoldable pub at_end : {A : Type 0} → A → List ℕ → Result A ℕ
at_end a [] = Ok a
at_end a (c ∷ rest) = Err (suc (length rest))

-- reads on in one way after this character, and in another without it
unfoldable pub choice : {A : Type 0} → ℕ → (List ℕ → Result A ℕ) → (List ℕ → Result A ℕ) → List ℕ → Result A ℕ
choice letter after without [] = without []
choice letter after without (c ∷ rest) = if c == letter then after rest else without (c ∷ rest)

-- nothing, or a space, after which reading goes on
unfoldable pub unless_end : {A : Type 0} → A → (List ℕ → Result A ℕ) → List ℕ → Result A ℕ
unless_end a after [] = Ok a
unless_end a after (c ∷ rest) = past 32 (c ∷ rest) >>= after

abbrev pub hart_value : ℕ → Option ℕ
hart_value c = if is_between 48 55 c then Some (c - 48) else None

abbrev pub mode_value : ℕ → Option Priv
mode_value c = if c == 85 then Some U else (if c == 83 then Some S else (if c == 77 then Some M else (if c == 68 then Some D else None)))

abbrev pub size_value : ℕ → Option ℕ
size_value c = if c == 49 then Some 1 else (if c == 50 then Some 2 else (if c == 52 then Some 4 else (if c == 56 then Some 8 else None)))

abbrev pub hex_value : ℕ → Option ℕ
hex_value c = if is_between 48 57 c then Some (c - 48) else (if is_between 97 102 c then Some (c - 87) else None)

-- ---- numbers

-- n hexadecimal digits, after digits of this value
unfoldable pub digits_of : ℕ → ℕ → List ℕ → Result (ℕ × List ℕ) ℕ
digits_of zero value bytes = Ok (value, bytes)
digits_of (suc n) value bytes = do
  digit ← one hex_value bytes
  digits_of n (16 * value + digit.0) digit.1

-- a space, and n hexadecimal digits
unfoldable pub word_of : ℕ → List ℕ → Result (ℕ × List ℕ) ℕ
word_of n bytes = do
  rest ← past 32 bytes
  digits_of n 0 rest

-- the first digit of a decimal number from low on
abbrev pub first_value : ℕ → ℕ → Option ℕ
first_value low c = if is_between (48 + low) 57 c then Some (c - 48) else None

-- the number of two digits up to high, of which the first was read
abbrev pub second_value : ℕ → ℕ → ℕ → Option ℕ
second_value first high c =
    if (is_between 48 57 c && nat_lt 0 first) && nat_le (10 * first + (c - 48)) high then Some (10 * first + (c - 48)) else None

abbrev pub or_first : ℕ → ℕ → List ℕ → Option ℕ → ℕ × List ℕ
or_first first c rest (Some n) = (n, rest)
or_first first c rest None = (first, c ∷ rest)

unfoldable pub with_second : ℕ → ℕ → List ℕ → ℕ × List ℕ
with_second first high [] = (first, [])
with_second first high (c ∷ rest) = or_first first c rest (second_value first high c)

-- a decimal number from low to high
unfoldable pub number_of : ℕ → ℕ → List ℕ → Result (ℕ × List ℕ) ℕ
number_of low high bytes = do
  first ← one (first_value low) bytes
  Ok (with_second first.0 high first.1)

-- ---- the records, each after its letter

unfoldable pub place_of : List ℕ → Result (Place × List ℕ) ℕ
place_of bytes = do
  rest ← past 32 bytes
  hart ← one hart_value rest
  rest ← past 32 hart.1
  mode ← one mode_value rest
  pc ← word_of 16 mode.1
  Ok (record { hart = hart.0; mode = mode.0; pc = pc.0 }, pc.1)

abbrev pub nothing : Shown
nothing = record { rd = None; st = None; dv = None; vl = None }

-- what a volatile register read as, up to the end
unfoldable pub volatile_of : List ℕ → Result Shown ℕ
volatile_of bytes = do
  rest ← past 118 bytes
  rest ← past 108 rest
  vl ← word_of 16 rest
  at_end (record nothing { vl = Some vl.0 }) vl.1

-- what a device answered, after a d, and the later parts
unfoldable pub answer_of : List ℕ → Result Shown ℕ
answer_of bytes = do
  rest ← past 118 bytes
  dv ← word_of 16 rest
  shown ← unless_end nothing volatile_of dv.1
  Ok (record shown { dv = Some dv.0 })

unfoldable pub answer_or_later : List ℕ → Result Shown ℕ
answer_or_later bytes = choice 100 answer_of volatile_of bytes

-- a store, after an s, and the later parts
unfoldable pub store_of : List ℕ → Result Shown ℕ
store_of bytes = do
  rest ← past 116 bytes
  at ← word_of 16 rest
  rest ← past 32 at.1
  size ← one size_value rest
  value ← word_of (2 * size.0) size.1
  shown ← unless_end nothing answer_or_later value.1
  Ok (record shown { st = Some (record { at = at.0; size = size.0; value = value.0 }) })

unfoldable pub store_or_later : List ℕ → Result Shown ℕ
store_or_later bytes = choice 115 store_of answer_or_later bytes

-- a register, after an x, and the later parts
unfoldable pub register_of : List ℕ → Result Shown ℕ
register_of bytes = do
  number ← number_of 1 31 bytes
  value ← word_of 16 number.1
  shown ← unless_end nothing store_or_later value.1
  Ok (record shown { rd = Some (number.0, value.0) })

unfoldable pub register_or_later : List ℕ → Result Shown ℕ
register_or_later bytes = choice 120 register_of store_or_later bytes

unfoldable pub commit_of : List ℕ → Result Event ℕ
commit_of bytes = do
  place ← place_of bytes
  insn ← word_of 8 place.1
  shown ← unless_end nothing register_or_later insn.1
  Ok (Commit place.0.hart place.0.mode place.0.pc insn.0 shown.rd shown.st shown.dv shown.vl)

unfoldable pub exception_of : List ℕ → Result Event ℕ
exception_of bytes = do
  place ← place_of bytes
  rest ← past 32 place.1
  cause ← number_of 0 15 rest
  tval ← word_of 16 cause.1
  at_end (Exception place.0.hart place.0.mode place.0.pc cause.0 tval.0) tval.1

unfoldable pub interrupt_of : List ℕ → Result Event ℕ
interrupt_of bytes = do
  rest ← past 32 bytes
  hart ← one hart_value rest
  rest ← past 32 hart.1
  cause ← number_of 0 15 rest
  at_end (Interrupt hart.0 cause.0) cause.1

unfoldable pub host_of : List ℕ → Result Event ℕ
host_of bytes = do
  rest ← past 72 bytes
  word ← word_of 16 rest
  at_end (Host word.0) word.1

-- a whole line
unfoldable pub event_of : List ℕ → Result Event ℕ
event_of bytes = choice 67 commit_of (choice 88 exception_of (choice 73 interrupt_of host_of)) bytes
