-- The line of a record: how an event is spelled, as a list of character codes, without a newline. The grammar is
-- this project's own.
use Rattle.std.specs.Prelude.{ℕ, zero, suc, ◌+◌, ◌*◌, ◌/◌, ◌%◌, ◌^◌, ◌<◌, List, [], ◌∷◌, ◌++◌, codes, Option, Some, None, nat_lt, if◌then◌else◌}
use Rattle.hart_step.specs.declared.event.Event.{Event}
use Rattle.hart_step.specs.declared.event.Event.TheVariants.{Commit, Exception, Interrupt, Host}
use Rattle.hart_step.specs.declared.event.Priv.{Priv}
use Rattle.hart_step.specs.declared.event.Priv.TheVariants.{U, S, M, D}
use Rattle.hart_step.specs.declared.event.Put.{Put}
use Rattle.hart_step.specs.Events.{IsEvent}

-- a lower-case hexadecimal digit
abbrev pub hex_digit : ℕ → ℕ
hex_digit d = if nat_lt d 10 then 48 + d else 87 + d

-- the n lowest hexadecimal digits of a number, the highest of them first
unfoldable pub hex : ℕ → ℕ → List ℕ
hex zero v = []
hex (suc n) v = hex_digit (v / 2 ^ (4 * n) % 16) ∷ hex n v

-- a space, and a number in n hexadecimal digits
unfoldable pub word : ℕ → ℕ → List ℕ
word n v = 32 ∷ hex n v

-- a number below 100 in decimal digits, with no leading zero
unfoldable pub number : ℕ → List ℕ
number n = if nat_lt n 10 then (48 + n) ∷ [] else (48 + n / 10) ∷ (48 + n % 10) ∷ []

abbrev pub mode_letter : Priv → ℕ
mode_letter U = 85
mode_letter S = 83
mode_letter M = 77
mode_letter D = 68

-- the hart, the mode and the pc, each after a space
unfoldable pub place : ℕ → Priv → ℕ → List ℕ
place hart mode pc = 32 ∷ (48 + hart) ∷ 32 ∷ mode_letter mode ∷ word 16 pc

-- the parts of a commit that may be absent, each after a space: the register that was written,
abbrev pub register_part : Option (ℕ × ℕ) → List ℕ
register_part None = []
register_part (Some rd) = codes " x" ++ (number rd.0 ++ word 16 rd.1)

-- the store, whose value has two digits for each byte,
abbrev pub store_part : Option Put → List ℕ
store_part None = []
store_part (Some st) = codes " st" ++ (word 16 st.at ++ (32 ∷ (48 + st.size) ∷ word (2 * st.size) st.value))

-- what a device answered,
abbrev pub answer_part : Option ℕ → List ℕ
answer_part None = []
answer_part (Some v) = codes " dv" ++ word 16 v

-- and what a volatile register read as
abbrev pub volatile_part : Option ℕ → List ℕ
volatile_part None = []
volatile_part (Some v) = codes " vl" ++ word 16 v

-- the line
unfoldable pub line : Event → List ℕ
line (Commit hart mode pc insn rd st dv vl) =
    67 ∷ (place hart mode pc ++ (word 8 insn ++ (register_part rd ++ (store_part st ++ (answer_part dv ++ volatile_part vl)))))
line (Exception hart mode pc cause tval) = 88 ∷ (place hart mode pc ++ (32 ∷ (number cause ++ word 16 tval)))
line (Interrupt hart cause) = 73 ∷ 32 ∷ (48 + hart) ∷ 32 ∷ number cause
line (Host v) = 72 ∷ word 16 v

-- ---- which events have a spelling

-- Every event that is well formed has one, since its other fields are words of the width of their type. Where the event
-- of a clause ranges over all numbers, these words are in range too.
abbrev pub IsWord : ℕ → Type 0
IsWord v = v < 2 ^ 64

abbrev pub IsOptionalWord : Option ℕ → Type 0
IsOptionalWord None = Unit {0}
IsOptionalWord (Some v) = IsWord v

abbrev pub IsWrittenWord : Option (ℕ × ℕ) → Type 0
IsWrittenWord None = Unit {0}
IsWrittenWord (Some rd) = IsWord rd.1

abbrev pub IsStoredAt : Option Put → Type 0
IsStoredAt None = Unit {0}
IsStoredAt (Some st) = IsWord st.at

abbrev pub HasWords : Event → Type 0
HasWords (Commit hart mode pc insn rd st dv vl) =
    IsWord pc × (insn < 2 ^ 32) × IsWrittenWord rd × IsStoredAt st × IsOptionalWord dv × IsOptionalWord vl
HasWords (Exception hart mode pc cause tval) = IsWord pc × IsWord tval
HasWords (Interrupt hart cause) = Unit {0}
HasWords (Host v) = IsWord v

-- an event as the program has it, with a spelling
abbrev pub IsSpellable : Event → Type 0
IsSpellable e = IsEvent e × HasWords e
