-- Reading the line of an event gives the event.
use Rattle.std.proofs.Common.{◌≡◌, ℕ, zero, suc, ◌+◌, ◌*◌, ◌/◌, ◌%◌, ◌^◌, ◌<◌, ◌≤◌, ◌⊎◌, inl, inr, List, [], ◌∷◌, ◌++◌, Option, Some, None, Ok, refl, sym, ap, ◌∙◌, append_assoc, arith}
use Rattle.std.proofs.lemmas.Bool.Decides.{nat_tests}
use Rattle.std.proofs.lemmas.Bool.{cases_lt}
use Rattle.std.proofs.lemmas.List.{append-nil}
use Rattle.std.proofs.lemmas.Nat.{div-add-mod', pow_pos}
use Rattle.std.proofs.Math.Nat.{div-lt_iff_lt-mul}
use Rattle.hart_step.specs.declared.event.Event.{Event}
use Rattle.hart_step.specs.declared.event.Event.TheVariants.{Commit, Exception, Interrupt, Host}
use Rattle.hart_step.specs.declared.event.Priv.{Priv}
use Rattle.hart_step.specs.declared.event.Priv.TheVariants.{U, S, M, D}
use Rattle.hart_step.specs.declared.event.Put.{Put}
use Rattle.hart_step.specs.Events.{IsStored}
use Rattle.commit_log.specs.declared.commit.Shown.{Shown}
use Rattle.guest_ram.specs.Bytes.{IsSize}
use Rattle.commit_log.specs.Spelling.{answer_part, hex, hex_digit, IsOptionalWord, IsSpellable, IsStoredAt, line, mode_letter, number, place, register_part, store_part, volatile_part, word}
use Rattle.commit_log.specs.Reading.{answer_of, answer_or_later, at_end, choice, commit_of, digits_of, event_of, exception_of, first_value, hart_value, hex_value, host_of, interrupt_of, mode_value, nothing, number_of, one, past, place_of, register_of, register_or_later, second_value, size_value, store_of, store_or_later, unless_end, volatile_of, with_second, word_of}
use Rattle.commit_log.proofs.Grammar.{AreInRange, parts_of}
use Rattle.commit_log.proofs.ReadDigits.{sixteen_times}
use Rattle.commit_log.proofs.SteadyParts.{hex_more, number_one, number_two, places_join}

-- ---- characters and numbers

hart_back : (hart : ℕ) → hart < 8 → hart_value (48 + hart) ≡ Some hart
hart_back hart small = grind (arith, nat_tests)

mode_back : (mode : Priv) → mode_value (mode_letter mode) ≡ Some mode
mode_back U = refl
mode_back S = refl
mode_back M = refl
mode_back D = refl

size_back : (size : ℕ) → IsSize size → size_value (48 + size) ≡ Some size
size_back size is = elim is [
  | inl one ↦ rw one refl
  | inr more ↦ elim more [ inl two ↦ rw two refl | inr more ↦ elim more [ inl four ↦ rw four refl | inr eight ↦ rw eight refl ] ]
]

digit_back : (d : ℕ) → d < 16 → hex_value (hex_digit d) ≡ Some d
digit_back d small = grind (arith, nat_tests)

one_back : {A : Type 0} (meaning : ℕ → Option A) (c : ℕ) (a : A) (rest : List ℕ) → meaning c ≡ Some a → one meaning (c ∷ rest) ≡ Ok (a, rest)
unfolding one
one_back meaning c a rest e = rw e refl

digits_step : (n value d : ℕ) (rest : List ℕ) → d < 16 → digits_of (suc n) value (hex_digit d ∷ rest) ≡ digits_of n (16 * value + d) rest
unfolding digits_of
digits_step n value d rest small = rw (one_back hex_value (hex_digit d) d rest (digit_back d small)) refl

digits_none : (value v : ℕ) (rest : List ℕ) → v < 2 ^ (4 * zero) → digits_of zero value (hex zero v ++ rest) ≡ Ok (value * 2 ^ (4 * zero) + v, rest)
unfolding digits_of hex
digits_none value v rest below = let e : value ≡ value * 1 + v = omega arith in ap (λ (n : ℕ). Ok (n, rest)) e

hex_parts : (n v : ℕ) → v < 2 ^ (4 * suc n) → (v / 2 ^ (4 * n) < 16) × (v % 2 ^ (4 * n) < 2 ^ (4 * n)) × (v / 2 ^ (4 * n) * 2 ^ (4 * n) + v % 2 ^ (4 * n) ≡ v)
hex_parts n v below =
    let positive : zero < 2 ^ (4 * n) = pow_pos (4 * n) in
    let within : v < 16 * 2 ^ (4 * n) = rw sixteen_times at below in
    ((div-lt_iff_lt-mul positive).1 within, omega (arith, positive), div-add-mod' v (2 ^ (4 * n)))

digits_back : (n value v : ℕ) (rest : List ℕ) → v < 2 ^ (4 * n) → digits_of n value (hex n v ++ rest) ≡ Ok (value * 2 ^ (4 * n) + v, rest)
digits_back zero value v rest below = digits_none value v rest below
digits_back (suc n) value v rest below =
    let t = hex_parts n v below in
    let q : ℕ = v / 2 ^ (4 * n) in
    let w : ℕ = v % 2 ^ (4 * n) in
    let spelled : hex (suc n) v ≡ hex_digit q ∷ hex n w = ap (λ (x : ℕ). hex (suc n) x) (sym t.2) ∙ hex_more n q w t.0 t.1 in
    ap (λ (ys : List ℕ). digits_of (suc n) value (ys ++ rest)) spelled
    ∙ digits_step n value q (hex n w ++ rest) t.0
    ∙ digits_back n (16 * value + q) w rest t.1
    ∙ ap (λ (x : ℕ). Ok (x, rest)) (sym (places_join n value q w) ∙ ap (λ (x : ℕ). value * 2 ^ (4 * suc n) + x) t.2)

word_back : (n v : ℕ) (rest : List ℕ) → v < 2 ^ (4 * n) → word_of n (word n v ++ rest) ≡ Ok (v, rest)
unfolding word_of word past
word_back n v rest below = let e : 0 * 2 ^ (4 * n) + v ≡ v = omega arith in digits_back n 0 v rest below ∙ ap (λ (n : ℕ). Ok (n, rest)) e

-- no digit stands first
abbrev IsQuiet : List ℕ → Type 0
IsQuiet [] = Unit {0}
IsQuiet (c ∷ rest) = (c < 48) ⊎ (57 < c)

quiet_back : (d high : ℕ) (rest : List ℕ) → IsQuiet rest → with_second d high rest ≡ (d, rest)
unfolding with_second
quiet_back d high [] quiet = refl
quiet_back d high (c ∷ rest) quiet =
    let none : second_value d high c ≡ None = grind (arith, nat_tests) in
    rw none refl

first_back : (low d : ℕ) → low ≤ d → d < 10 → first_value low (48 + d) ≡ Some d
first_back low d at_least small = grind (arith, nat_tests)

second_back : (d high r : ℕ) → 0 < d → r < 10 → 10 * d + r ≤ high → second_value d high (48 + r) ≡ Some (10 * d + r)
second_back d high r above small within = grind (arith, nat_tests)

number_step : (low high d : ℕ) (rest : List ℕ) → low ≤ d → d < 10 → number_of low high ((48 + d) ∷ rest) ≡ Ok (with_second d high rest)
unfolding number_of
number_step low high d rest at_least small = rw (one_back (first_value low) (48 + d) d rest (first_back low d at_least small)) refl

second_step : (d high r : ℕ) (rest : List ℕ) → 0 < d → r < 10 → 10 * d + r ≤ high → with_second d high ((48 + r) ∷ rest) ≡ (10 * d + r, rest)
unfolding with_second
second_step d high r rest above small within = rw (second_back d high r above small within) refl

number_back : (low high n : ℕ) (rest : List ℕ) → low ≤ 1 → low ≤ n → n ≤ high → n < 100 → IsQuiet rest → number_of low high (number n ++ rest) ≡ Ok (n, rest)
number_back low high n rest little at_least at_most small quiet = elim (cases_lt n 10) [
  | inl one ↦
      ap (λ (ys : List ℕ). number_of low high (ys ++ rest)) (number_one n one)
      ∙ number_step low high n rest at_least one
      ∙ ap (λ (p : ℕ × List ℕ). Ok p) (quiet_back n high rest quiet)
  | inr two ↦
      let d : ℕ = n / 10 in
      let r : ℕ = n % 10 in
      let joined : d * 10 + r ≡ n = omega arith in
      let above : 0 < d = omega arith in
      let whole : 10 * d + r ≡ n = omega arith in
      ap (λ (ys : List ℕ). number_of low high (ys ++ rest)) (ap (λ (x : ℕ). number x) (sym joined) ∙ number_two d r above (omega arith))
      ∙ number_step low high d ((48 + r) ∷ rest) (omega arith) (omega arith)
      ∙ ap (λ (p : ℕ × List ℕ). Ok p) (second_step d high r rest above (omega arith) (omega arith))
      ∙ ap (λ (x : ℕ). Ok (x, rest)) whole
]

place_back : (hart : ℕ) (mode : Priv) (pc : ℕ) (rest : List ℕ) → hart < 8 → pc < 2 ^ 64 → place_of (place hart mode pc ++ rest) ≡ Ok (record { hart = hart; mode = mode; pc = pc }, rest)
unfolding place_of place past
place_back hart mode pc rest small below =
    rw (one_back hart_value (48 + hart) hart (32 ∷ mode_letter mode ∷ (word 16 pc ++ rest)) (hart_back hart small), one_back mode_value (mode_letter mode) mode (word 16 pc ++ rest) (mode_back mode), word_back 16 pc rest below) refl

-- ---- the parts of a commit that may be absent

skip_answer : (vl : Option ℕ) → unless_end nothing answer_or_later (volatile_part vl) ≡ unless_end nothing volatile_of (volatile_part vl)
unfolding unless_end answer_or_later choice past
skip_answer None = refl
skip_answer (Some v) = refl

skip_store : (dv vl : Option ℕ) → unless_end nothing store_or_later (answer_part dv ++ volatile_part vl) ≡ unless_end nothing answer_or_later (answer_part dv ++ volatile_part vl)
unfolding unless_end store_or_later choice past
skip_store None None = refl
skip_store None (Some v) = refl
skip_store (Some v) vl = refl

skip_register : (st : Option Put) (dv vl : Option ℕ) → unless_end nothing register_or_later (store_part st ++ (answer_part dv ++ volatile_part vl)) ≡ unless_end nothing store_or_later (store_part st ++ (answer_part dv ++ volatile_part vl))
unfolding unless_end register_or_later choice past
skip_register None None None = refl
skip_register None None (Some v) = refl
skip_register None (Some v) vl = refl
skip_register (Some st) dv vl = refl

volatile_back : (vl : Option ℕ) → IsOptionalWord vl → unless_end nothing volatile_of (volatile_part vl) ≡ Ok (record nothing { vl = vl })
unfolding unless_end volatile_of past at_end
volatile_back None ok = refl
volatile_back (Some v) ok =
    let whole : word 16 v ≡ word 16 v ++ [] = sym (append-nil (word 16 v)) in
    rw (whole, word_back 16 v [] ok) refl

answer_back : (dv vl : Option ℕ) → IsOptionalWord dv → IsOptionalWord vl → unless_end nothing answer_or_later (answer_part dv ++ volatile_part vl) ≡ Ok (record nothing { dv = dv; vl = vl })
unfolding unless_end answer_or_later answer_of choice past
answer_back None vl ok later = skip_answer vl ∙ volatile_back vl later
answer_back (Some v) vl ok later = rw (word_back 16 v (volatile_part vl) ok, volatile_back vl later) refl

size_fits : (size value : ℕ) → IsSize size → value < 256 ^ size → value < 2 ^ (4 * (2 * size))
size_fits size value is below = elim is [
  | inl one ↦ rw one (rw one at below)
  | inr more ↦ elim more [
    | inl two ↦ rw two (rw two at below)
    | inr more ↦ elim more [ inl four ↦ rw four (rw four at below) | inr eight ↦ rw eight (rw eight at below) ]
  ]
]

store_spelled : (st : Put) (rest : List ℕ) → store_part (Some st) ++ rest ≡ 32 ∷ 115 ∷ 116 ∷ (word 16 st.at ++ (32 ∷ (48 + st.size) ∷ (word (2 * st.size) st.value ++ rest)))
store_spelled st rest = ap (λ (ys : List ℕ). 32 ∷ 115 ∷ 116 ∷ ys) (append_assoc (word 16 st.at) (32 ∷ (48 + st.size) ∷ word (2 * st.size) st.value) rest)

store_read : (st : Put) (dv vl : Option ℕ) → IsSize st.size → st.value < 256 ^ st.size → st.at < 2 ^ 64 → IsOptionalWord dv → IsOptionalWord vl → store_of (116 ∷ (word 16 st.at ++ (32 ∷ (48 + st.size) ∷ (word (2 * st.size) st.value ++ (answer_part dv ++ volatile_part vl))))) ≡ Ok (record nothing { st = Some st; dv = dv; vl = vl })
unfolding store_of past
store_read st dv vl size below far ok later =
    rw (word_back 16 st.at (32 ∷ (48 + st.size) ∷ (word (2 * st.size) st.value ++ (answer_part dv ++ volatile_part vl))) far, one_back size_value (48 + st.size) st.size (word (2 * st.size) st.value ++ (answer_part dv ++ volatile_part vl)) (size_back st.size size), word_back (2 * st.size) st.value (answer_part dv ++ volatile_part vl) (size_fits st.size st.value size below), answer_back dv vl ok later) refl

store_step : (xs : List ℕ) → unless_end nothing store_or_later (32 ∷ 115 ∷ xs) ≡ store_of xs
unfolding unless_end store_or_later choice past
store_step xs = refl

store_back : (st : Option Put) (dv vl : Option ℕ) → IsStored st → IsStoredAt st → IsOptionalWord dv → IsOptionalWord vl → unless_end nothing store_or_later (store_part st ++ (answer_part dv ++ volatile_part vl)) ≡ Ok (record nothing { st = st; dv = dv; vl = vl })
store_back None dv vl good far ok later = skip_store dv vl ∙ answer_back dv vl ok later
store_back (Some st) dv vl good far ok later =
    ap (λ (ys : List ℕ). unless_end nothing store_or_later ys) (store_spelled st (answer_part dv ++ volatile_part vl))
    ∙ store_step (116 ∷ (word 16 st.at ++ (32 ∷ (48 + st.size) ∷ (word (2 * st.size) st.value ++ (answer_part dv ++ volatile_part vl)))))
    ∙ store_read st dv vl good.0 good.1 far ok later

register_spelled : (n v : ℕ) (rest : List ℕ) → register_part (Some (n, v)) ++ rest ≡ 32 ∷ 120 ∷ (number n ++ (word 16 v ++ rest))
register_spelled n v rest = ap (λ (ys : List ℕ). 32 ∷ 120 ∷ ys) (append_assoc (number n) (word 16 v) rest)

quiet_word : (n v : ℕ) (rest : List ℕ) → IsQuiet (word n v ++ rest)
unfolding word
quiet_word n v rest = inl (omega arith)

register_read : (n v : ℕ) (rest : List ℕ) (shown : Shown) → 1 ≤ n → n ≤ 31 → v < 2 ^ 64 → unless_end nothing store_or_later rest ≡ Ok shown → register_of (number n ++ (word 16 v ++ rest)) ≡ Ok (record shown { rd = Some (n, v) })
unfolding register_of
register_read n v rest shown low high below later =
    rw (number_back 1 31 n (word 16 v ++ rest) (omega arith) low high (omega arith) (quiet_word 16 v rest), word_back 16 v rest below, later) refl

register_step : (xs : List ℕ) → unless_end nothing register_or_later (32 ∷ 120 ∷ xs) ≡ register_of xs
unfolding unless_end register_or_later choice past
register_step xs = refl

register_back : (rd : Option (ℕ × ℕ)) (st : Option Put) (dv vl : Option ℕ) → AreInRange (record { rd = rd; st = st; dv = dv; vl = vl }) → unless_end nothing register_or_later (register_part rd ++ (store_part st ++ (answer_part dv ++ volatile_part vl))) ≡ Ok (record { rd = rd; st = st; dv = dv; vl = vl })
register_back None st dv vl ranges = skip_register st dv vl ∙ store_back st dv vl ranges.store ranges.stored ranges.answer ranges.volatile
register_back (Some rd) st dv vl ranges =
    let rest : List ℕ = store_part st ++ (answer_part dv ++ volatile_part vl) in
    ap (λ (ys : List ℕ). unless_end nothing register_or_later ys) (register_spelled rd.0 rd.1 rest)
    ∙ register_step (number rd.0 ++ (word 16 rd.1 ++ rest))
    ∙ register_read rd.0 rd.1 rest (record nothing { st = st; dv = dv; vl = vl }) ranges.register.0 ranges.register.1 ranges.written
    (store_back st dv vl ranges.store ranges.stored ranges.answer ranges.volatile)

parts_back : (t : Shown) → AreInRange t → unless_end nothing register_or_later (parts_of t) ≡ Ok t
parts_back t ranges = register_back t.rd t.st t.dv t.vl ranges

commit_back : (hart : ℕ) (mode : Priv) (pc insn : ℕ) (t : Shown) → hart < 8 → pc < 2 ^ 64 → insn < 2 ^ 32 → AreInRange t → commit_of (place hart mode pc ++ (word 8 insn ++ parts_of t)) ≡ Ok (Commit hart mode pc insn t.rd t.st t.dv t.vl)
unfolding commit_of
commit_back hart mode pc insn t small far below ranges =
    rw (place_back hart mode pc (word 8 insn ++ parts_of t) small far, word_back 8 insn (parts_of t) below, parts_back t ranges) refl

exception_back : (hart : ℕ) (mode : Priv) (pc cause tval : ℕ) → hart < 8 → pc < 2 ^ 64 → cause < 16 → tval < 2 ^ 64 → exception_of (place hart mode pc ++ (32 ∷ (number cause ++ word 16 tval))) ≡ Ok (Exception hart mode pc cause tval)
unfolding exception_of past at_end
exception_back hart mode pc cause tval small far within below =
    let whole : word 16 tval ≡ word 16 tval ++ [] = sym (append-nil (word 16 tval)) in
    rw (whole, place_back hart mode pc (32 ∷ (number cause ++ (word 16 tval ++ []))) small far, number_back 0 15 cause (word 16 tval ++ []) (omega arith) (omega arith) (omega arith) (omega arith) (quiet_word 16 tval []), word_back 16 tval [] below) refl

interrupt_back : (hart cause : ℕ) → hart < 8 → cause < 16 → interrupt_of (32 ∷ (48 + hart) ∷ 32 ∷ number cause) ≡ Ok (Interrupt hart cause)
unfolding interrupt_of past at_end
interrupt_back hart cause small within =
    let whole : number cause ≡ number cause ++ [] = sym (append-nil (number cause)) in
    rw (whole, one_back hart_value (48 + hart) hart (32 ∷ (number cause ++ [])) (hart_back hart small), number_back 0 15 cause [] (omega arith) (omega arith) (omega arith) (omega arith) tt) refl

host_back : (v : ℕ) → v < 2 ^ 64 → host_of (72 ∷ word 16 v) ≡ Ok (Host v)
unfolding host_of past at_end
host_back v below =
    let whole : word 16 v ≡ word 16 v ++ [] = sym (append-nil (word 16 v)) in
    rw (whole, word_back 16 v [] below) refl

pub event_back : (e : Event) → IsSpellable e → event_of (line e) ≡ Ok e
unfolding event_of choice line
event_back (Commit hart mode pc insn rd st dv vl) ok =
    commit_back hart mode pc insn (record { rd = rd; st = st; dv = dv; vl = vl }) ok.0.0 ok.1.0 ok.1.1
    (record { register = ok.0.1; store = ok.0.2; written = ok.1.2; stored = ok.1.3; answer = ok.1.4; volatile = ok.1.5 })
event_back (Exception hart mode pc cause tval) ok = exception_back hart mode pc cause tval ok.0.0 ok.1.0 ok.0.1 ok.1.1
event_back (Interrupt hart cause) ok = interrupt_back hart cause ok.0.0 ok.0.1
event_back (Host v) ok = host_back v ok.1
