-- What every core keeps, through its steps and through lost reservations.
use Rattle.std.proofs.Common.{◌≡◌, ◌⊎◌, inl, inr, ℕ, zero, suc, ◌<◌, ◌≤◌, ◌&&◌, ◌||◌, not, Bool, true, false, if◌then◌else◌, List, [], ◌∷◌, ◌++◌, All, length, map, set, get_or, Option, None, Some, is_some, refl, sym, ap, ap₂, subst, ◌∙◌, arith}
use Rattle.std.specs.List.{list_any}
use Rattle.std.proofs.lemmas.Bool.{or_parts}
use Rattle.std.proofs.lemmas.List.{length-map}
use Rattle.csr_file.specs.Kept.{reset_registers}
use Rattle.csr_file.specs.declared.registers.Registers.{Registers}
use Rattle.hart_step.specs.declared.hart.Hart.{Hart}
use Rattle.hart_step.specs.declared.event.Put.{Put}
use Rattle.hart_step.specs.Fit.{IsKept, IsWellFormed}
use Rattle.hart_step.specs.Harts.{CoreState, hart_of, is_in_debug, reset_hart, reset_harts}
use Rattle.hart_step.specs.Memory.{most_rom}
use Rattle.hart_step.specs.Step.{after_store, is_touched, rom_after, unreserved_hart, without_reservation}
use Rattle.hart_step.proofs.Lists.{after_length, reset_length}

-- each hart of the list has its number
abbrev pub Numbered : List Hart → Type 0
Numbered harts = (h : ℕ) → h < length harts → (get_or harts h (reset_hart 0 0)).csrs.hart ≡ h

-- ---- harts whose registers stay

-- the function leaves a hart's registers
abbrev KeepsRegisters : (Hart → Hart) → Type 0
KeepsRegisters f = (x : Hart) → (f x).csrs ≡ x.csrs

mapped_hart : (f : Hart → Hart) → KeepsRegisters f → (xs : List Hart) (h : ℕ) (d : Hart) → h < length xs → (get_or (map f xs) h d).csrs ≡ (get_or xs h d).csrs
mapped_hart f keeps [] h d within = absurd (omega arith)
mapped_hart f keeps (x ∷ xs) zero d within = keeps x
mapped_hart f keeps (x ∷ xs) (suc h) d within = mapped_hart f keeps xs h d (omega arith)

numbered_map : (f : Hart → Hart) → KeepsRegisters f → (xs : List Hart) → Numbered xs → Numbered (map f xs)
numbered_map f keeps xs numbered = λ h within.
    let inside : h < length xs = subst (λ (n : ℕ). h < n) (length-map xs f) within in
    ap (λ (r : Registers). r.hart) (mapped_hart f keeps xs h (reset_hart 0 0) inside) ∙ numbered h inside

any_map : (f : Hart → Hart) → KeepsRegisters f → (xs : List Hart) → list_any is_in_debug (map f xs) ≡ list_any is_in_debug xs
any_map f keeps [] = refl
any_map f keeps (x ∷ xs) = ap₂ (λ (a b : Bool). a || b) (ap (λ (r : Registers). is_some r.debug) (keeps x)) (any_map f keeps xs)

lost_by : (b : Bool) (x : Hart) → (if b then record x { reservation = None } else x).csrs ≡ x.csrs
lost_by true x = refl
lost_by false x = refl

pub lost_keeps : (at size : ℕ) → KeepsRegisters (without_reservation at size)
lost_keeps at size x = lost_by (is_touched at size x.reservation) x

-- ---- one hart in its place

placed : (xs : List Hart) (h : ℕ) (y : Hart) (k : ℕ) (d : Hart) → k < length xs → ((get_or (set xs h y) k d ≡ y) × (k ≡ h)) ⊎ (get_or (set xs h y) k d ≡ get_or xs k d)
placed [] h y k d within = absurd (omega arith)
placed (x ∷ xs) zero y zero d within = inl (refl, refl)
placed (x ∷ xs) zero y (suc k) d within = inr refl
placed (x ∷ xs) (suc h) y zero d within = inr refl
placed (x ∷ xs) (suc h) y (suc k) d within = elim (placed xs h y k d (omega arith)) [
  | inl here ↦ inl (here.0, ap suc here.1)
  | inr there ↦ inr there
]

set_length : (xs : List Hart) (h : ℕ) (y : Hart) → length (set xs h y) ≡ length xs
set_length xs h y = after_length None xs h y

numbered_set : (xs : List Hart) (h : ℕ) (y : Hart) → Numbered xs → y.csrs.hart ≡ h → Numbered (set xs h y)
numbered_set xs h y numbered is = λ k within.
    let inside : k < length xs = subst (λ (n : ℕ). k < n) (set_length xs h y) within in
    elim (placed xs h y k (reset_hart 0 0) inside) [
      | inl here ↦ ap (λ (z : Hart). z.csrs.hart) here.0 ∙ is ∙ sym here.1
      | inr there ↦ ap (λ (z : Hart). z.csrs.hart) there ∙ numbered k inside
    ]

-- where no hart is in debug mode after one was put in its place, that one is not, and none was before if that place
-- had none
any_set : (xs : List Hart) (h : ℕ) (y d : Hart) → h < length xs → list_any is_in_debug (set xs h y) ≡ false → (is_in_debug y ≡ false) × (is_in_debug (get_or xs h d) ≡ false → list_any is_in_debug xs ≡ false)
any_set [] h y d within none = absurd (omega arith)
any_set (x ∷ xs) zero y d within none =
    let parts = or_parts (is_in_debug y) (list_any is_in_debug xs) none in
    (parts.0, λ before. ap₂ (λ (a b : Bool). a || b) before parts.1)
any_set (x ∷ xs) (suc h) y d within none =
    let parts = or_parts (is_in_debug x) (list_any is_in_debug (set xs h y)) none in
    let rest = any_set xs h y d (omega arith) parts.1 in
    (rest.0, λ before. ap₂ (λ (a b : Bool). a || b) parts.0 (rest.1 before))

-- ---- the boot ROM

closed_after : (was now any : Bool) (rom : List ℕ) → now ≡ false → any ≡ false → (was ≡ false → rom ≡ []) → (if (was && not now) && not any then [] else rom) ≡ []
closed_after true false false rom is none before = refl
closed_after false false false rom is none before = before refl
closed_after was true any rom is none before = absurd (cc)
closed_after was false true rom is none before = absurd (cc)

room_after : (b : Bool) (rom : List ℕ) → length rom ≤ most_rom → length (if b then [] else rom) ≤ most_rom
room_after true rom most = omega arith
room_after false rom most = most

-- ---- lost reservations

numbered_after : (put : Option Put) (xs : List Hart) → Numbered xs → Numbered (after_store put xs)
numbered_after None xs numbered = numbered
numbered_after (Some put) xs numbered = numbered_map (without_reservation put.at put.size) (lost_keeps put.at put.size) xs numbered

any_after : (put : Option Put) (xs : List Hart) → list_any is_in_debug (after_store put xs) ≡ list_any is_in_debug xs
any_after None xs = refl
any_after (Some put) xs = any_map (without_reservation put.at put.size) (lost_keeps put.at put.size) xs

length_after : (put : Option Put) (xs : List Hart) → length (after_store put xs) ≡ length xs
length_after None xs = refl
length_after (Some put) xs = length-map xs (without_reservation put.at put.size)

hart_after : (put : Option Put) (xs : List Hart) (h : ℕ) → h < length xs → (get_or (after_store put xs) h (reset_hart 0 0)).csrs ≡ (get_or xs h (reset_hart 0 0)).csrs
hart_after None xs h within = refl
hart_after (Some put) xs h within = mapped_hart (without_reservation put.at put.size) (lost_keeps put.at put.size) xs h (reset_hart 0 0) within

kept_map : (core : CoreState) (f : Hart → Hart) (ram : List ℕ) → KeepsRegisters f → IsKept core → All IsWellFormed (map f core.harts) → IsKept (record { harts = map f core.harts; ram = ram; rom = core.rom })
kept_map core f ram keeps kept fit = record {
  some = subst (λ (n : ℕ). 0 < n) (sym (length-map core.harts f)) kept.some;
  most = subst (λ (n : ℕ). n ≤ 8) (sym (length-map core.harts f)) kept.most;
  harts = fit;
  numbers = numbered_map f keeps core.harts kept.numbers;
  room = kept.room;
  closed = λ none. kept.closed (sym (any_map f keeps core.harts) ∙ none);
}

-- the same where the code's list is that map, and the ROM stays
pub kept_lost : (core now : CoreState) (at size : ℕ) → IsKept core → All IsWellFormed now.harts → now.harts ≡ map (without_reservation at size) core.harts → now.rom ≡ core.rom → IsKept now
kept_lost core now at size kept fit harts rom =
    let here = kept_map core (without_reservation at size) now.ram (lost_keeps at size) kept (subst (λ (xs : List Hart). All IsWellFormed xs) harts fit) in
    subst (λ (xs : List Hart). IsKept (record { harts = xs; ram = now.ram; rom = now.rom })) (sym harts)
    (subst (λ (r : List ℕ). IsKept (record { harts = map (without_reservation at size) core.harts; ram = now.ram; rom = r })) (sym rom) here)

pub kept_unreserved : (core now : CoreState) → IsKept core → All IsWellFormed now.harts → now.harts ≡ map unreserved_hart core.harts → now.rom ≡ core.rom → IsKept now
kept_unreserved core now kept fit harts rom =
    let here = kept_map core unreserved_hart now.ram (λ x. refl) kept (subst (λ (xs : List Hart). All IsWellFormed xs) harts fit) in
    subst (λ (xs : List Hart). IsKept (record { harts = xs; ram = now.ram; rom = now.rom })) (sym harts)
    (subst (λ (r : List ℕ). IsKept (record { harts = map unreserved_hart core.harts; ram = now.ram; rom = r })) (sym rom) here)

-- ---- a step

step_closed : (core : CoreState) (put : Option Put) (h : ℕ) (before after : Hart) → IsKept core → h < length core.harts → before ≡ hart_of core h → list_any is_in_debug (set (after_store put core.harts) h after) ≡ false → rom_after before after (set (after_store put core.harts) h after) core.rom ≡ []
step_closed core put h before after kept within is none =
    let inside : h < length (after_store put core.harts) = subst (λ (n : ℕ). h < n) (sym (length_after put core.harts)) within in
    let both = any_set (after_store put core.harts) h after (reset_hart 0 0) inside none in
    closed_after (is_in_debug before) (is_in_debug after) (list_any is_in_debug (set (after_store put core.harts) h after)) core.rom both.0 none
    (λ was. kept.closed (sym (any_after put core.harts) ∙ both.1 (ap (λ (r : Registers). is_some r.debug) (hart_after put core.harts h within) ∙ sym (ap is_in_debug is) ∙ was)))

pub kept_step : (core now : CoreState) (put : Option Put) (h : ℕ) (before after : Hart) → IsKept core → h < length core.harts → before ≡ hart_of core h → after.csrs.hart ≡ before.csrs.hart → All IsWellFormed now.harts → now.harts ≡ set (after_store put core.harts) h after → now.rom ≡ rom_after before after now.harts core.rom → IsKept now
kept_step core now put h before after kept within is number fit harts rom =
    let long : length now.harts ≡ length core.harts = ap (λ (xs : List Hart). length xs) harts ∙ after_length put core.harts h after in
    record {
      some = subst (λ (n : ℕ). 0 < n) (sym long) kept.some;
      most = subst (λ (n : ℕ). n ≤ 8) (sym long) kept.most;
      harts = fit;
      numbers = subst (λ (xs : List Hart). Numbered xs) (sym harts)
          (numbered_set (after_store put core.harts) h after (numbered_after put core.harts kept.numbers)
          (number ∙ ap (λ (x : Hart). x.csrs.hart) is ∙ kept.numbers h within));
      room = subst (λ (r : List ℕ). length r ≤ most_rom) (sym rom) (room_after _ core.rom kept.room);
      closed = λ none.
          rom ∙ ap (λ (xs : List Hart). rom_after before after xs core.rom) harts
          ∙ step_closed core put h before after kept within is (sym (ap (list_any is_in_debug) harts) ∙ none);
    }

-- ---- reset

appended : (xs : List Hart) (y : Hart) (h : ℕ) (d : Hart) → h < length (xs ++ y ∷ []) → ((h < length xs) × (get_or (xs ++ y ∷ []) h d ≡ get_or xs h d)) ⊎ ((h ≡ length xs) × (get_or (xs ++ y ∷ []) h d ≡ y))
appended [] y zero d within = inr (refl, refl)
appended [] y (suc h) d within = absurd (omega (arith, within))
appended (x ∷ xs) y zero d within = inl (omega arith, refl)
appended (x ∷ xs) y (suc h) d within = elim (appended xs y h d (omega (arith, within))) [
  | inl before ↦ inl (let less = before.0 in omega (arith, less), before.1)
  | inr last ↦ inr (ap suc last.0, last.1)
]

pub numbered_more : (xs : List Hart) (y : Hart) → Numbered xs → y.csrs.hart ≡ length xs → Numbered (xs ++ y ∷ [])
numbered_more xs y numbered is = λ h within. elim (appended xs y h (reset_hart 0 0) within) [
  | inl before ↦ ap (λ (z : Hart). z.csrs.hart) before.1 ∙ numbered h before.0
  | inr last ↦ ap (λ (z : Hart). z.csrs.hart) last.1 ∙ is ∙ sym last.0
]

reset_number : (h entry : ℕ) → (reset_hart h entry).csrs.hart ≡ h
unfolding reset_registers
reset_number h entry = refl

numbered_resets : (n entry : ℕ) → Numbered (reset_harts n entry)
unfolding reset_harts
numbered_resets zero entry = λ h within. absurd (omega (arith, within))
numbered_resets (suc n) entry =
    numbered_more (reset_harts n entry) (reset_hart n entry) (numbered_resets n entry) (reset_number n entry ∙ sym (reset_length n entry))

pub kept_reset : (n entry : ℕ) (core : CoreState) → 0 < n → n ≤ 8 → All IsWellFormed core.harts → core.harts ≡ reset_harts n entry → core.rom ≡ [] → IsKept core
kept_reset n entry core some most fit harts rom =
    let long : length core.harts ≡ n = ap (λ (xs : List Hart). length xs) harts ∙ reset_length n entry in
    record {
      some = subst (λ (m : ℕ). 0 < m) (sym long) some;
      most = subst (λ (m : ℕ). m ≤ 8) (sym long) most;
      harts = fit;
      numbers = subst (λ (xs : List Hart). Numbered xs) (sym harts) (numbered_resets n entry);
      room = subst (λ (r : List ℕ). length r ≤ most_rom) (sym rom) (omega arith);
      closed = λ none. rom;
    }
