-- What a slot answers for the addresses of its page.
use Rattle.std.proofs.Common.{◌≡◌, ℕ, zero, suc, ◌+◌, ◌-◌, ◌*◌, ◌/◌, ◌%◌, ◌^◌, ◌<◌, ◌≤◌, ◌==◌, Bool, true, false, List, length, slice_index_or, ap, ap₂, sym, ◌∙◌, subst, arith, if◌then◌else◌, Ok}
use Rattle.std.specs.Prelude.{IsTrue}
use Rattle.rv_alu.specs.Arithmetic.{bits_of}
use Rattle.rv_alu.specs.declared.Mode.{Mode}
use Rattle.sv39_walk.specs.declared.Kind.{Kind}
use Rattle.sv39_walk.specs.declared.slots.Slot.{Slot}
use Rattle.sv39_walk.specs.Entry.{address_in, is_accessed, is_aligned, is_leaf, page_of, permits, permits_kind, permits_mode}
use Rattle.sv39_walk.specs.Plain.{arrived, translated, walked}
use Rattle.sv39_walk.specs.Remembered.{Agrees, IsWalked}
use Rattle.sv39_walk.specs.Slots.{AreKept, Holds, IsKept, IsOpen, IsPlace, LeadsTo, known_in, known_of}
use Rattle.sv39_walk.specs.Walk.{is_bare, is_canonical, is_untranslated, root_of}
use Rattle.sv39_walk.proofs.Answered.{known_walked}
use Rattle.sv39_walk.proofs.Known.{all_slots}
use Rattle.sv39_walk.proofs.Places.{place_kept}

-- a register that is not bare is not 0
pub is_filled : (satp : ℕ) → is_bare satp ≡ false → satp ≡ 0 → ⊥
is_filled satp translated none = let bare : is_bare satp ≡ true = rw none in cc

-- ---- the walk of a slot

-- what a slot holds is walked so, by a memory that agrees
held_walked : (ram : List ℕ) (slots : List Slot) (i : ℕ) (d : Slot) → Agrees (known_in slots) ram → i < length slots → ((slice_index_or slots i d).satp ≡ 0 → ⊥) → IsWalked ram (known_of (slice_index_or slots i d))
held_walked ram slots i d agrees within filled = all_slots (IsWalked ram) slots agrees i d within filled

pub slot_walked : (ram : List ℕ) (tables : List Bool) (slots : List Slot) (i : ℕ) (d : Slot) (satp va : ℕ) → Agrees (known_in slots) ram → AreKept tables slots → i < length slots → Holds (slice_index_or slots i d) (root_of satp) (va / 4096) → (mode : Mode) (sum mxr : Bool) (kind : Kind) → walked ram mode sum mxr kind va 3 (root_of satp) ≡ arrived mode sum mxr kind va (3 - (slice_index_or slots i d).found.count) (slice_index_or slots i d).found.leaf
slot_walked ram tables slots i d satp va agrees kept within (filled, root, page) = λ mode sum mxr kind.
    let s : Slot = slice_index_or slots i d in
    ap (λ (r : ℕ). walked ram mode sum mxr kind va 3 r) (sym root)
    ∙ known_walked ram s.satp s.page s.found va (held_walked ram slots i d agrees within filled) (kept i d within filled).most page mode sum mxr kind

-- ---- pages

same_canonical : (va other : ℕ) → va / 4096 ≡ other / 4096 → is_canonical va ≡ is_canonical other
same_canonical va other same =
    let high : bits_of va 39 25 ≡ bits_of other 39 25 = omega arith in
    let top : va / 2 ^ 38 % 2 ≡ other / 2 ^ 38 % 2 = omega arith in
    ap₂ (λ (h t : ℕ). h == (if t == 1 then 2 ^ 25 - 1 else 0)) high top

-- the place of one address of a page in its page, by that of another
other_place : (level leaf page other : ℕ) → level ≤ 2 → page ≡ other / 4096 → address_in level leaf other ≡ address_in level leaf (page * 4096) + other % 4096
other_place zero leaf page other within is = omega arith
other_place (suc zero) leaf page other within is = omega arith
other_place (suc (suc zero)) leaf page other within is = omega arith
other_place (suc (suc (suc n))) leaf page other within is = absurd (omega arith)

-- the base of a page is the place of its first address
pub first_place : (satp va pa page leaf level : ℕ) → level ≤ 2 → page ≡ va / 4096 → IsPlace satp va pa leaf level → IsPlace satp (page * 4096) (pa - pa % 4096) leaf level
first_place satp va pa page leaf level within is place =
    let moved : address_in level leaf va ≡ address_in level leaf (page * 4096) + va % 4096 = other_place level leaf page va within is in
    let start : address_in level leaf (page * 4096) % 4096 ≡ page * 4096 % 4096 = place_kept (page_of leaf) level (page * 4096) within in
    let pa_is = place.address in
    record {
      translated = place.translated;
      canonical = subst (λ (b : Bool). IsTrue b) (same_canonical va (page * 4096) (omega arith)) place.canonical;
      aligned = place.aligned;
      accessed = place.accessed;
      address = omega arith;
    }

permitted : (mode : Mode) (sum mxr : Bool) (kind : Kind) (level leaf : ℕ) → is_leaf leaf ≡ true → is_aligned level leaf ≡ true → is_accessed leaf ≡ true → permits_kind mxr kind leaf ≡ true → permits_mode mode sum kind leaf ≡ true → permits mode sum mxr kind level leaf ≡ true
permitted mode sum mxr kind level leaf a b c d e = rw (a, b, c, d, e)

pub page_leads : (ram : List ℕ) (tables : List Bool) (slots : List Slot) (i : ℕ) (d : Slot) (satp va : ℕ) (mode : Mode) (kind : Kind) → Agrees (known_in slots) ram → AreKept tables slots → i < length slots → ((slice_index_or slots i d).satp ≡ 0 → ⊥) → (slice_index_or slots i d).satp ≡ satp → (slice_index_or slots i d).page ≡ va / 4096 → IsOpen mode kind (slice_index_or slots i d).found.leaf → LeadsTo ram satp mode kind va (slice_index_or slots i d).base
unfolding translated
page_leads ram tables slots i d satp va mode kind agrees kept within filled satp_is page opens = λ sum mxr other same.
    let s : Slot = slice_index_or slots i d in
    let has : IsKept tables i s = kept i d within filled in
    let known : IsWalked ram (known_of s) = held_walked ram slots i d agrees within filled in
    let level : ℕ = 3 - s.found.count in
    let some = has.some in
    let page_is : s.page ≡ other / 4096 = page ∙ sym same in
    let there : walked ram mode sum mxr kind other 3 (root_of satp) ≡ arrived mode sum mxr kind other level s.found.leaf = slot_walked ram tables slots i d satp other agrees kept within (filled, ap root_of satp_is, page_is) mode sum mxr kind in
    let bare : is_untranslated satp mode ≡ false = opens.below satp ∙ ap is_bare (sym satp_is) ∙ has.place.translated in
    let canonical : is_canonical other ≡ true = same_canonical other (s.page * 4096) (omega arith) ∙ has.place.canonical in
    let may : permits mode sum mxr kind level s.found.leaf ≡ true = permitted mode sum mxr kind level s.found.leaf known.leaf_ends has.place.aligned has.place.accessed (opens.kind_may mxr) (opens.mode_may sum) in
    let at : address_in level s.found.leaf other ≡ s.base + other % 4096 = other_place level s.found.leaf s.page other (omega arith) page_is ∙ ap (λ (b : ℕ). b + other % 4096) (sym has.place.address) in
    rw (bare, canonical) (there ∙ rw may (ap Ok at))

-- a page begins at a multiple of its size, below 2^63
base_bounds : (level leaf page base : ℕ) → level ≤ 2 → base ≡ address_in level leaf (page * 4096) → (base % 4096 ≡ 0) × (base < 2 ^ 63)
base_bounds zero leaf page base within is = (omega arith, omega arith)
base_bounds (suc zero) leaf page base within is = (omega arith, omega arith)
base_bounds (suc (suc zero)) leaf page base within is = (omega arith, omega arith)
base_bounds (suc (suc (suc n))) leaf page base within is = absurd (omega arith)

pub kept_base : (tables : List Bool) (slots : List Slot) (i : ℕ) (d : Slot) → AreKept tables slots → i < length slots → ((slice_index_or slots i d).satp ≡ 0 → ⊥) → ((slice_index_or slots i d).base % 4096 ≡ 0) × ((slice_index_or slots i d).base < 2 ^ 63)
kept_base tables slots i d kept within filled =
    let s : Slot = slice_index_or slots i d in
    let has : IsKept tables i s = kept i d within filled in
    let some = has.some in
    base_bounds (3 - s.found.count) s.found.leaf s.page s.base (omega arith) has.place.address
