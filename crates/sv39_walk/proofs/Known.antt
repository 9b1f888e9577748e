-- What is remembered in a list of slots.
use Rattle.std.proofs.Common.{◌≡◌, ℕ, ◌%◌, ◌<◌, ◌==◌, Bool, true, false, List, [], ◌∷◌, length, slice_index_or, slice_set, replicate, ap, sym, ◌∙◌, subst, arith, if◌then◌else◌}
use Rattle.std.specs.Prelude.{All, Contains, refl}
use Rattle.std.proofs.lemmas.Grind.{get_or-set_at}
use Rattle.std.proofs.lemmas.List.{get_or_default, length-set}
use Rattle.std.proofs.lemmas.List.Elements.{All-contains, All-contains_itself, All-cons, All-nil, All-replicate, All-set, All-tail}
use Rattle.sv39_walk.specs.declared.slots.Slot.{Slot}
use Rattle.sv39_walk.specs.Remembered.{Agrees, IsRemembered, IsWalked, Remembered}
use Rattle.sv39_walk.specs.Slots.{AreKept, Holds, known_in, known_of}
use Rattle.sv39_walk.specs.Walk.{root_of}

-- free slots hold nothing
pub none_known : (slots : List Slot) → All (λ s. s.satp ≡ 0) slots → known_in slots ≡ []
unfolding known_in
none_known [] free = refl
none_known (s ∷ rest) free =
    let this : s.satp ≡ 0 = free 0 s (omega arith) in
    let is : (s.satp == 0) ≡ true = grind arith in
    ap (λ (b : Bool). if b then known_in rest else known_of s ∷ known_in rest) is ∙ none_known rest (All-tail (λ x. x.satp ≡ 0) s rest free)

-- what holds of each slot that is not free holds of each translation
known_if : (P : Remembered → Type 0) (s : Slot) (rest : List Remembered) → (free : Bool) → (s.satp == 0) ≡ free → ((s.satp ≡ 0 → ⊥) → P (known_of s)) → All P rest → All P (if s.satp == 0 then rest else known_of s ∷ rest)
known_if P s rest true is holds below = subst (λ (b : Bool). All P (if b then rest else known_of s ∷ rest)) (sym is) below
known_if P s rest false is holds below =
    let filled : s.satp ≡ 0 → ⊥ = λ none. let never : (s.satp == 0) ≡ true = grind arith in cc in
    subst (λ (b : Bool). All P (if b then rest else known_of s ∷ rest)) (sym is) (All-cons P (known_of s) rest (holds filled) below)

pub all_known : (P : Remembered → Type 0) (slots : List Slot) → All (λ s. (s.satp ≡ 0 → ⊥) → P (known_of s)) slots → All P (known_in slots)
unfolding known_in
all_known P [] holds = All-nil P
all_known P (s ∷ rest) holds =
    known_if P s (known_in rest) (s.satp == 0) refl (holds 0 s (omega arith)) (all_known P rest (All-tail (λ x. (x.satp ≡ 0 → ⊥) → P (known_of x)) s rest holds))

-- and the other way
slots_if : (P : Remembered → Type 0) (s : Slot) (rest : List Remembered) → (free : Bool) → (s.satp == 0) ≡ free → All P (if s.satp == 0 then rest else known_of s ∷ rest) → ((s.satp ≡ 0 → ⊥) → P (known_of s)) × All P rest
slots_if P s rest true is all = ((λ filled. let none : s.satp ≡ 0 = grind arith in absurd (filled none)), subst (λ (b : Bool). All P (if b then rest else known_of s ∷ rest)) is all)
slots_if P s rest false is all =
    let here : All P (known_of s ∷ rest) = subst (λ (b : Bool). All P (if b then rest else known_of s ∷ rest)) is all in
    ((λ filled. here 0 (known_of s) (omega arith)), All-tail P (known_of s) rest here)

pub all_slots : (P : Remembered → Type 0) (slots : List Slot) → All P (known_in slots) → All (λ s. (s.satp ≡ 0 → ⊥) → P (known_of s)) slots
unfolding known_in
all_slots P [] all = All-nil (λ s. (s.satp ≡ 0 → ⊥) → P (known_of s))
all_slots P (s ∷ rest) all =
    let both = slots_if P s (known_in rest) (s.satp == 0) refl all in
    All-cons (λ x. (x.satp ≡ 0 → ⊥) → P (known_of x)) s rest both.0 (all_slots P rest both.1)

-- equal slots that are free
pub all_free : (slot : Slot) → slot.satp ≡ 0 → All (λ s. s.satp ≡ 0) (replicate 64 slot)
all_free slot free = All-replicate (λ s. s.satp ≡ 0) 64 slot free

-- ---- the slot of a translation

-- what is read past the end of a list of slots
abbrev pub no_slot : Slot
no_slot = record { satp = 0; page = 0; base = 0; found = record { leaf = 0; first = 0; second = 0; third = 0; count = 0 } }

-- what is remembered stands in the slot of its page
pub in_slot : (tables : List Bool) (slots : List Slot) (d : Slot) (root page : ℕ) → AreKept tables slots → IsRemembered (known_in slots) root page → Holds (slice_index_or slots (page % 64) d) root page
in_slot tables slots d root page kept (known, contained, root_is, page_is) =
    let InSlot : Remembered → Type 0 = λ k. Holds (slice_index_or slots (k.page % 64) d) k.root k.page in
    let each : All InSlot (known_in slots) = all_known InSlot slots (λ i e within filled.
    let s : Slot = slice_index_or slots i e in
    let same : slice_index_or slots (s.page % 64) d ≡ s = ap (λ (n : ℕ). slice_index_or slots n d) (kept i e within filled).number_is ∙ get_or_default slots i d e within in
    subst (λ (x : Slot). Holds x (root_of s.satp) s.page) (sym same) (filled, refl, refl)) in
    let this : InSlot known = All-contains InSlot (known_in slots) known each contained in
    subst (λ (r : ℕ). Holds (slice_index_or slots (page % 64) d) r page) root_is
    (subst (λ (p : ℕ). Holds (slice_index_or slots (p % 64) d) known.root p) page_is this)

-- what a slot holds is remembered
pub slot_remembered : (slots : List Slot) (i : ℕ) (d : Slot) (root page : ℕ) → i < length slots → Holds (slice_index_or slots i d) root page → IsRemembered (known_in slots) root page
slot_remembered slots i d root page within (filled, root_is, page_is) =
    (known_of (slice_index_or slots i d), all_slots (Contains (known_in slots)) slots (All-contains_itself (known_in slots)) i d within filled, root_is, page_is)

-- ---- a slot that is filled

pub agrees_with : (ram : List ℕ) (slots : List Slot) (i : ℕ) (new : Slot) → Agrees (known_in slots) ram → IsWalked ram (known_of new) → Agrees (known_in (slice_set slots i new)) ram
agrees_with ram slots i new agrees walked =
    all_known (IsWalked ram) (slice_set slots i new) (All-set (λ s. (s.satp ≡ 0 → ⊥) → IsWalked ram (known_of s)) slots i new (λ filled. walked) (all_slots (IsWalked ram) slots agrees))

pub remembered_with : (slots : List Slot) (i : ℕ) (new : Slot) → i < length slots → (new.satp ≡ 0 → ⊥) → IsRemembered (known_in (slice_set slots i new)) (root_of new.satp) new.page
remembered_with slots i new within filled =
    let there : slice_index_or (slice_set slots i new) i new ≡ new = get_or-set_at slots i i new new refl within in
    let long : i < length (slice_set slots i new) = let same = length-set slots i new in omega arith in
    slot_remembered (slice_set slots i new) i new (root_of new.satp) new.page long
    (subst (λ (x : Slot). Holds x (root_of new.satp) new.page) (sym there) (filled, refl, refl))
