-- The marks of pages: a store to another page touches no entry, and a slot that is filled is kept with its marks.
use Rattle.std.proofs.Common.{◌≡◌, ℕ, zero, suc, ◌+◌, ◌-◌, ◌*◌, ◌/◌, ◌%◌, ◌<◌, ◌≤◌, Bool, true, false, List, [], ◌∷◌, length, slice_index_or, slice_set, ap, sym, ◌∙◌, subst, arith, inl, inr}
use Rattle.std.specs.Prelude.{All, IsFalse, refl}
use Rattle.std.proofs.lemmas.Bool.{cases_lt}
use Rattle.std.proofs.lemmas.Grind.{get_or-set_at}
use Rattle.std.proofs.lemmas.List.{get_or-set_other, length-set}
use Rattle.std.proofs.lemmas.List.Elements.{All-contains_itself, All-cons, All-nil}
use Rattle.sv39_walk.specs.declared.slots.Slot.{Slot}
use Rattle.sv39_walk.specs.declared.walk.Found.{Found}
use Rattle.sv39_walk.specs.Found.{path_by}
use Rattle.sv39_walk.specs.Remembered.{Agrees, DiffersOnlyIn, IsApart, IsPartOf, IsUntouched, Remembered}
use Rattle.sv39_walk.specs.Slots.{AreKept, HasNoneNear, IsElsewhere, IsKept, IsMarked, IsPlace, known_in, mark_of}
use Rattle.sv39_walk.proofs.Kept.{agreement_kept}
use Rattle.sv39_walk.proofs.Known.{all_known}

-- ---- a store to a page that is not marked

-- what holds of three entries holds of each on a way of some of them
pub all_path : (P : ℕ → Type 0) (count first second third : ℕ) → P first → P second → P third → All P (path_by count first second third)
all_path P zero a b c p q r = All-nil P
all_path P (suc zero) a b c p q r = All-cons P a [] p (All-nil P)
all_path P (suc (suc zero)) a b c p q r = All-cons P a (b ∷ []) p (All-cons P b [] q (All-nil P))
all_path P (suc (suc (suc n))) a b c p q r = All-cons P a (b ∷ c ∷ []) p (All-cons P b (c ∷ []) q (All-cons P c [] r (All-nil P)))

elsewhere : (tables : List Bool) (at entry : ℕ) → IsFalse (slice_index_or tables (mark_of at) false) → IsMarked tables entry → IsElsewhere at entry
elsewhere tables at entry clear is =
    (is.aligned, λ same. let marked : slice_index_or tables (mark_of at) false ≡ true = subst (λ (i : ℕ). slice_index_or tables i false ≡ true) same is.marked in cc)

pub none_near : (tables : List Bool) (slots : List Slot) (at : ℕ) → AreKept tables slots → IsFalse (slice_index_or tables (mark_of at) false) → HasNoneNear at (known_in slots)
none_near tables slots at kept clear =
    all_known (λ known. All (IsElsewhere at) known.path) slots
    (λ i d within filled.
    let has : IsKept tables i (slice_index_or slots i d) = kept i d within filled in
    let f : Found = (slice_index_or slots i d).found in
    all_path (IsElsewhere at) f.count f.first f.second f.third (elsewhere tables at f.first clear has.first) (elsewhere tables at f.second clear has.second) (elsewhere tables at f.third clear has.third))

-- the walker that is told of it keeps all
pub kept_whole : (walker : List Remembered) → IsPartOf walker walker
kept_whole walker = All-contains_itself walker

pub agreement_whole : (walker : List Remembered) (at n : ℕ) (before after : List ℕ) → IsUntouched at n walker → Agrees walker before → DiffersOnlyIn at n before after → Agrees walker after
agreement_whole walker at n before after untouched agrees differs =
    agreement_kept walker walker at n before after agrees (kept_whole walker) untouched differs

-- a store within eight aligned bytes touches no entry that lies in another page
byte_apart : (at n entry : ℕ) → n ≤ 8 → at % 8 + n ≤ 8 → IsElsewhere at entry → IsApart at n entry
byte_apart at n entry few fits away =
    λ byte low high from to.
    let none : n ≡ 0 → ⊥ = λ zero_is. absurd (omega arith) in
    let same_eight : entry / 8 ≡ at / 8 = omega (arith, away.0) in
    let same_page : entry / 4096 ≡ at / 4096 = omega arith in
    away.1 (ap (λ (p : ℕ). p % 65536) same_page)

pub nothing_touched : (walker : List Remembered) (at n : ℕ) → n ≤ 8 → at % 8 + n ≤ 8 → HasNoneNear at walker → IsUntouched at n walker
nothing_touched walker at n few fits away =
    λ k d within k' d' inside. byte_apart at n (slice_index_or (slice_index_or walker k d).path k' d') few fits (away k d within k' d' inside)

-- ---- pages that are marked

marked_by : (tables : List Bool) (j i : ℕ) → i < length tables → slice_index_or tables i false ≡ true → slice_index_or (slice_set tables j true) i false ≡ true
marked_by tables j i within is = elim (cases_lt i j) [
  | inl below ↦ get_or-set_other tables j i true false (λ same. absurd (omega arith)) ∙ is
  | inr from ↦ elim (cases_lt j i) [
    | inl above ↦ get_or-set_other tables j i true false (λ same. absurd (omega arith)) ∙ is
    | inr to ↦ let same : i ≡ j = omega arith in get_or-set_at tables j i true false same (omega arith)
  ]
]

marked_more : (tables : List Bool) (j at : ℕ) → length tables ≡ 65536 → IsMarked tables at → IsMarked (slice_set tables j true) at
marked_more tables j at long is = record { aligned = is.aligned; marked = marked_by tables j (mark_of at) (omega arith) is.marked }

marked_now : (tables : List Bool) (at : ℕ) → length tables ≡ 65536 → at % 8 ≡ 0 → IsMarked (slice_set tables (mark_of at) true) at
marked_now tables at long aligned = record { aligned = aligned; marked = get_or-set_at tables (mark_of at) (mark_of at) true false refl (omega arith) }

-- a mark more
kept_more : (tables : List Bool) (slots : List Slot) (j : ℕ) → length tables ≡ 65536 → AreKept tables slots → AreKept (slice_set tables j true) slots
kept_more tables slots j long kept = λ i d within filled.
    let has : IsKept tables i (slice_index_or slots i d) = kept i d within filled in
    let f : Found = (slice_index_or slots i d).found in
    record {
      number_is = has.number_is;
      some = has.some;
      most = has.most;
      first = marked_more tables j f.first long has.first;
      second = marked_more tables j f.second long has.second;
      third = marked_more tables j f.third long has.third;
      place = has.place;
    }

-- a slot that is filled
kept_set : (tables : List Bool) (slots : List Slot) (j : ℕ) (new : Slot) → AreKept tables slots → IsKept tables j new → AreKept tables (slice_set slots j new)
kept_set tables slots j new kept has = λ i d within filled.
    let as_long : length (slice_set slots j new) ≡ length slots = length-set slots j new in
    let here : i ≡ j → IsKept tables i (slice_index_or (slice_set slots j new) i d) = λ same.
    let is : slice_index_or (slice_set slots j new) i d ≡ new = get_or-set_at slots j i new d same (omega arith) in
    subst (λ (n : ℕ). IsKept tables n (slice_index_or (slice_set slots j new) i d)) (sym same) (subst (λ (s : Slot). IsKept tables j s) (sym is) has) in
    let there : (i ≡ j → ⊥) → IsKept tables i (slice_index_or (slice_set slots j new) i d) = λ other.
    let is : slice_index_or (slice_set slots j new) i d ≡ slice_index_or slots i d = get_or-set_other slots j i new d other in
    subst (λ (s : Slot). IsKept tables i s) (sym is) (kept i d (omega arith) (subst (λ (s : Slot). s.satp ≡ 0 → ⊥) is filled)) in
    elim (cases_lt i j) [
      | inl below ↦ there (λ same. absurd (omega arith))
      | inr from ↦ elim (cases_lt j i) [
        | inl above ↦ there (λ same. absurd (omega arith))
        | inr to ↦ here (omega arith)
      ]
    ]

-- the marks of a walk
abbrev pub marked_with : List Bool → Found → List Bool
marked_with tables f = slice_set (slice_set (slice_set tables (mark_of f.first) true) (mark_of f.second) true) (mark_of f.third) true

pub marked_length : (tables : List Bool) (f : Found) → length (marked_with tables f) ≡ length tables
marked_length tables f =
    let one : List Bool = slice_set tables (mark_of f.first) true in
    let two : List Bool = slice_set one (mark_of f.second) true in
    length-set two (mark_of f.third) true ∙ length-set one (mark_of f.second) true ∙ length-set tables (mark_of f.first) true

pub kept_with : (tables : List Bool) (slots : List Slot) (new : Slot) → length tables ≡ 65536 → AreKept tables slots → 1 ≤ new.found.count → new.found.count ≤ 3 → new.found.first % 8 ≡ 0 → new.found.second % 8 ≡ 0 → new.found.third % 8 ≡ 0 → IsPlace new.satp (new.page * 4096) new.base new.found.leaf (3 - new.found.count) → AreKept (marked_with tables new.found) (slice_set slots (new.page % 64) new)
kept_with tables slots new long kept some most first second third place =
    let f : Found = new.found in
    let one : List Bool = slice_set tables (mark_of f.first) true in
    let two : List Bool = slice_set one (mark_of f.second) true in
    let all : List Bool = slice_set two (mark_of f.third) true in
    let long1 : length one ≡ 65536 = length-set tables (mark_of f.first) true ∙ long in
    let long2 : length two ≡ 65536 = length-set one (mark_of f.second) true ∙ long1 in
    let has : IsKept all (new.page % 64) new = record {
      number_is = refl;
      some = some;
      most = most;
      first = marked_more two (mark_of f.third) f.first long2 (marked_more one (mark_of f.second) f.first long1 (marked_now tables f.first long first));
      second = marked_more two (mark_of f.third) f.second long2 (marked_now one f.second long1 second);
      third = marked_now two f.third long2 third;
      place = place;
    } in
    let others : AreKept all slots = kept_more two slots (mark_of f.third) long2 (kept_more one slots (mark_of f.second) long1 (kept_more tables slots (mark_of f.first) long kept)) in
    kept_set all slots (new.page % 64) new others has
