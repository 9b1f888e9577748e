-- The files that acts leave: from what a call says of one file to acts, and from acts back to what a file holds.
use Rattle.std.proofs.Common.{◌≡◌, ◌≢◌, ℕ, Bool, true, false, if◌then◌else◌, List, [], ◌∷◌, ◌++◌, Option, Some, None, refl, sym, ap, subst, ◌∙◌}
use Rattle.std.specs.Prelude.{All, IsSome, ⊤}
use Rattle.std.proofs.lemmas.List.Elements.{All-head, All-tail}
use Rattle.std.proofs.lemmas.Slice.Eq.{bytes_eq-Decides}
use Rattle.std.specs.Str.{bytes_eq}
use Rattle.outside_io.specs.Content.{GrowsBy, Held, IsEmptied, IsHeld, KeepsOthers, Told, file_of}
use Rattle.outside_acts.specs.Acts.{Act, ReadTo, Send, Start, Append, Did, filed, filed_by, with_file}
use Rattle.outside_acts.specs.World.{World}
use Rattle.outside_acts.proofs.Algebra.{IsFiled, filed_one}

-- ---- what is told

pub still_told : {C : Type 0} (a b : Option C) (related : C → C → Type 0) → Told a b related → IsSome a → IsSome b
still_told None b related told some = cc
still_told (Some x) None related told some = absurd told
still_told (Some x) (Some y) related told some = refl

-- what follows from a fact of what is told, and from two
pub told_map : {C : Type 0} {P Q : C → C → Type 0} → ((x y : C) → P x y → Q x y) → (a b : Option C) → Told a b P → Told a b Q
told_map follows None b told = tt
told_map follows (Some x) None told = told
told_map follows (Some x) (Some y) told = follows x y told

pub told_from : {C : Type 0} {P Q R : C → C → Type 0} → ((x y : C) → P x y → Q x y → R x y)
    → (a b : Option C) → Told a b P → Told a b Q → Told a b R
told_from follows None b first second = tt
told_from follows (Some x) None first second = first
told_from follows (Some x) (Some y) first second = follows x y first second

-- ---- one more file

same_name : (a b : List ℕ) → bytes_eq a b ≡ true → a ≡ b
same_name a b is = (bytes_eq-Decides a b).0 is

other_name : (a b : List ℕ) → bytes_eq a b ≡ false → a ≢ b
other_name a b is same = cc (is, (bytes_eq-Decides a b).1 same)

-- files that hold the same under each name are equal
pub equal_held : (before now : Held) → ((name : List ℕ) → now name ≡ before name) → now ≡ before
equal_held before now same = λ i. λ name. same name i

content_by : (name bytes other : List ℕ) (before now : Held) (b : Bool) → bytes_eq other name ≡ b
    → now name ≡ Some bytes → KeepsOthers name before now → now other ≡ (if b then Some bytes else before other)
content_by name bytes other before now true is named others = ap now (same_name other name is) ∙ named
content_by name bytes other before now false is named others = others other (other_name other name is)

-- where one file has this content and all others are as before, the files are those with one more
pub with_file_is : (name bytes : List ℕ) (before now : Held) → now name ≡ Some bytes → KeepsOthers name before now
    → now ≡ with_file name bytes before
with_file_is name bytes before now named others =
    let at = λ (other : List ℕ). content_by name bytes other before now (bytes_eq other name) refl named others in
    equal_held (with_file name bytes before) now at

kept_by : (name other : List ℕ) (before now : Held) (b : Bool) → bytes_eq other name ≡ b
    → now name ≡ before name → KeepsOthers name before now → now other ≡ before other
kept_by name other before now true is same others =
    let at = same_name other name is in
    ap now at ∙ same ∙ ap before (sym at)
kept_by name other before now false is same others = others other (other_name other name is)

-- where one file is as before and all others too, no file changed
pub unchanged_is : (name : List ℕ) (before now : Held) → now name ≡ before name → KeepsOthers name before now → now ≡ before
unchanged_is name before now same others =
    equal_held before now (λ other. kept_by name other before now (bytes_eq other name) refl same others)

chosen_true : (b : Bool) (some other : Option (List ℕ)) → b ≡ true → (if b then some else other) ≡ some
chosen_true true some other is = refl
chosen_true false some other is = cc

chosen_false : (b : Bool) (some other : Option (List ℕ)) → (b ≡ true → ⊥) → (if b then some else other) ≡ other
chosen_false true some other is = absurd (is refl)
chosen_false false some other is = refl

-- the file that was put there has its content, and all others are as before
pub with_file_named : (name bytes : List ℕ) (held : Held) → with_file name bytes held name ≡ Some bytes
with_file_named name bytes held =
    chosen_true (bytes_eq name name) (Some bytes) (held name) ((bytes_eq-Decides name name).1 refl)

pub with_file_others : (name bytes : List ℕ) (held : Held) → KeepsOthers name held (with_file name bytes held)
with_file_others name bytes held = λ other apart.
    chosen_false (bytes_eq other name) (Some bytes) (held other) (λ is. apart (same_name other name is))

-- ---- one act, as a call says it

-- the named file is there and empty, and all others are as before: it was started
pub started : (name : List ℕ) (a b : Option Held) → Told a b (IsEmptied name) → Told a b (KeepsOthers name)
    → Told a b (IsFiled (Start name ∷ []))
started name a b named others =
    told_from (λ x y now kept. with_file_is name [] x y now kept ∙ sym (filed_one (Start name) x)) a b named others

-- the named file grew by the piece, and all others are as before: the piece was appended
pub added : (name piece : List ℕ) (a b : Option Held) → Told a b (GrowsBy piece name) → Told a b (KeepsOthers name)
    → Told a b (IsFiled (Append name piece ∷ []))
added name piece a b named others =
    told_from (λ x y now kept. with_file_is name (file_of x name ++ piece) x y now kept ∙ sym (filed_one (Append name piece) x)) a b
    named others

content_of : (name bytes : List ℕ) (before now : Held) → now ≡ with_file name bytes before
    → (now name ≡ Some bytes) × KeepsOthers name before now
content_of name bytes before now is = (
  ap (λ (held : Held). held name) is ∙ with_file_named name bytes before,
  subst (λ (held : Held). KeepsOthers name before held) (sym is) (with_file_others name bytes before),
)

-- and back
pub start_empties : (name : List ℕ) (before now : Held) → IsFiled (Start name ∷ []) before now
    → IsEmptied name before now × KeepsOthers name before now
start_empties name before now is = content_of name [] before now (is ∙ filed_one (Start name) before)

pub append_grows : (name piece : List ℕ) (before now : Held) → IsFiled (Append name piece ∷ []) before now
    → GrowsBy piece name before now × KeepsOthers name before now
append_grows name piece before now is =
    content_of name (file_of before name ++ piece) before now (is ∙ filed_one (Append name piece) before)

-- ---- what is held stays held

kept_with : (bytes : List ℕ) (content : Option (List ℕ)) (b : Bool) → IsSome content → IsSome (if b then Some bytes else content)
kept_with bytes content true is = refl
kept_with bytes content false is = is

held_by : (act : Act) (held : Held) (name : List ℕ) → IsSome (held name) → IsSome (filed_by act held name)
held_by (ReadTo n) held name is = is
held_by (Send bytes) held name is = is
held_by (Start file) held name is = kept_with [] (held name) (bytes_eq name file) is
held_by (Append file piece) held name is = kept_with (file_of held file ++ piece) (held name) (bytes_eq name file) is

pub filed_held : (acts : List Act) (held : Held) (name : List ℕ) → IsSome (held name) → IsSome (filed acts held name)
unfolding filed
filed_held [] held name is = is
filed_held (act ∷ acts) held name is = filed_held acts (filed_by act held) name (held_by act held name is)

pub still_held : (acts : List Act) (a b : Option Held) → Told a b (IsFiled acts) → (name : List ℕ) → IsHeld a name → IsHeld b name
still_held acts None b told name is = absurd is
still_held acts (Some x) None told name is = absurd told
still_held acts (Some x) (Some y) told name is =
    subst (λ (held : Held). IsSome (held name)) (sym told) (filed_held acts x name is)

-- ---- a file that no act is on

-- the act is on no file of this name
abbrev pub IsApart : List ℕ → Act → Type 0
IsApart name (Start other) = name ≢ other
IsApart name (Append other piece) = name ≢ other
IsApart name act = ⊤

apart_by : (name : List ℕ) (act : Act) (held : Held) → IsApart name act → filed_by act held name ≡ held name
apart_by name (ReadTo n) held apart = refl
apart_by name (Send bytes) held apart = refl
apart_by name (Start other) held apart = with_file_others other [] held name apart
apart_by name (Append other piece) held apart = with_file_others other (file_of held other ++ piece) held name apart

-- acts on other files leave it as it was
pub filed_apart : (name : List ℕ) (acts : List Act) (held : Held) → All (IsApart name) acts → filed acts held name ≡ held name
unfolding filed
filed_apart name [] held apart = refl
filed_apart name (act ∷ acts) held apart =
    filed_apart name acts (filed_by act held) (All-tail (IsApart name) act acts apart)
    ∙ apart_by name act held (All-head (IsApart name) act acts apart)

-- ---- the files after acts that were done

told_at : (acts : List Act) (a b : Option Held) (held : Held) → Told a b (IsFiled acts) → a ≡ Some held → b ≡ Some (filed acts held)
told_at acts None b held told is = cc
told_at acts (Some x) None held told is = absurd told
told_at acts (Some x) (Some y) held told is =
    let same : x ≡ held = cc in
    ap (λ (now : Held). Some now) (told ∙ ap (filed acts) same)

-- where it was told what the files held, it is told what they hold now
pub did_files : {bytes : List ℕ} {from : ℕ} {acts : List Act} {before now : World} (held : Held)
    → Did bytes from acts before now → before.held ≡ Some held → now.held ≡ Some (filed acts held)
did_files {acts = acts} {before = before} {now = now} held did is = told_at acts before.held now.held held did.files is

-- the file of a name is as the acts leave it
pub did_file : {bytes : List ℕ} {from : ℕ} {acts : List Act} {before now : World} (name : List ℕ)
    → Did bytes from acts before now → Told before.held now.held (λ held held'. held' name ≡ filed acts held name)
did_file {before = before} {now = now} name did =
    told_map (λ x y is. ap (λ (held : Held). held name) is) before.held now.held did.files

-- what was held is held
pub did_held : {bytes : List ℕ} {from : ℕ} {acts : List Act} {before now : World}
    → Did bytes from acts before now → (name : List ℕ) → IsHeld before.held name → IsHeld now.held name
did_held {acts = acts} {before = before} {now = now} did = still_held acts before.held now.held did.files

-- and what was told is told
pub did_told : {bytes : List ℕ} {from : ℕ} {acts : List Act} {before now : World}
    → Did bytes from acts before now → IsSome before.held → IsSome now.held
did_told {acts = acts} {before = before} {now = now} did = still_told before.held now.held (IsFiled acts) did.files
