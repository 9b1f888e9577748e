-- One step of the plain walk, by what stands at the entry.
use Rattle.std.proofs.Common.{◌≡◌, ℕ, suc, ◌-◌, ◌<◌, List, ap, sym, ◌∙◌, subst, arith, Bool, true, false, not, ◌&&◌, ◌||◌}
use Rattle.std.specs.Prelude.{Err, refl}
use Rattle.std.proofs.lemmas.Bool.{and_parts, false_from_ne_true}
use Rattle.guest_ram.specs.Bytes.{HasPart}
use Rattle.guest_ram.proofs.PartLemmas.{has_part_is}
use Rattle.rv_alu.specs.declared.Mode.{Mode}
use Rattle.sv39_walk.specs.declared.Kind.{Kind}
use Rattle.sv39_walk.specs.declared.WalkFault.{WalkFault}
use Rattle.sv39_walk.specs.Entry.{is_leaf, is_pointer, page_of, permits}
use Rattle.sv39_walk.specs.Plain.{arrived, has_entry, walked}
use Rattle.sv39_walk.specs.Walk.{entry_address, entry_at}

-- ---- tests

pub outside_has : (ram : List ℕ) (at : ℕ) → (HasPart ram at 8 → ⊥) → has_entry ram at ≡ false
outside_has ram at out = false_from_ne_true (has_entry ram at) (λ holds. out ((has_part_is ram at 8).0 holds))

-- an entry with R or X is no pointer, whatever its other fields
exclusive : (formed r w x a d u : Bool) → (formed && (r || x)) ≡ true → (formed && not r && not w && not x && not a && not d && not u) ≡ false
exclusive false r w x a d u leaf = refl
exclusive true true w x a d u leaf = refl
exclusive true false true x a d u leaf = refl
exclusive true false false true a d u leaf = refl
exclusive true false false false a d u leaf = absurd (cc)

pub leaf_leads_nowhere : (entry : ℕ) → is_leaf entry ≡ true → is_pointer entry ≡ false
leaf_leads_nowhere entry leaf = exclusive _ _ _ _ _ _ _ leaf

-- what permits an access is a leaf
pub permits_leaf : (mode : Mode) (sum mxr : Bool) (kind : Kind) (level entry : ℕ) → permits mode sum mxr kind level entry ≡ true → is_leaf entry ≡ true
permits_leaf mode sum mxr kind level entry holds = (and_parts _ _ (and_parts _ _ (and_parts _ _ (and_parts _ _ holds).0).0).0).0

pub permits_leads_nowhere : (mode : Mode) (sum mxr : Bool) (kind : Kind) (level entry : ℕ) → permits mode sum mxr kind level entry ≡ true → is_pointer entry ≡ false
permits_leads_nowhere mode sum mxr kind level entry holds = leaf_leads_nowhere entry (permits_leaf mode sum mxr kind level entry holds)

-- a pointer permits nothing
pub pointer_permits_nothing : (mode : Mode) (sum mxr : Bool) (kind : Kind) (level entry : ℕ) → is_pointer entry ≡ true → permits mode sum mxr kind level entry ≡ false
pointer_permits_nothing mode sum mxr kind level entry pointer =
    false_from_ne_true _ (λ holds. let never = permits_leads_nowhere mode sum mxr kind level entry holds in cc)

-- ---- the step

pub walked_outside : (ram : List ℕ) (mode : Mode) (sum mxr : Bool) (kind : Kind) (va level table : ℕ) → has_entry ram (entry_address va level table) ≡ false → walked ram mode sum mxr kind va (suc level) table ≡ Err WalkFault.Access
unfolding walked
walked_outside ram mode sum mxr kind va level table out = rw out

pub walked_down : (ram : List ℕ) (mode : Mode) (sum mxr : Bool) (kind : Kind) (va level table : ℕ) → has_entry ram (entry_address va level table) ≡ true → is_pointer (entry_at ram (entry_address va level table)) ≡ true → walked ram mode sum mxr kind va (suc level) table ≡ walked ram mode sum mxr kind va level (page_of (entry_at ram (entry_address va level table)))
unfolding walked
walked_down ram mode sum mxr kind va level table inside pointer = rw (inside, pointer)

pub walked_end : (ram : List ℕ) (mode : Mode) (sum mxr : Bool) (kind : Kind) (va level table : ℕ) → has_entry ram (entry_address va level table) ≡ true → is_pointer (entry_at ram (entry_address va level table)) ≡ false → walked ram mode sum mxr kind va (suc level) table ≡ arrived mode sum mxr kind va level (entry_at ram (entry_address va level table))
unfolding walked
walked_end ram mode sum mxr kind va level table inside never = rw (inside, never)

-- ---- the same from a level above 0, for the entry `word` that stands at `at`

pub level_outside : (ram : List ℕ) (mode : Mode) (sum mxr : Bool) (kind : Kind) (va level table at : ℕ) → 0 < level → at ≡ entry_address va (level - 1) table → (HasPart ram at 8 → ⊥) → walked ram mode sum mxr kind va level table ≡ Err WalkFault.Access
level_outside ram mode sum mxr kind va level table at above at_is out =
    let lower : level ≡ suc (level - 1) = omega arith in
    let out_there : has_entry ram (entry_address va (level - 1) table) ≡ false = subst (λ (a : ℕ). has_entry ram a ≡ false) at_is (outside_has ram at out) in
    ap (λ (l : ℕ). walked ram mode sum mxr kind va l table) lower ∙ walked_outside ram mode sum mxr kind va (level - 1) table out_there

pub level_end : (ram : List ℕ) (mode : Mode) (sum mxr : Bool) (kind : Kind) (va level table at word : ℕ) → 0 < level → at ≡ entry_address va (level - 1) table → HasPart ram at 8 → word ≡ entry_at ram at → is_pointer word ≡ false → walked ram mode sum mxr kind va level table ≡ arrived mode sum mxr kind va (level - 1) word
level_end ram mode sum mxr kind va level table at word above at_is part word_is ends =
    let lower : level ≡ suc (level - 1) = omega arith in
    let inside : has_entry ram (entry_address va (level - 1) table) ≡ true = subst (λ (a : ℕ). has_entry ram a ≡ true) at_is ((has_part_is ram at 8).1 part) in
    let word_there : word ≡ entry_at ram (entry_address va (level - 1) table) = word_is ∙ ap (entry_at ram) at_is in
    ap (λ (l : ℕ). walked ram mode sum mxr kind va l table) lower
    ∙ walked_end ram mode sum mxr kind va (level - 1) table inside (subst (λ (w : ℕ). is_pointer w ≡ false) word_there ends)
    ∙ ap (arrived mode sum mxr kind va (level - 1)) (sym word_there)

pub level_down : (ram : List ℕ) (mode : Mode) (sum mxr : Bool) (kind : Kind) (va level table at word : ℕ) → 0 < level → at ≡ entry_address va (level - 1) table → HasPart ram at 8 → word ≡ entry_at ram at → is_pointer word ≡ true → walked ram mode sum mxr kind va level table ≡ walked ram mode sum mxr kind va (level - 1) (page_of word)
level_down ram mode sum mxr kind va level table at word above at_is part word_is pointer =
    let lower : level ≡ suc (level - 1) = omega arith in
    let inside : has_entry ram (entry_address va (level - 1) table) ≡ true = subst (λ (a : ℕ). has_entry ram a ≡ true) at_is ((has_part_is ram at 8).1 part) in
    let word_there : word ≡ entry_at ram (entry_address va (level - 1) table) = word_is ∙ ap (entry_at ram) at_is in
    ap (λ (l : ℕ). walked ram mode sum mxr kind va l table) lower
    ∙ walked_down ram mode sum mxr kind va (level - 1) table inside (subst (λ (w : ℕ). is_pointer w ≡ true) word_there pointer)
    ∙ ap (λ (w : ℕ). walked ram mode sum mxr kind va (level - 1) (page_of w)) (sym word_there)

-- no level is left
pub walked_none : (ram : List ℕ) (mode : Mode) (sum mxr : Bool) (kind : Kind) (va level table : ℕ) → level ≡ 0 → walked ram mode sum mxr kind va level table ≡ Err WalkFault.Page
unfolding walked
walked_none ram mode sum mxr kind va level table none = ap (λ (l : ℕ). walked ram mode sum mxr kind va l table) none
