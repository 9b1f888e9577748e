-- The plain walk is the definition.
use Rattle.std.proofs.Common.{◌≡◌, ℕ, zero, suc, ◌+◌, ◌-◌, ◌<◌, List, [], ◌∷◌, length, ap, sym, ◌∙◌, subst, arith, Bool, true, false}
use Rattle.std.specs.Prelude.{Result, Ok, Err, refl}
use Rattle.guest_ram.specs.Bytes.{HasPart}
use Rattle.guest_ram.proofs.PartLemmas.{has_part_is}
use Rattle.rv_alu.specs.declared.Mode.{Mode}
use Rattle.sv39_walk.specs.declared.Kind.{Kind}
use Rattle.sv39_walk.specs.declared.WalkFault.{WalkFault}
use Rattle.sv39_walk.specs.Entry.{address_in, is_pointer, page_of, permits}
use Rattle.sv39_walk.specs.Plain.{has_entry, walked}
use Rattle.sv39_walk.specs.Walk.{Arrives, IsWay, LeadsOn, Stops, entry_address, entry_at, last_of}
use Rattle.sv39_walk.proofs.Steps.{outside_has, permits_leads_nowhere, pointer_permits_nothing, walked_down, walked_end, walked_outside}

-- the level of the last entry on a way from a table at this level
abbrev pub end_level : ℕ → List ℕ → ℕ
end_level level path = level + 1 - length path

-- ---- from the definition to the walk

-- what an entry decides where a way ends, it decides for the whole walk
pub followed : (ram : List ℕ) (mode : Mode) (sum mxr : Bool) (kind : Kind) (va : ℕ) (Ends : ℕ → ℕ → Type 0) (answer : Result ℕ WalkFault) → ((level table : ℕ) → Ends level (entry_address va level table) → walked ram mode sum mxr kind va (suc level) table ≡ answer) → (level table : ℕ) (path : List ℕ) → IsWay ram va level table path → Ends (end_level level path) (last_of path) → walked ram mode sum mxr kind va (suc level) table ≡ answer
followed ram mode sum mxr kind va Ends answer here level table [] way end = absurd way
followed ram mode sum mxr kind va Ends answer here level table (at ∷ []) way end =
    let same : level + 1 - 1 ≡ level = omega arith in
    let at_level : Ends level at = subst (λ (l : ℕ). Ends l at) same end in
    here level table (subst (λ (a : ℕ). Ends level a) way at_level)
followed ram mode sum mxr kind va Ends answer here level table (at ∷ next ∷ rest) way end =
    let above : 0 < level = way.1.above in
    let same : end_level level (at ∷ next ∷ rest) ≡ end_level (level - 1) (next ∷ rest) = omega arith in
    let rest_end : Ends (end_level (level - 1) (next ∷ rest)) (last_of (next ∷ rest)) = subst (λ (l : ℕ). Ends l (last_of (next ∷ rest))) same end in
    let rest_walked = followed ram mode sum mxr kind va Ends answer here (level - 1) (page_of (entry_at ram at)) (next ∷ rest) way.2 rest_end in
    let inside : has_entry ram (entry_address va level table) ≡ true = subst (λ (a : ℕ). has_entry ram a ≡ true) way.0 ((has_part_is ram at 8).1 way.1.inside) in
    let pointer : is_pointer (entry_at ram (entry_address va level table)) ≡ true = subst (λ (a : ℕ). is_pointer (entry_at ram a) ≡ true) way.0 way.1.pointer in
    let lower : level ≡ suc (level - 1) = omega arith in
    walked_down ram mode sum mxr kind va level table inside pointer
    ∙ ap (λ (a : ℕ). walked ram mode sum mxr kind va level (page_of (entry_at ram a))) (sym way.0)
    ∙ ap (λ (l : ℕ). walked ram mode sum mxr kind va l (page_of (entry_at ram at))) lower
    ∙ rest_walked

arrives_here : (ram : List ℕ) (mode : Mode) (sum mxr : Bool) (kind : Kind) (va pa level table : ℕ) → Arrives ram mode sum mxr kind va pa level (entry_address va level table) → walked ram mode sum mxr kind va (suc level) table ≡ Ok pa
arrives_here ram mode sum mxr kind va pa level table end =
    let leaf = permits_leads_nowhere mode sum mxr kind level (entry_at ram (entry_address va level table)) end.permitted in
    walked_end ram mode sum mxr kind va level table ((has_part_is ram _ 8).1 end.inside) leaf
    ∙ rw end.permitted (ap Ok (sym end.address))

-- a page fault, by whether the entry is a pointer
stops_by : (ram : List ℕ) (mode : Mode) (sum mxr : Bool) (kind : Kind) (va level table : ℕ) → Stops ram mode sum mxr kind level (entry_address va level table) WalkFault.Page → (pointer : Bool) → is_pointer (entry_at ram (entry_address va level table)) ≡ pointer → walked ram mode sum mxr kind va (suc level) table ≡ Err WalkFault.Page
unfolding walked
stops_by ram mode sum mxr kind va level table end false is =
    walked_end ram mode sum mxr kind va level table ((has_part_is ram _ 8).1 end.0) is ∙ rw end.2
stops_by ram mode sum mxr kind va zero table end true is =
    walked_down ram mode sum mxr kind va zero table ((has_part_is ram _ 8).1 end.0) is
stops_by ram mode sum mxr kind va (suc level) table end true is =
    absurd (end.1 (record { inside = end.0; pointer = is; above = omega arith }))

stops_here : (ram : List ℕ) (mode : Mode) (sum mxr : Bool) (kind : Kind) (va : ℕ) (fault : WalkFault) (level table : ℕ) → Stops ram mode sum mxr kind level (entry_address va level table) fault → walked ram mode sum mxr kind va (suc level) table ≡ Err fault
stops_here ram mode sum mxr kind va WalkFault.Access level table out = walked_outside ram mode sum mxr kind va level table (outside_has ram _ out)
stops_here ram mode sum mxr kind va WalkFault.Page level table end = stops_by ram mode sum mxr kind va level table end (is_pointer (entry_at ram (entry_address va level table))) refl

-- how a walk with this answer ends
abbrev pub Ends : List ℕ → Mode → Bool → Bool → Kind → ℕ → Result ℕ WalkFault → ℕ → ℕ → Type 0
Ends ram mode sum mxr kind va (Ok pa) level at = Arrives ram mode sum mxr kind va pa level at
Ends ram mode sum mxr kind va (Err fault) level at = Stops ram mode sum mxr kind level at fault

-- a way from this table that ends so
abbrev pub HasWay : List ℕ → Mode → Bool → Bool → Kind → ℕ → ℕ → ℕ → Result ℕ WalkFault → Type 0
HasWay ram mode sum mxr kind va level table answer =
    (path : List ℕ) × IsWay ram va level table path × Ends ram mode sum mxr kind va answer (end_level level path) (last_of path)

ends_here : (ram : List ℕ) (mode : Mode) (sum mxr : Bool) (kind : Kind) (va : ℕ) (answer : Result ℕ WalkFault) (level table : ℕ) → Ends ram mode sum mxr kind va answer level (entry_address va level table) → walked ram mode sum mxr kind va (suc level) table ≡ answer
ends_here ram mode sum mxr kind va (Ok pa) level table end = arrives_here ram mode sum mxr kind va pa level table end
ends_here ram mode sum mxr kind va (Err fault) level table end = stops_here ram mode sum mxr kind va fault level table end

pub has_way_walked : (ram : List ℕ) (mode : Mode) (sum mxr : Bool) (kind : Kind) (va level table : ℕ) (answer : Result ℕ WalkFault) → HasWay ram mode sum mxr kind va level table answer → walked ram mode sum mxr kind va (suc level) table ≡ answer
has_way_walked ram mode sum mxr kind va level table answer (path, way, end) =
    followed ram mode sum mxr kind va (Ends ram mode sum mxr kind va answer) answer (ends_here ram mode sum mxr kind va answer) level table path way end

-- ---- from the walk to the definition

-- a walk that ends at the first entry
at_once : (ram : List ℕ) (mode : Mode) (sum mxr : Bool) (kind : Kind) (va level table : ℕ) (answer : Result ℕ WalkFault) → Ends ram mode sum mxr kind va answer level (entry_address va level table) → walked ram mode sum mxr kind va (suc level) table ≡ answer → HasWay ram mode sum mxr kind va level table (walked ram mode sum mxr kind va (suc level) table)
at_once ram mode sum mxr kind va level table answer end is =
    let same : level ≡ level + 1 - 1 = omega arith in
    let at = entry_address va level table in
    let end_there : Ends ram mode sum mxr kind va answer (level + 1 - 1) at = subst (λ (l : ℕ). Ends ram mode sum mxr kind va answer l at) same end in
    subst (HasWay ram mode sum mxr kind va level table) (sym is) (at ∷ [], refl, end_there)

-- a walk that goes on below the first entry
further : (ram : List ℕ) (mode : Mode) (sum mxr : Bool) (kind : Kind) (va level table : ℕ) (answer : Result ℕ WalkFault) → LeadsOn ram (suc level) (entry_address va (suc level) table) → HasWay ram mode sum mxr kind va level (page_of (entry_at ram (entry_address va (suc level) table))) answer → HasWay ram mode sum mxr kind va (suc level) table answer
further ram mode sum mxr kind va level table answer leads ([], way, end) = absurd way
further ram mode sum mxr kind va level table answer leads (next ∷ rest, way, end) =
    let at = entry_address va (suc level) table in
    let lower : level ≡ suc level - 1 = omega arith in
    let way_below : IsWay ram va (suc level - 1) (page_of (entry_at ram at)) (next ∷ rest) = subst (λ (l : ℕ). IsWay ram va l (page_of (entry_at ram at)) (next ∷ rest)) lower way in
    let same : end_level level (next ∷ rest) ≡ end_level (suc level) (at ∷ next ∷ rest) = omega arith in
    let end_there : Ends ram mode sum mxr kind va answer (end_level (suc level) (at ∷ next ∷ rest)) (last_of (next ∷ rest)) = subst (λ (l : ℕ). Ends ram mode sum mxr kind va answer l (last_of (next ∷ rest))) same end in
    (at ∷ next ∷ rest, (refl, leads, way_below), end_there)

-- a walk that ends at an entry that is no pointer, by whether it permits the access
ended : (ram : List ℕ) (mode : Mode) (sum mxr : Bool) (kind : Kind) (va level table : ℕ) → HasPart ram (entry_address va level table) 8 → is_pointer (entry_at ram (entry_address va level table)) ≡ false → (permitted : Bool) → permits mode sum mxr kind level (entry_at ram (entry_address va level table)) ≡ permitted → HasWay ram mode sum mxr kind va level table (walked ram mode sum mxr kind va (suc level) table)
ended ram mode sum mxr kind va level table part leaf true is =
    let entry = entry_at ram (entry_address va level table) in
    let end : Arrives ram mode sum mxr kind va (address_in level entry va) level (entry_address va level table) = record { inside = part; permitted = is; address = refl } in
    at_once ram mode sum mxr kind va level table (Ok (address_in level entry va)) end (arrives_here ram mode sum mxr kind va (address_in level entry va) level table end)
ended ram mode sum mxr kind va level table part leaf false is =
    let end : Stops ram mode sum mxr kind level (entry_address va level table) WalkFault.Page = (part, (λ leads. let pointer = leads.pointer in cc), is) in
    at_once ram mode sum mxr kind va level table (Err WalkFault.Page) end (stops_here ram mode sum mxr kind va WalkFault.Page level table end)

-- a walk whose entry lies in memory, by whether it is a pointer
inside_found : (ram : List ℕ) (mode : Mode) (sum mxr : Bool) (kind : Kind) (va level table : ℕ) → HasPart ram (entry_address va level table) 8 → (pointer : Bool) → is_pointer (entry_at ram (entry_address va level table)) ≡ pointer → ((below page : ℕ) → level ≡ suc below → HasWay ram mode sum mxr kind va below page (walked ram mode sum mxr kind va (suc below) page)) → HasWay ram mode sum mxr kind va level table (walked ram mode sum mxr kind va (suc level) table)
inside_found ram mode sum mxr kind va level table part false is lower =
    ended ram mode sum mxr kind va level table part is (permits mode sum mxr kind level (entry_at ram (entry_address va level table))) refl
inside_found ram mode sum mxr kind va zero table part true is lower =
    let end : Stops ram mode sum mxr kind 0 (entry_address va 0 table) WalkFault.Page = (part, (λ leads. let above : 0 < 0 = leads.above in absurd (omega arith)), pointer_permits_nothing mode sum mxr kind 0 (entry_at ram (entry_address va 0 table)) is) in
    at_once ram mode sum mxr kind va zero table (Err WalkFault.Page) end (stops_here ram mode sum mxr kind va WalkFault.Page zero table end)
inside_found ram mode sum mxr kind va (suc level) table part true is lower =
    let at = entry_address va (suc level) table in
    let leads : LeadsOn ram (suc level) at = record { inside = part; pointer = is; above = omega arith } in
    let down = walked_down ram mode sum mxr kind va (suc level) table ((has_part_is ram at 8).1 part) is in
    let below = further ram mode sum mxr kind va level table (walked ram mode sum mxr kind va (suc level) (page_of (entry_at ram at))) leads (lower level (page_of (entry_at ram at)) refl) in
    subst (HasWay ram mode sum mxr kind va (suc level) table) (sym down) below

-- by whether its entry lies in memory
entry_found : (ram : List ℕ) (mode : Mode) (sum mxr : Bool) (kind : Kind) (va level table : ℕ) → (inside : Bool) → has_entry ram (entry_address va level table) ≡ inside → ((below page : ℕ) → level ≡ suc below → HasWay ram mode sum mxr kind va below page (walked ram mode sum mxr kind va (suc below) page)) → HasWay ram mode sum mxr kind va level table (walked ram mode sum mxr kind va (suc level) table)
entry_found ram mode sum mxr kind va level table true is lower =
    inside_found ram mode sum mxr kind va level table ((has_part_is ram (entry_address va level table) 8).0 is) (is_pointer (entry_at ram (entry_address va level table))) refl lower
entry_found ram mode sum mxr kind va level table false is lower =
    let out : HasPart ram (entry_address va level table) 8 → ⊥ = λ part. let inside = (has_part_is ram (entry_address va level table) 8).1 part in cc in
    at_once ram mode sum mxr kind va level table (Err WalkFault.Access) out (walked_outside ram mode sum mxr kind va level table is)

-- each walk has a way that ends as it answers
pub walked_has_way : (ram : List ℕ) (mode : Mode) (sum mxr : Bool) (kind : Kind) (va level table : ℕ) → HasWay ram mode sum mxr kind va level table (walked ram mode sum mxr kind va (suc level) table)
walked_has_way ram mode sum mxr kind va zero table =
    entry_found ram mode sum mxr kind va zero table (has_entry ram (entry_address va zero table)) refl (λ below page is. absurd (omega arith))
walked_has_way ram mode sum mxr kind va (suc level) table =
    entry_found ram mode sum mxr kind va (suc level) table (has_entry ram (entry_address va (suc level) table)) refl
    (λ below page is. let same : level ≡ below = omega arith in subst (λ (b : ℕ). HasWay ram mode sum mxr kind va b page (walked ram mode sum mxr kind va (suc b) page)) same (walked_has_way ram mode sum mxr kind va level page))
