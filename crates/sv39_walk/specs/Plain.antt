-- The same translation as a plain reckoning, for definitions that compute it.
use Rattle.std.specs.Prelude.{ℕ, zero, suc, Bool, List, Result, Ok, Err, if◌then◌else◌}
use Rattle.rv_alu.specs.declared.Mode.{Mode}
use Rattle.guest_ram.specs.Bytes.{has_part}
use Rattle.sv39_walk.specs.declared.Kind.{Kind}
use Rattle.sv39_walk.specs.declared.WalkFault.{WalkFault}
use Rattle.sv39_walk.specs.Entry.{address_in, is_pointer, page_of, permits}
use Rattle.sv39_walk.specs.Walk.{entry_address, entry_at, is_canonical, is_untranslated, root_of}

-- whether the entry at an address lies in memory
abbrev pub has_entry : List ℕ → ℕ → Bool
has_entry ram at = has_part ram at 8

-- what the walk gives where it ends at this entry
abbrev pub arrived : Mode → Bool → Bool → Kind → ℕ → ℕ → ℕ → Result ℕ WalkFault
arrived mode sum mxr kind va level entry =
    if permits mode sum mxr kind level entry then Ok (address_in level entry va) else Err WalkFault.Page

-- what the walk gives from the table in a page on, with so many levels left
unfoldable pub walked : List ℕ → Mode → Bool → Bool → Kind → ℕ → ℕ → ℕ → Result ℕ WalkFault
walked ram mode sum mxr kind va zero table = Err WalkFault.Page
walked ram mode sum mxr kind va (suc level) table =
    let at = entry_address va level table in
    if has_entry ram at then
    if is_pointer (entry_at ram at) then walked ram mode sum mxr kind va level (page_of (entry_at ram at))
    else arrived mode sum mxr kind va level (entry_at ram at)
    else Err WalkFault.Access

-- the physical address, or the fault
unfoldable pub translated : List ℕ → ℕ → Mode → Bool → Bool → Kind → ℕ → Result ℕ WalkFault
translated ram satp mode sum mxr kind va =
    if is_untranslated satp mode then Ok va
    else if is_canonical va then walked ram mode sum mxr kind va 3 (root_of satp)
    else Err WalkFault.Page
