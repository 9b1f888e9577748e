-- What follows from the definitions.
use Rattle.std.specs.Prelude.{◌≡◌, ◌↔◌, ℕ, Bool, List, length, Ok, Err}
use Rattle.rv_alu.specs.declared.Mode.{Mode}
use Rattle.guest_ram.specs.Bytes.{HasPart, with_part}
use Rattle.sv39_walk.specs.declared.Kind.{Kind}
use Rattle.sv39_walk.specs.declared.WalkFault.{WalkFault}
use Rattle.sv39_walk.specs.Plain.{translated}
use Rattle.sv39_walk.specs.Remembered.{Agrees, DiffersOnlyIn, IsPartOf, IsUntouched, Remembered}
use Rattle.sv39_walk.specs.Walk.{Faults, Maps}

-- an access goes to one address at most
abbrev pub OneAddress : Type 0
OneAddress = (ram : List ℕ) (satp : ℕ) (mode : Mode) (sum mxr : Bool) (kind : Kind) (va pa other : ℕ) →
    Maps ram satp mode sum mxr kind va pa → Maps ram satp mode sum mxr kind va other → pa ≡ other

-- an access that goes to an address does not fault
abbrev pub NoFaultBeside : Type 0
NoFaultBeside = (ram : List ℕ) (satp : ℕ) (mode : Mode) (sum mxr : Bool) (kind : Kind) (va pa : ℕ) (fault : WalkFault) →
    Maps ram satp mode sum mxr kind va pa → Faults ram satp mode sum mxr kind va fault → ⊥

-- an access faults in one way at most
abbrev pub OneFault : Type 0
OneFault = (ram : List ℕ) (satp : ℕ) (mode : Mode) (sum mxr : Bool) (kind : Kind) (va : ℕ) (fault other : WalkFault) →
    Faults ram satp mode sum mxr kind va fault → Faults ram satp mode sum mxr kind va other → fault ≡ other

-- the plain reckoning gives the address to which an access goes, and the fault otherwise
abbrev pub ReckonsAddress : Type 0
ReckonsAddress = (ram : List ℕ) (satp : ℕ) (mode : Mode) (sum mxr : Bool) (kind : Kind) (va pa : ℕ) →
    (translated ram satp mode sum mxr kind va ≡ Ok pa) ↔ Maps ram satp mode sum mxr kind va pa

abbrev pub ReckonsFault : Type 0
ReckonsFault = (ram : List ℕ) (satp : ℕ) (mode : Mode) (sum mxr : Bool) (kind : Kind) (va : ℕ) (fault : WalkFault) →
    (translated ram satp mode sum mxr kind va ≡ Err fault) ↔ Faults ram satp mode sum mxr kind va fault

-- a walker that agreed with a memory, and keeps of it only what has no entry among some bytes, agrees
-- with every memory of the same length that differs in these bytes alone
abbrev pub KeepsAgreement : Type 0
KeepsAgreement = (walker kept : List Remembered) (at n : ℕ) (before after : List ℕ) →
    Agrees walker before → IsPartOf walker kept → IsUntouched at n kept → DiffersOnlyIn at n before after →
    Agrees kept after

-- a store changes its own bytes alone
abbrev pub StoreDiffers : Type 0
StoreDiffers = (ram bytes : List ℕ) (at : ℕ) →
    HasPart ram at (length bytes) → DiffersOnlyIn at (length bytes) ram (with_part ram at bytes)
