-- A page-table entry, a number of 64 bits (Privileged ISA, "Sv39: Page-Based 39-bit Virtual-Memory
-- System", "Addressing and Memory Protection"), and the access that a leaf permits.
use Rattle.std.specs.Prelude.{◌+◌, ◌*◌, ◌&&◌, ◌||◌, ◌==◌, ℕ, Bool, true, false, not}
use Rattle.rv_alu.specs.Arithmetic.{bits_of}
use Rattle.rv_alu.specs.Bits.{has_bit}
use Rattle.rv_alu.specs.declared.Mode.{Mode}
use Rattle.sv39_walk.specs.declared.Kind.{Kind}

-- ---- the fields

-- V, R, W, X, U, A and D
abbrev pub is_valid : ℕ → Bool
is_valid entry = has_bit entry 0

abbrev pub is_readable : ℕ → Bool
is_readable entry = has_bit entry 1

abbrev pub is_writable : ℕ → Bool
is_writable entry = has_bit entry 2

abbrev pub is_executable : ℕ → Bool
is_executable entry = has_bit entry 3

abbrev pub is_user : ℕ → Bool
is_user entry = has_bit entry 4

abbrev pub is_accessed : ℕ → Bool
is_accessed entry = has_bit entry 6

abbrev pub is_dirty : ℕ → Bool
is_dirty entry = has_bit entry 7

-- the physical page number, bits 53 to 10
abbrev pub page_of : ℕ → ℕ
page_of entry = bits_of entry 10 44

-- ---- the kinds of entry

-- V is set, no write without read, and the bits 63 to 54, which are reserved, are clear
abbrev pub is_well_formed : ℕ → Bool
is_well_formed entry = is_valid entry && (is_readable entry || not (is_writable entry)) && (bits_of entry 54 10 == 0)

-- a pointer to the next table: well formed, R, W and X clear, and A, D and U too, which are reserved in it
abbrev pub is_pointer : ℕ → Bool
is_pointer entry = is_well_formed entry
    && not (is_readable entry) && not (is_writable entry) && not (is_executable entry)
    && not (is_accessed entry) && not (is_dirty entry) && not (is_user entry)

-- a leaf: well formed, with R or X
abbrev pub is_leaf : ℕ → Bool
is_leaf entry = is_well_formed entry && (is_readable entry || is_executable entry)

-- ---- what a leaf permits ("Virtual Address Translation Process")

-- R for a load, or X where MXR is set; W and D for a store; X for a fetch
abbrev pub permits_kind : Bool → Kind → ℕ → Bool
permits_kind mxr Kind.Load entry = is_readable entry || (mxr && is_executable entry)
permits_kind mxr Kind.Store entry = is_writable entry && is_dirty entry
permits_kind mxr Kind.Fetch entry = is_executable entry

-- supervisor mode loads from and stores to a page of user mode where SUM is set, and never fetches from it
abbrev pub supervisor_may : Bool → Kind → Bool
supervisor_may sum Kind.Load = sum
supervisor_may sum Kind.Store = sum
supervisor_may sum Kind.Fetch = false

-- user mode wants the U bit, and supervisor mode wants it clear or SUM; machine mode is not translated
abbrev pub permits_mode : Mode → Bool → Kind → ℕ → Bool
permits_mode Mode.U sum kind entry = is_user entry
permits_mode Mode.S sum kind entry = not (is_user entry) || supervisor_may sum kind
permits_mode Mode.M sum kind entry = true

-- a leaf at level 2 or 1 is a superpage, which is aligned: the fields of its page number that the
-- address fills in are zero
abbrev pub is_aligned : ℕ → ℕ → Bool
is_aligned level entry = bits_of entry 10 (9 * level) == 0

-- a leaf at this level that permits the access; A is set for every kind
abbrev pub permits : Mode → Bool → Bool → Kind → ℕ → ℕ → Bool
permits mode sum mxr kind level entry =
    is_leaf entry && is_aligned level entry && is_accessed entry
    && permits_kind mxr kind entry && permits_mode mode sum kind entry

-- the address to which an aligned leaf at this level maps `va`: its page, with the lower fields of `va`
abbrev pub address_in : ℕ → ℕ → ℕ → ℕ
address_in level entry va = page_of entry * 4096 + bits_of va 0 (12 + 9 * level)
