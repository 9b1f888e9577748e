-- The values that registers keep: each write keeps a legal value (Privileged ISA, "CSR Field Specifications", WARL).
use Rattle.std.specs.Prelude.{◌≡◌, ℕ, ◌+◌, ◌-◌, ◌/◌, ◌%◌, ◌^◌, ◌==◌, Bool, ◌||◌, bit_and, bit_or, if◌then◌else◌, List, [], ◌∷◌}
use Rattle.std.specs.List.{list_any}
use Rattle.csr_file.specs.Numbers.{csr_dcsr, csr_dpc, csr_mcause, csr_mcounteren, csr_mcycle, csr_medeleg, csr_menvcfg, csr_mepc, csr_mideleg, csr_mie, csr_minstret, csr_mip, csr_mscratch, csr_mstatus, csr_mtval, csr_mtvec, csr_satp, csr_scause, csr_scounteren, csr_senvcfg, csr_sepc, csr_sscratch, csr_stval, csr_stvec, is_debug_number}
use Rattle.csr_file.specs.Bits.{all_bits, all_interrupts, counter_bits, dcsr_fixed, envcfg_fiom, even, medeleg_bits, mstatus_bits, mstatus_mpp, mstatus_mpp_reserved, mstatus_xlen, supervisor_interrupts, vector_bits}

-- the value at reset of a register that keeps a value (Privileged ISA, "Reset"; External Debug Support, "Debug Control
-- and Status")
unfoldable pub reset_value : ℕ → ℕ
reset_value number = if number == csr_mstatus then mstatus_xlen else if number == csr_dcsr then dcsr_fixed + 3 else 0

-- the registers that every hart keeps, in the order in which they are put back when a hart is restored
unfoldable pub kept_numbers : List ℕ
kept_numbers =
    csr_mstatus ∷ csr_medeleg ∷ csr_mideleg ∷ csr_mie ∷ csr_mtvec ∷ csr_mcounteren ∷ csr_menvcfg ∷ csr_mscratch ∷ csr_mepc ∷ csr_mcause ∷ csr_mtval ∷ csr_mip ∷ csr_stvec ∷ csr_scounteren ∷ csr_senvcfg ∷ csr_sscratch ∷ csr_sepc ∷ csr_scause ∷ csr_stval ∷ csr_satp ∷ csr_mcycle ∷ csr_minstret ∷ []

-- a fact that holds of each number of a list
abbrev pub EachNumber : (ℕ → Type 0) → List ℕ → Type 0
EachNumber P [] = Unit {0}
EachNumber P (number ∷ rest) = P number × EachNumber P rest

unfoldable pub is_kept_number : ℕ → Bool
is_kept_number number = list_any (λ n. number == n) kept_numbers

-- the registers that keep a value: those, and the four of debug mode
unfoldable pub keeps_value : ℕ → Bool
keeps_value number = is_kept_number number || is_debug_number number

-- mstatus keeps its writable bits, where the reserved value 2 of MPP becomes 0, and SXL and UXL are
-- always 2 (Privileged ISA, "Machine Status Registers")
unfoldable pub legal_status : ℕ → ℕ
legal_status v =
    if bit_and v mstatus_mpp == mstatus_mpp_reserved
    then bit_or (bit_and v (mstatus_bits - mstatus_mpp)) mstatus_xlen
    else bit_or (bit_and v mstatus_bits) mstatus_xlen

-- satp keeps a value whose MODE, bits 63:60, is 0 (Bare) or 8 (Sv39); a write of another MODE changes
-- nothing (Privileged ISA, "Supervisor Address Translation and Protection Register")
unfoldable pub legal_translation : ℕ → ℕ → ℕ
legal_translation old v = if (v / 2 ^ 60 == 0) || (v / 2 ^ 60 == 8) then v else old

-- dcsr has fixed bits and the mode prv in bits 1:0, where the reserved value 2 becomes 0
-- (External Debug Support, "Debug Control and Status")
unfoldable pub legal_debug_control : ℕ → ℕ
legal_debug_control v = if v % 4 == 2 then dcsr_fixed else dcsr_fixed + v % 4

-- the bits that every other register keeps of what is written; its other bits read 0
unfoldable pub kept_bits : ℕ → ℕ
kept_bits number =
    if number == csr_medeleg then medeleg_bits
    else if number == csr_mideleg then supervisor_interrupts
    else if number == csr_mie then all_interrupts
    else if number == csr_mip then supervisor_interrupts
    else if (number == csr_mtvec) || (number == csr_stvec) then vector_bits
    else if (number == csr_mcounteren) || (number == csr_scounteren) then counter_bits
    else if (number == csr_menvcfg) || (number == csr_senvcfg) then envcfg_fiom
    else if (number == csr_mepc) || (number == csr_sepc) || (number == csr_dpc) then even
    else all_bits

-- the value that register `number` keeps, where it kept `old` and v is written
unfoldable pub legal : ℕ → ℕ → ℕ → ℕ
legal number old v =
    if number == csr_mstatus then legal_status v
    else if number == csr_satp then legal_translation old v
    else if number == csr_dcsr then legal_debug_control v
    else bit_and v (kept_bits number)

-- v is a value that register `number` keeps. It is then below 2 ^ 64
abbrev pub IsLegal : ℕ → ℕ → Type 0
IsLegal number v = legal number (reset_value number) v ≡ v
