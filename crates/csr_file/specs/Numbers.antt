-- Which numbers name a register (Privileged ISA, "CSR Listing").
use Rattle.std.specs.Prelude.{ℕ, ◌/◌, ◌%◌, ◌^◌, ◌==◌, Bool, ◌&&◌, ◌||◌}
use Rattle.rv_alu.specs.Bits.{is_between}

-- supervisor registers, with 1 in bits 9:8
abbrev pub csr_sstatus : ℕ
csr_sstatus = 0x100

abbrev pub csr_sie : ℕ
csr_sie = 0x104

abbrev pub csr_stvec : ℕ
csr_stvec = 0x105

abbrev pub csr_scounteren : ℕ
csr_scounteren = 0x106

abbrev pub csr_senvcfg : ℕ
csr_senvcfg = 0x10a

abbrev pub csr_sscratch : ℕ
csr_sscratch = 0x140

abbrev pub csr_sepc : ℕ
csr_sepc = 0x141

abbrev pub csr_scause : ℕ
csr_scause = 0x142

abbrev pub csr_stval : ℕ
csr_stval = 0x143

abbrev pub csr_sip : ℕ
csr_sip = 0x144

abbrev pub csr_satp : ℕ
csr_satp = 0x180

-- machine registers, with 3 in bits 9:8
abbrev pub csr_mstatus : ℕ
csr_mstatus = 0x300

abbrev pub csr_misa : ℕ
csr_misa = 0x301

abbrev pub csr_medeleg : ℕ
csr_medeleg = 0x302

abbrev pub csr_mideleg : ℕ
csr_mideleg = 0x303

abbrev pub csr_mie : ℕ
csr_mie = 0x304

abbrev pub csr_mtvec : ℕ
csr_mtvec = 0x305

abbrev pub csr_mcounteren : ℕ
csr_mcounteren = 0x306

abbrev pub csr_menvcfg : ℕ
csr_menvcfg = 0x30a

abbrev pub csr_mcountinhibit : ℕ
csr_mcountinhibit = 0x320

abbrev pub csr_mhpmevent_first : ℕ
csr_mhpmevent_first = 0x323

abbrev pub csr_mhpmevent_last : ℕ
csr_mhpmevent_last = 0x33f

abbrev pub csr_mscratch : ℕ
csr_mscratch = 0x340

abbrev pub csr_mepc : ℕ
csr_mepc = 0x341

abbrev pub csr_mcause : ℕ
csr_mcause = 0x342

abbrev pub csr_mtval : ℕ
csr_mtval = 0x343

abbrev pub csr_mip : ℕ
csr_mip = 0x344

abbrev pub csr_pmpcfg_first : ℕ
csr_pmpcfg_first = 0x3a0

abbrev pub csr_pmpcfg_last : ℕ
csr_pmpcfg_last = 0x3ae

abbrev pub csr_pmpaddr_first : ℕ
csr_pmpaddr_first = 0x3b0

abbrev pub csr_pmpaddr_last : ℕ
csr_pmpaddr_last = 0x3ef

-- registers of debug mode (External Debug Support, "Core Debug Registers")
abbrev pub csr_dcsr : ℕ
csr_dcsr = 0x7b0

abbrev pub csr_dpc : ℕ
csr_dpc = 0x7b1

abbrev pub csr_dscratch0 : ℕ
csr_dscratch0 = 0x7b2

abbrev pub csr_dscratch1 : ℕ
csr_dscratch1 = 0x7b3

-- counters
abbrev pub csr_mcycle : ℕ
csr_mcycle = 0xb00

abbrev pub csr_minstret : ℕ
csr_minstret = 0xb02

abbrev pub csr_mhpmcounter_last : ℕ
csr_mhpmcounter_last = 0xb1f

abbrev pub csr_cycle : ℕ
csr_cycle = 0xc00

abbrev pub csr_time : ℕ
csr_time = 0xc01

abbrev pub csr_instret : ℕ
csr_instret = 0xc02

abbrev pub csr_hpmcounter_last : ℕ
csr_hpmcounter_last = 0xc1f

-- what the hart is
abbrev pub csr_mvendorid : ℕ
csr_mvendorid = 0xf11

abbrev pub csr_mhartid : ℕ
csr_mhartid = 0xf14

abbrev pub csr_mconfigptr : ℕ
csr_mconfigptr = 0xf15

-- the supervisor registers: sstatus, sie to scounteren, senvcfg, sscratch to sip, satp
abbrev pub is_supervisor_number : ℕ → Bool
is_supervisor_number number =
    number == csr_sstatus || is_between csr_sie csr_scounteren number || number == csr_senvcfg || is_between csr_sscratch csr_sip number || number == csr_satp

-- the even pmpcfg registers and the pmpaddr registers
abbrev pub is_protection_number : ℕ → Bool
is_protection_number number =
    (is_between csr_pmpcfg_first csr_pmpcfg_last number && (number % 2 == 0)) || is_between csr_pmpaddr_first csr_pmpaddr_last number

-- the machine registers that are no counters: mstatus to mcounteren, menvcfg, mcountinhibit, the event
-- selectors, mscratch to mip, the protection registers
abbrev pub is_machine_number : ℕ → Bool
is_machine_number number =
    is_between csr_mstatus csr_mcounteren number || number == csr_menvcfg || number == csr_mcountinhibit || is_between csr_mhpmevent_first csr_mhpmevent_last number || is_between csr_mscratch csr_mip number || is_protection_number number

-- the registers of debug mode: dcsr, dpc, dscratch0, dscratch1 (External Debug Support, "Core Debug Registers")
abbrev pub is_debug_number : ℕ → Bool
is_debug_number number = is_between csr_dcsr csr_dscratch1 number

-- the machine counters: mcycle, and minstret to mhpmcounter31
abbrev pub is_machine_counter : ℕ → Bool
is_machine_counter number = number == csr_mcycle || is_between csr_minstret csr_mhpmcounter_last number

-- the counters that may be read below machine mode: cycle to hpmcounter31
abbrev pub is_user_counter : ℕ → Bool
is_user_counter number = is_between csr_cycle csr_hpmcounter_last number

-- mvendorid to mconfigptr
abbrev pub is_identity_number : ℕ → Bool
is_identity_number number = is_between csr_mvendorid csr_mconfigptr number

-- the numbers that name a register
unfoldable pub is_listed : ℕ → Bool
is_listed number =
    is_supervisor_number number || is_machine_number number || is_debug_number number || is_machine_counter number || is_user_counter number || is_identity_number number

-- the lowest mode that may name the register: bits 9:8 of its number
-- (Privileged ISA, "CSR Address Mapping Conventions")
abbrev pub lowest_mode : ℕ → ℕ
lowest_mode number = number / 2 ^ 8 % 2 ^ 2

-- a register whose number has 3 in bits 11:10 is read-only
abbrev pub is_read_only : ℕ → Bool
is_read_only number = number / 2 ^ 10 % 2 ^ 2 == 3
