-- Bits and fields of the registers (Privileged ISA, "Machine-Level CSRs", "Supervisor CSRs").
use Rattle.std.specs.Prelude.{ℕ, ◌+◌, ◌-◌, ◌*◌, ◌^◌}

abbrev pub all_bits : ℕ
all_bits = 2 ^ 64 - 1

-- all but bit 0, of an address of an instruction
abbrev pub even : ℕ
even = all_bits - 2 ^ 0

-- all but bit 1, of a trap vector, whose mode in bits 1:0 is then 0 or 1
abbrev pub vector_bits : ℕ
vector_bits = all_bits - 2 ^ 1

-- mstatus ("Machine Status Registers")
abbrev pub mstatus_sie : ℕ
mstatus_sie = 2 ^ 1

abbrev pub mstatus_mie : ℕ
mstatus_mie = 2 ^ 3

abbrev pub mstatus_spie : ℕ
mstatus_spie = 2 ^ 5

abbrev pub mstatus_mpie : ℕ
mstatus_mpie = 2 ^ 7

abbrev pub mstatus_spp : ℕ
mstatus_spp = 2 ^ 8

abbrev pub mstatus_mprv : ℕ
mstatus_mprv = 2 ^ 17

abbrev pub mstatus_sum : ℕ
mstatus_sum = 2 ^ 18

abbrev pub mstatus_mxr : ℕ
mstatus_mxr = 2 ^ 19

abbrev pub mstatus_tvm : ℕ
mstatus_tvm = 2 ^ 20

abbrev pub mstatus_tw : ℕ
mstatus_tw = 2 ^ 21

abbrev pub mstatus_tsr : ℕ
mstatus_tsr = 2 ^ 22

-- the field MPP, bits 12:11, and its value 2, which is no mode
abbrev pub mstatus_mpp : ℕ
mstatus_mpp = 3 * 2 ^ 11

abbrev pub mstatus_mpp_reserved : ℕ
mstatus_mpp_reserved = 2 * 2 ^ 11

-- UXL, bits 33:32, and SXL, bits 35:34, at 2, which says 64 bits
abbrev pub mstatus_xlen : ℕ
mstatus_xlen = 2 * 2 ^ 32 + 2 * 2 ^ 34

-- the bits that a write to mstatus changes
abbrev pub mstatus_bits : ℕ
mstatus_bits =
    mstatus_sie + mstatus_mie + mstatus_spie + mstatus_mpie + mstatus_spp + mstatus_mpp + mstatus_mprv + mstatus_sum + mstatus_mxr + mstatus_tvm + mstatus_tw + mstatus_tsr

-- the bits of mstatus that sstatus writes, and those that it reads: UXL too ("Supervisor Status Register")
abbrev pub sstatus_bits : ℕ
sstatus_bits = mstatus_sie + mstatus_spie + mstatus_spp + mstatus_sum + mstatus_mxr

abbrev pub sstatus_read : ℕ
sstatus_read = sstatus_bits + 3 * 2 ^ 32

-- misa: MXL, bits 63:62, at 2, and the extensions A, C, I, M, S and U ("Machine ISA Register")
abbrev pub misa_value : ℕ
misa_value = 2 * 2 ^ 62 + (2 ^ 0 + 2 ^ 2 + 2 ^ 8 + 2 ^ 12 + 2 ^ 18 + 2 ^ 20)

-- the exceptions that can be delegated: 0 to 9 and the page faults 12, 13 and 15
-- ("Machine Trap Delegation Registers")
abbrev pub medeleg_bits : ℕ
medeleg_bits = 2 ^ 10 - 1 + 2 ^ 12 + 2 ^ 13 + 2 ^ 15

-- the interrupts: software, timer and external, of supervisor and of machine mode ("Machine Interrupt Registers")
abbrev pub supervisor_software : ℕ
supervisor_software = 2 ^ 1

abbrev pub machine_software : ℕ
machine_software = 2 ^ 3

abbrev pub supervisor_timer : ℕ
supervisor_timer = 2 ^ 5

abbrev pub machine_timer : ℕ
machine_timer = 2 ^ 7

abbrev pub supervisor_external : ℕ
supervisor_external = 2 ^ 9

abbrev pub machine_external : ℕ
machine_external = 2 ^ 11

-- those that can be delegated and that software can set
abbrev pub supervisor_interrupts : ℕ
supervisor_interrupts = supervisor_software + supervisor_timer + supervisor_external

abbrev pub all_interrupts : ℕ
all_interrupts = supervisor_interrupts + machine_software + machine_timer + machine_external

-- the bits of mip, and of sip, that devices drive
abbrev pub mip_live : ℕ
mip_live = machine_software + machine_timer + machine_external + supervisor_external

abbrev pub sip_live : ℕ
sip_live = supervisor_external

-- the counters cycle, time and instret, which have an enable bit ("Machine Counter-Enable Register")
abbrev pub counter_bits : ℕ
counter_bits = 2 ^ 0 + 2 ^ 1 + 2 ^ 2

-- the bit FIOM ("Machine Environment Configuration Registers")
abbrev pub envcfg_fiom : ℕ
envcfg_fiom = 2 ^ 0

-- dcsr without the mode prv in bits 1:0: xdebugver, bits 31:28, at 4, stopcount, stoptime, and cause, bits 8:6,
-- at 3 (External Debug Support, "Debug Control and Status")
abbrev pub dcsr_fixed : ℕ
dcsr_fixed = 4 * 2 ^ 28 + 2 ^ 10 + 2 ^ 9 + 3 * 2 ^ 6
