-- Where a trap goes and what its entry writes.
use Rattle.std.specs.Prelude.{ℕ, ◌+◌, ◌-◌, ◌*◌, ◌%◌, ◌^◌, ◌==◌, Bool, ◌&&◌, not, if◌then◌else◌}
use Rattle.rv_alu.specs.Bits.{has_bit}
use Rattle.rv_alu.specs.Modes.{level}
use Rattle.rv_alu.specs.declared.Mode.{Mode}
use Rattle.csr_file.specs.Numbers.{csr_mcause, csr_mepc, csr_mstatus, csr_mtval, csr_scause, csr_sepc, csr_stval}
use Rattle.csr_file.specs.Write.{written}
use Rattle.csr_file.specs.declared.registers.Registers.{Registers}
use Rattle.trap_rules.specs.declared.Cause.{Cause}
use Rattle.trap_rules.specs.Status.{machine_stacked, supervisor_stacked}

-- medeleg delegates exceptions and mideleg interrupts, each by the bit of its number
-- (Privileged ISA, "Machine Trap Delegation Registers")
abbrev pub is_delegated : Registers → Cause → Bool
is_delegated r (Cause.Exception n) = has_bit r.kept.medeleg n
is_delegated r (Cause.Interrupt n) = has_bit r.kept.mideleg n

-- what is delegated goes to S, but no trap goes from M to a lower mode
abbrev pub goes_to_supervisor : Registers → Mode → Cause → Bool
goes_to_supervisor r mode cause = not (level mode == 3) && is_delegated r cause

-- the mode in which the trap is handled
abbrev pub handling_mode : Registers → Mode → Cause → Mode
handling_mode r mode cause = if goes_to_supervisor r mode cause then Mode.S else Mode.M

-- the word of mcause and scause: the number of the cause, and bit 63 for an interrupt
-- (Privileged ISA, "Machine Cause Register", "Supervisor Cause Register")
abbrev pub cause_word : Cause → ℕ
cause_word (Cause.Exception n) = n
cause_word (Cause.Interrupt n) = 2 ^ 63 + n

-- the address of the handler: BASE, which is the vector without its two low bits, and in vectored mode, which is
-- 1 in these bits, 4 times the number of an interrupt above it
-- (Privileged ISA, "Machine Trap-Vector Base-Address Register", "Supervisor Trap Vector Base Address Register")
abbrev pub handler : ℕ → Cause → ℕ
handler vector (Cause.Exception n) = vector - vector % 2 ^ 2
handler vector (Cause.Interrupt n) =
    if vector % 2 ^ 2 == 1 then (vector - vector % 2 ^ 2 + 4 * n) % 2 ^ 64 else vector - vector % 2 ^ 2

-- the pc at which the hart goes on
abbrev pub handler_pc : Registers → Mode → Cause → ℕ
handler_pc r mode cause = handler (if goes_to_supervisor r mode cause then r.kept.stvec else r.kept.mtvec) cause

-- the registers after entry to M: mepc, mcause and mtval tell of the trap
-- (Privileged ISA, "Machine Exception Program Counter", "Machine Cause Register", "Machine Trap Value Register")
unfoldable pub machine_entered : Mode → Cause → ℕ → ℕ → Registers → Registers
machine_entered mode cause tval pc r =
    written csr_mtval tval (written csr_mcause (cause_word cause) (written csr_mepc pc (written csr_mstatus (machine_stacked mode r.kept.mstatus) r)))

-- the registers after entry to S: sepc, scause and stval tell of the trap
-- (Privileged ISA, "Supervisor Exception Program Counter", "Supervisor Cause Register", "Supervisor Trap Value Register")
unfoldable pub supervisor_entered : Mode → Cause → ℕ → ℕ → Registers → Registers
supervisor_entered mode cause tval pc r =
    written csr_stval tval (written csr_scause (cause_word cause) (written csr_sepc pc (written csr_mstatus (supervisor_stacked mode r.kept.mstatus) r)))

-- the registers after entry
unfoldable pub entered : Mode → Cause → ℕ → ℕ → Registers → Registers
entered mode cause tval pc r =
    if goes_to_supervisor r mode cause then supervisor_entered mode cause tval pc r else machine_entered mode cause tval pc r
