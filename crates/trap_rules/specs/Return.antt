-- The returns: mret and sret (Privileged ISA, "Trap-Return Instructions"), and dret (External Debug Support,
-- "Debug Mode").
use Rattle.std.specs.Prelude.{ℕ, ◌%◌, ◌^◌, Option, None, Some}
use Rattle.rv_alu.specs.Modes.{mode_of}
use Rattle.rv_alu.specs.declared.Mode.{Mode}
use Rattle.csr_file.specs.Numbers.{csr_mstatus}
use Rattle.csr_file.specs.Write.{written}
use Rattle.csr_file.specs.declared.registers.DebugRegs.{DebugRegs}
use Rattle.csr_file.specs.declared.registers.Registers.{Registers}
use Rattle.trap_rules.specs.Status.{machine_previous, machine_unstacked, supervisor_previous, supervisor_unstacked}

-- the registers after mret, which goes to the mode in MPP at mepc
unfoldable pub machine_returned : Registers → Registers
machine_returned r = written csr_mstatus (machine_unstacked r.kept.mstatus) r

-- the registers after sret, which goes to the mode in SPP at sepc
unfoldable pub supervisor_returned : Registers → Registers
supervisor_returned r = written csr_mstatus (supervisor_unstacked r.kept.mstatus) r

-- the registers after dret, which leaves debug mode
unfoldable pub debug_returned : Registers → Registers
debug_returned r = record r { debug = None }

-- the mode to which dret goes: prv, bits 1:0 of dcsr. Out of debug mode there is no dret
abbrev pub resumed_mode : Option DebugRegs → Mode
resumed_mode None = Mode.M
resumed_mode (Some d) = mode_of (d.dcsr % 2 ^ 2)

-- the pc to which dret goes
abbrev pub resumed_pc : Option DebugRegs → ℕ
resumed_pc None = 0
resumed_pc (Some d) = d.dpc

-- where a return from a handler goes: mret from one in M, and sret from one in S
abbrev pub return_mode : Mode → Registers → Mode
return_mode Mode.S r = supervisor_previous r.kept.mstatus
return_mode Mode.M r = machine_previous r.kept.mstatus
return_mode Mode.U r = Mode.U

abbrev pub return_pc : Mode → Registers → ℕ
return_pc Mode.S r = r.kept.sepc
return_pc Mode.M r = r.kept.mepc
return_pc Mode.U r = 0
