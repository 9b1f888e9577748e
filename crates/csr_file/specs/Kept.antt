-- The values that a hart keeps, by register number, and which records of registers are well formed.
use Rattle.std.specs.Prelude.{ℕ, ◌<◌, ◌==◌, if◌then◌else◌, IsTrue, None, unwrap_or}
use Rattle.std.specs.Option.{option_map, ForSome}
use Rattle.csr_file.specs.declared.registers.DebugRegs.{DebugRegs}
use Rattle.csr_file.specs.declared.registers.KeptRegs.{KeptRegs}
use Rattle.csr_file.specs.declared.registers.Registers.{Registers}
use Rattle.csr_file.specs.Numbers.{csr_dcsr, csr_dpc, csr_dscratch0, csr_dscratch1, csr_mcause, csr_mcounteren, csr_mcycle, csr_medeleg, csr_menvcfg, csr_mepc, csr_mideleg, csr_mie, csr_minstret, csr_mip, csr_mscratch, csr_mstatus, csr_mtval, csr_mtvec, csr_satp, csr_scause, csr_scounteren, csr_senvcfg, csr_sepc, csr_sscratch, csr_stval, csr_stvec, is_debug_number}
use Rattle.csr_file.specs.Legal.{IsLegal, is_kept_number, reset_value}

-- the value that register `number` keeps in every mode; 0 where it keeps none
unfoldable pub kept_in : ℕ → KeptRegs → ℕ
kept_in number k =
    if number == csr_mstatus then k.mstatus
    else if number == csr_medeleg then k.medeleg
    else if number == csr_mideleg then k.mideleg
    else if number == csr_mie then k.mie
    else if number == csr_mtvec then k.mtvec
    else if number == csr_mcounteren then k.mcounteren
    else if number == csr_menvcfg then k.menvcfg
    else if number == csr_mscratch then k.mscratch
    else if number == csr_mepc then k.mepc
    else if number == csr_mcause then k.mcause
    else if number == csr_mtval then k.mtval
    else if number == csr_mip then k.mip
    else if number == csr_stvec then k.stvec
    else if number == csr_scounteren then k.scounteren
    else if number == csr_senvcfg then k.senvcfg
    else if number == csr_sscratch then k.sscratch
    else if number == csr_sepc then k.sepc
    else if number == csr_scause then k.scause
    else if number == csr_stval then k.stval
    else if number == csr_satp then k.satp
    else if number == csr_mcycle then k.mcycle
    else if number == csr_minstret then k.minstret
    else 0

-- the registers each of which keeps what `value` says of its number
unfoldable pub kept_from : (ℕ → ℕ) → KeptRegs
kept_from value = record {
  mstatus = value csr_mstatus;
  medeleg = value csr_medeleg;
  mideleg = value csr_mideleg;
  mie = value csr_mie;
  mtvec = value csr_mtvec;
  mcounteren = value csr_mcounteren;
  menvcfg = value csr_menvcfg;
  mscratch = value csr_mscratch;
  mepc = value csr_mepc;
  mcause = value csr_mcause;
  mtval = value csr_mtval;
  mip = value csr_mip;
  stvec = value csr_stvec;
  scounteren = value csr_scounteren;
  senvcfg = value csr_senvcfg;
  sscratch = value csr_sscratch;
  sepc = value csr_sepc;
  scause = value csr_scause;
  stval = value csr_stval;
  satp = value csr_satp;
  mcycle = value csr_mcycle;
  minstret = value csr_minstret;
}

-- the same two of the registers of debug mode
unfoldable pub debug_kept : ℕ → DebugRegs → ℕ
debug_kept number d =
    if number == csr_dcsr then d.dcsr
    else if number == csr_dpc then d.dpc
    else if number == csr_dscratch0 then d.dscratch0
    else if number == csr_dscratch1 then d.dscratch1
    else 0

unfoldable pub debug_from : (ℕ → ℕ) → DebugRegs
debug_from value = record { dcsr = value csr_dcsr; dpc = value csr_dpc; dscratch0 = value csr_dscratch0; dscratch1 = value csr_dscratch1 }

-- the registers at reset of a hart with this number
unfoldable pub reset_registers : ℕ → Registers
reset_registers hart = record { hart = hart; kept = kept_from reset_value; debug = None }

-- the debug registers of a hart that comes out of reset in debug mode
unfoldable pub reset_debug_registers : DebugRegs
reset_debug_registers = debug_from reset_value

-- the value that register `number` keeps; 0 where it keeps none, and for a register of debug mode outside that mode
unfoldable pub kept_value : ℕ → Registers → ℕ
kept_value number r =
    if is_debug_number number then unwrap_or (option_map (debug_kept number) r.debug) 0 else kept_in number r.kept

-- these values by number, with x for `number`
abbrev pub replaced : ℕ → ℕ → (ℕ → ℕ) → ℕ → ℕ
replaced number x value n = if number == n then x else value n

-- the registers with x kept in register `number`, and all others as they are; the same registers where `number` keeps none
unfoldable pub with_kept : ℕ → ℕ → Registers → Registers
with_kept number x r =
    record r {
      kept = kept_from (replaced number x (λ n. kept_in n r.kept));
      debug = option_map (λ d. debug_from (replaced number x (λ n. debug_kept n d))) r.debug;
    }

-- every value that the debug registers keep is legal
abbrev pub IsDebugFit : DebugRegs → Type 0
IsDebugFit d = (number : ℕ) → IsTrue (is_debug_number number) → IsLegal number (debug_kept number d)

-- the hart's number is below 8, and every value that is kept is legal
pub record IsFit (r : Registers) : Type 0 where
  pub hart : r.hart < 8
  pub kept : (number : ℕ) → IsTrue (is_kept_number number) → IsLegal number (kept_in number r.kept)
  pub debug : ForSome r.debug IsDebugFit
