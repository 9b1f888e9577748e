-- Writing the kept values back restores them.
use Rattle.std.specs.Prelude.{Some}
use Rattle.std.proofs.Common.{◌≡◌, ℕ, ◌+◌, refl}
use Rattle.rv_alu.specs.declared.Mode.{Mode}
use Rattle.rv_alu.specs.Modes.{level}
use Rattle.csr_file.specs.Bits.{dcsr_fixed}
use Rattle.csr_file.specs.Kept.{IsFit, debug_from, debug_kept, kept_from, kept_in, kept_value, reset_debug_registers, reset_registers, with_kept}
use Rattle.csr_file.specs.Legal.{kept_numbers, legal, legal_debug_control}
use Rattle.csr_file.specs.Numbers.{csr_dcsr, csr_dpc}
use Rattle.csr_file.specs.Write.{asked_value, changed_register, written}
use Rattle.csr_file.specs.declared.registers.Registers.{Registers}
use Rattle.csr_file.proofs.BackLaws.{put_back, put_back-all}
use Rattle.hart_step.specs.DebugReset.{debug_registers}

-- each register keeps a legal value, whatever was written before
pub kept_back : (target : Registers) → IsFit target → put_back target kept_numbers (debug_registers target.hart) ≡ record target { debug = Some reset_debug_registers }
unfolding reset_registers
kept_back target fit = put_back-all target (debug_registers target.hart) fit

legal_control : (old : ℕ) (mode : Mode) → legal csr_dcsr old (dcsr_fixed + level mode) ≡ dcsr_fixed + level mode
unfolding legal legal_debug_control
legal_control old Mode.U = refl
legal_control old Mode.S = refl
legal_control old Mode.M = refl

-- and so do the two that dret reads
pub debug_back : (target : Registers) (mode : Mode) (pc : ℕ) → ((old : ℕ) → legal csr_dpc old pc ≡ pc) →
    written csr_dpc pc (written csr_dcsr (dcsr_fixed + level mode) (record target { debug = Some reset_debug_registers })) ≡ record target { debug = Some (record reset_debug_registers { dcsr = dcsr_fixed + level mode; dpc = pc }) }
unfolding written changed_register asked_value with_kept kept_in kept_from debug_kept debug_from kept_value
debug_back target mode pc keeps = rw (legal_control, keeps) refl
