-- What a step adds to the counters (Privileged ISA, "Hardware Performance Monitor").
use Rattle.std.specs.Prelude.{ℕ, ◌+◌, ◌%◌, ◌^◌, ◌==◌, Bool, false, ◌||◌, not, if◌then◌else◌, Option, None, Some}
use Rattle.csr_file.specs.Numbers.{csr_mcycle, csr_minstret}
use Rattle.csr_file.specs.declared.registers.Registers.{Registers}

-- the step wrote this register
abbrev pub has_written : Option ℕ → ℕ → Bool
has_written None number = false
has_written (Some n) number = n == number

-- one more, modulo 2 ^ 64
abbrev pub next : ℕ → ℕ
next count = (count + 1) % 2 ^ 64

-- mcycle counts every step, and minstret every step that retired an instruction; a counter that the step
-- wrote keeps what was written
unfoldable pub counted : Bool → Option ℕ → Registers → Registers
counted retired wrote r =
    record r {
      kept = record r.kept {
        mcycle = if has_written wrote csr_mcycle then r.kept.mcycle else next r.kept.mcycle;
        minstret = if not retired || has_written wrote csr_minstret then r.kept.minstret else next r.kept.minstret;
      };
    }
