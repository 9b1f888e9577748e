-- What contracts see of the controller: the values of its registers, and which sources are served. A context is a
-- hart at one of its levels: context 2h is hart h in machine mode, and context 2h + 1 is hart h in supervisor mode
-- (RISC-V Platform-Level Interrupt Controller Specification, "Interrupt Targets and Hart Contexts", "Interrupt
-- Priorities", "Interrupt Enables", "Priority Thresholds").
use Rattle.std.specs.Prelude.{◌≡◌, ◌*◌, ◌≤◌, ℕ, bit_and, List, length, replicate, All}

-- priority has one number for each of the sources 1 and 2, enable and threshold have one for each context, in
-- order. Bit s of an enable lets source s through to its context, and bit s of served is set from the claim of
-- source s to its completion
pub record PlicRegisters : Type 0 where
  pub priority : List ℕ
  pub enable : List ℕ
  pub threshold : List ℕ
  pub served : ℕ

-- how many contexts the controller serves, two for each hart
abbrev pub context_count : PlicRegisters → ℕ
context_count r = length r.enable

-- the bits of the sources 1 and 2
abbrev pub source_bits : ℕ
source_bits = 6

-- no bit but those of the sources is set
abbrev pub IsWithinSources : ℕ → Type 0
IsWithinSources x = bit_and x source_bits ≡ x

-- which registers are well formed: priorities and thresholds are 0 to 7
pub record IsFit (r : PlicRegisters) : Type 0 where
  pub sources : length r.priority ≡ 2
  pub some : 2 ≤ context_count r
  pub most : context_count r ≤ 16
  pub same : length r.threshold ≡ context_count r
  pub priorities : All (λ x. x ≤ 7) r.priority
  pub enables : All IsWithinSources r.enable
  pub thresholds : All (λ x. x ≤ 7) r.threshold
  pub served : IsWithinSources r.served

-- the registers at reset of a controller for this many harts
unfoldable pub reset_registers : ℕ → PlicRegisters
reset_registers harts = record {
  priority = replicate 2 0;
  enable = replicate (2 * harts) 0;
  threshold = replicate (2 * harts) 0;
  served = 0;
}
