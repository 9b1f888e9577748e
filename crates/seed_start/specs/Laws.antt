-- What follows from the definitions: no instruction of a seed's loop stores to the program.
use Rattle.std.specs.Prelude.{ℕ, ℤ, pos, ◌≤◌, length}
use Rattle.rv_decode.specs.declared.Insn.{Insn}
use Rattle.seed_start.specs.Seed.{drawn_insn, image_of, program_of}

-- one of x1 to x15
abbrev pub IsDrawnRegister : ℕ → Type 0
IsDrawnRegister r = (1 ≤ r) × (r ≤ 15)

-- an instruction that writes no register but one of x1 to x15, and stores nothing but 8 bytes at x29 plus 0 to 1,016, or
-- 1 byte at x30
pub data IsConfined : Insn → Type 0 where
  -- operations and a load: a register is written, and nothing stored
  add : (rd rs1 rs2 : ℕ) → IsDrawnRegister rd → IsConfined (Insn.Add rd rs1 rs2)
  xor : (rd rs1 rs2 : ℕ) → IsDrawnRegister rd → IsConfined (Insn.Xor rd rs1 rs2)
  mul : (rd rs1 rs2 : ℕ) → IsDrawnRegister rd → IsConfined (Insn.Mul rd rs1 rs2)
  addi : (rd rs1 : ℕ) (imm : ℤ) → IsDrawnRegister rd → IsConfined (Insn.Addi rd rs1 imm)
  ld : (rd rs1 : ℕ) (imm : ℤ) → IsDrawnRegister rd → IsConfined (Insn.Ld rd rs1 imm)
  -- stores: no register is written
  sd : (rs2 off : ℕ) → off ≤ 1016 → IsConfined (Insn.Sd 29 rs2 (pos off))
  sb : (rs2 : ℕ) → IsConfined (Insn.Sb 30 rs2 (pos 0))
  -- an atomic addition at x29: both
  amoadd : (rd rs2 : ℕ) → IsDrawnRegister rd → IsConfined (Insn.AmoaddD rd 29 rs2)

-- each instruction that is drawn is such a one
abbrev pub DrawnAreConfined : Type 0
DrawnAreConfined = (s : ℕ) → IsConfined (drawn_insn s)

-- and the program ends before the data, to which x29 points, 1,024 bytes behind the program's start
abbrev pub EndsBeforeData : Type 0
EndsBeforeData = (seed : ℕ) → length (image_of (program_of seed)) ≤ 1024
