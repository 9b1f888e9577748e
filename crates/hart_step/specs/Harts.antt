-- The state of the harts and of the memory that they share.
use Rattle.std.specs.Prelude.{◌≡◌, ◌==◌, ◌%◌, ℕ, zero, suc, Bool, List, [], ◌∷◌, ◌++◌, IfSome, Option, Some, None, IsNone, is_some, position, replicate, slice_index, slice_index_or, slice_set, if◌then◌else◌}
use Rattle.rv_alu.specs.declared.Mode.{Mode}
use Rattle.rv_alu.specs.declared.Mode.TheVariants as modes
use Rattle.csr_file.specs.Kept.{reset_registers}
use Rattle.hart_step.specs.declared.hart.Hart.{Hart}
use Rattle.hart_step.specs.declared.event.Priv.{Priv}
use Rattle.hart_step.specs.declared.event.Priv.TheVariants as privileges

-- a core: its harts in order of number, the memory from its first address on, and the boot ROM, which
-- is empty out of a boot
pub record CoreState : Type 0 where
  pub harts : List Hart
  pub ram : List ℕ
  pub rom : List ℕ

-- hart h at reset is in M mode at the entry, with every register 0, its control and status registers at
-- reset, and no reservation (Privileged ISA, "Reset")
abbrev pub reset_hart : ℕ → ℕ → Hart
reset_hart h entry = record { pc = entry; x = replicate 32 0; mode = modes.M; csrs = reset_registers h; reservation = None }

-- so many harts at reset, in order of number
unfoldable pub reset_harts : ℕ → ℕ → List Hart
reset_harts zero entry = []
reset_harts (suc n) entry = reset_harts n entry ++ reset_hart n entry ∷ []

abbrev pub reset_core : ℕ → List ℕ → ℕ → CoreState
reset_core harts ram entry = record { harts = reset_harts harts entry; ram = ram; rom = [] }

-- hart h of a core
abbrev pub hart_of : CoreState → ℕ → Hart
hart_of core h = slice_index_or core.harts h (reset_hart 0 0)

-- the value of a register
abbrev pub register : Hart → ℕ → ℕ
register hart i = slice_index hart.x i

-- a write to a register: one to x0 is dropped (Unprivileged ISA, "Programmers' Model for Base Integer ISA")
abbrev pub with_register : Hart → ℕ → ℕ → Hart
with_register hart rd value = if rd == 0 then hart else record hart { x = slice_set hart.x rd value }

-- the register that an event shows as written, with its value
abbrev pub shown_register : ℕ → ℕ → Option (ℕ × ℕ)
shown_register rd value = if rd == 0 then None else Some (rd, value)

-- a hart is in debug mode while it has the registers of that mode (External Debug Support, "Debug Mode")
abbrev pub is_in_debug : Hart → Bool
is_in_debug hart = is_some hart.csrs.debug

-- the lowest hart in debug mode, and none where no hart is in it
abbrev pub lowest_in_debug : CoreState → Option ℕ
lowest_in_debug core = position is_in_debug core.harts

-- the privilege that an event shows for a mode, and for a hart
abbrev pub mode_privilege : Mode → Priv
mode_privilege modes.U = privileges.U
mode_privilege modes.S = privileges.S
mode_privilege modes.M = privileges.M

abbrev pub privilege_of : Hart → Priv
privilege_of hart = if is_in_debug hart then privileges.D else mode_privilege hart.mode

-- what every hart keeps: x0 is 0, the pc is even, and a reservation is of eight aligned bytes
pub record IsFitHart (hart : Hart) : Type 0 where
  pub zero : slice_index hart.x 0 ≡ 0
  pub even : hart.pc % 2 ≡ 0
  pub aligned : IfSome hart.reservation (λ at. at % 8 ≡ 0)

-- a hart that is fit stays fit and keeps its number, and one that is out of debug mode stays out of it
pub record StaysFit (before after : Hart) : Type 0 where
  pub fit : IsFitHart after
  pub number : after.csrs.hart ≡ before.csrs.hart
  pub outside : IsNone before.csrs.debug → IsNone after.csrs.debug
