-- What contracts see of the block: the values of its registers.
use Rattle.std.specs.Prelude.{◌≡◌, ◌+◌, ◌-◌, ◌%◌, ◌^◌, ◌<◌, ◌≤◌, ℕ, Bool, ◌==◌, nat_le, List, length, replicate, slice_index, All}

-- msip and mtimecmp have one number for each hart, in order
pub record ClintRegisters : Type 0 where
  pub msip : List ℕ
  pub mtimecmp : List ℕ
  pub mtime : ℕ

-- how many harts the block serves
abbrev pub hart_count : ClintRegisters → ℕ
hart_count r = length r.msip

-- which registers are well formed: 1 to 8 harts, of each msip bit 0 alone, and times of 64 bits
pub record IsFit (r : ClintRegisters) : Type 0 where
  pub some : 0 < hart_count r
  pub most : hart_count r ≤ 8
  pub same : length r.mtimecmp ≡ hart_count r
  pub bits : All (λ x. x ≤ 1) r.msip
  pub compares : All (λ x. x < 2 ^ 64) r.mtimecmp
  pub time : r.mtime < 2 ^ 64

-- the registers at reset: no timer interrupt is due before the end of time
unfoldable pub reset_registers : ℕ → ClintRegisters
reset_registers harts = record {
  msip = replicate harts 0;
  mtimecmp = replicate harts (2 ^ 64 - 1);
  mtime = 0;
}

-- one tick later: mtime counts modulo 2 ^ 64 (Privileged ISA, "Machine Timer Registers")
abbrev pub ticked : ClintRegisters → ClintRegisters
ticked r = record r { mtime = (r.mtime + 1) % 2 ^ 64 }

-- the timer interrupt of hart h: mtime is at least its mtimecmp (Privileged ISA, "Machine Timer Registers")
abbrev pub is_timer_due : ClintRegisters → ℕ → Bool
is_timer_due r h = nat_le (slice_index r.mtimecmp h) r.mtime

-- the software interrupt of hart h: bit 0 of its msip
abbrev pub is_soft_due : ClintRegisters → ℕ → Bool
is_soft_due r h = slice_index r.msip h == 1
