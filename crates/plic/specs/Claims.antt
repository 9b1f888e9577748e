-- Pending sources, claims, completions and notifications (RISC-V Platform-Level Interrupt Controller
-- Specification, "Interrupt Notifications", "Interrupt Pending Bits", "Priority Thresholds", "Interrupt Claim
-- Process", "Interrupt Completion").
use Rattle.std.specs.Prelude.{◌≡◌, ◌≢◌, ◌+◌, ◌-◌, ◌^◌, ◌≤◌, ℕ, Bool, IsTrue, ◌==◌, ◌&&◌, ◌||◌, not, nat_lt, bit_and, bit_or, if◌then◌else◌, slice_index}
use Rattle.rv_alu.specs.Bits.{has_bit}
use Rattle.plic.specs.State.{PlicRegisters, source_bits}

-- source s is pending where its level is high now and it is not served; no level is remembered
abbrev pub is_pending : PlicRegisters → ℕ → ℕ → Bool
is_pending r levels s = has_bit levels s && not (has_bit r.served s)

-- the pending word: bit s is set where source s is pending
abbrev pub pending_word : PlicRegisters → ℕ → ℕ
pending_word r levels =
    (if is_pending r levels 1 then 2 else 0) + (if is_pending r levels 2 then 4 else 0)

-- source s is pending and context c enables it
abbrev pub is_ready : PlicRegisters → ℕ → ℕ → ℕ → Bool
is_ready r c levels s = is_pending r levels s && has_bit (slice_index r.enable c) s

-- the priority of source s; 0 for source 0, which does not exist
abbrev pub priority_of : PlicRegisters → ℕ → ℕ
priority_of r s = if s == 0 then 0 else slice_index r.priority (s - 1)

-- source s where it is ready and has a higher priority than `best`, and else `best`
unfoldable pub preferred : PlicRegisters → ℕ → ℕ → ℕ → ℕ → ℕ
preferred r c levels best s =
    if is_ready r c levels s && nat_lt (priority_of r best) (priority_of r s) then s else best

-- the source that a claim of context c takes, whatever its threshold, or 0 for none
unfoldable pub claimed : PlicRegisters → ℕ → ℕ → ℕ
claimed r c levels = preferred r c levels (preferred r c levels 0 1) 2

-- a source that a claim of context c may take: ready, of a priority above 0
abbrev pub may_be_claimed : PlicRegisters → ℕ → ℕ → ℕ → Bool
may_be_claimed r c levels s =
    ((s == 1) || (s == 2)) && is_ready r c levels s && nat_lt 0 (priority_of r s)

-- the rule of claims: the answer is a source that may be claimed, of the highest priority and then of the lowest
-- number; it is 0, whose priority is 0, only where there is none
pub record IsBest (r : PlicRegisters) (c levels s : ℕ) : Type 0 where
  pub one : s ≢ 0 → IsTrue (may_be_claimed r c levels s)
  pub highest : (t : ℕ) → IsTrue (may_be_claimed r c levels t) → priority_of r t ≤ priority_of r s
  pub lowest : (t : ℕ) → IsTrue (may_be_claimed r c levels t) → priority_of r t ≡ priority_of r s → s ≤ t

-- the registers with source s served, and as they are for no source
unfoldable pub with_served : ℕ → PlicRegisters → PlicRegisters
with_served s r = if s == 0 then r else record r { served = bit_or r.served (2 ^ s) }

-- what a completion of source s by context c leaves: the source is no longer served where the context enables it,
-- and any other completion is ignored
unfoldable pub completed : ℕ → ℕ → PlicRegisters → PlicRegisters
completed c s r =
    if ((s == 1) || (s == 2)) && has_bit (slice_index r.enable c) s
    then record r { served = bit_and r.served (source_bits - 2 ^ s) }
    else r

-- source s is ready for context c, and its priority is above the threshold
abbrev pub is_above : PlicRegisters → ℕ → ℕ → ℕ → Bool
is_above r c levels s =
    is_ready r c levels s && nat_lt (slice_index r.threshold c) (priority_of r s)

-- the interrupt of context c is due: some source is above its threshold
abbrev pub is_due : PlicRegisters → ℕ → ℕ → Bool
is_due r c levels = is_above r c levels 1 || is_above r c levels 2
