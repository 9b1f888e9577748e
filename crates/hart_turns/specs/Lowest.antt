-- A boot by its steps: each is made by the lowest hart in debug mode, and the other harts are held (External Debug
-- Support, "Debug Mode"; the order and the bound on steps are this project's own).
use Rattle.std.specs.Prelude.{◌≡◌, ◌==◌, ◌+◌, ◌<◌, ◌≤◌, ℕ, zero, suc, IsTrue, Option, Some, None, if◌then◌else◌}
use Rattle.hart_step.specs.Harts.{lowest_in_debug}
use Rattle.hart_turns.specs.Boot.{Booting, begins_boot, boot_step, machine_at, most_steps, step_exception}
use Rattle.hart_turns.specs.Machine.{MachineState, is_running}

-- n steps lead from b to c, each made by the lowest hart in debug mode, and none of them an exception
unfoldable pub LowestLead : ℕ → Booting → Booting → Type 0
LowestLead zero b c = b ≡ c
LowestLead (suc n) b c =
    (h : ℕ) × ((lowest_in_debug b.core ≡ Some h) × (step_exception h b ≡ None) × LowestLead n (boot_step h b) c)

-- the steps of hart h: one where it is the lowest in debug mode, and those that follow; none where no hart is in that mode
abbrev pub counts : ℕ → Option ℕ → Booting → (Booting → ℕ) → ℕ
counts h None b following = 0
counts h (Some lowest) b following = (if lowest == h then 1 else 0) + following (boot_step lowest b)

-- how many of the first n steps from b, each made by the lowest hart in debug mode, are hart h's
unfoldable pub steps_of : ℕ → ℕ → Booting → ℕ
steps_of h zero b = 0
steps_of h (suc n) b = counts h (lowest_in_debug b.core) b (steps_of h n)

-- n steps lead from b to c, each made by the lowest hart in debug mode, none of them an exception, and at most 1,024 of
-- any hart
pub record BootLeads (n : ℕ) (b c : Booting) : Type 0 where
  pub lead : LowestLead n b c
  pub most : (h : ℕ) → steps_of h n b ≤ most_steps

-- n such steps of a machine lead to c, where no hart is in debug mode
pub record BootFrees (m : MachineState) (n : ℕ) (c : Booting) : Type 0 where
  pub leads : BootLeads n (begins_boot m) c
  pub running : IsTrue (is_running (machine_at m c))

-- n such steps of a machine lead to where the lowest hart in debug mode, h, has made fewer than 1,024 of them, and its
-- next step, which leads to c, is this exception
pub record BootTraps (m : MachineState) (n h pc cause : ℕ) (c : Booting) : Type 0 where
  pub before : Booting
  pub leads : BootLeads n (begins_boot m) before
  pub lowest : lowest_in_debug before.core ≡ Some h
  pub fewer : steps_of h n (begins_boot m) < most_steps
  pub exception : step_exception h before ≡ Some (pc, cause)
  pub left : c ≡ boot_step h before

-- n such steps of a machine lead to c, where the lowest hart in debug mode, h, has made 1,024 of them
pub record BootHolds (m : MachineState) (n h : ℕ) (c : Booting) : Type 0 where
  pub leads : BootLeads n (begins_boot m) c
  pub lowest : lowest_in_debug c.core ≡ Some h
  pub all : steps_of h n (begins_boot m) ≡ most_steps
