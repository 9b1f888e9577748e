-- When a call of the outside may answer a fault: by the object's count of faults, before and after.
use Rattle.std.specs.Prelude.{◌≡◌, ℕ, ◌+◌, ◌-◌, ◌^◌, ◌<◌, ◌≤◌, min, Result, OnOk, IsErrOf}
use Rattle.outside_io.specs.declared.OutFault.{OutFault}
use Rattle.outside_io.specs.declared.OutFault.TheVariants.{Failed, NoMemory}

-- a count after one more: a `u64` that stays at its last value
abbrev pub raised : ℕ → ℕ
raised count = min (count + 1) (2 ^ 64 - 1)

-- exactly one call failed: the count is one more, or stands at its last value
abbrev pub Rose : ℕ → ℕ → Type 0
Rose before now = now ≡ raised before

-- a count of faults can still rise: it stands below its last value
abbrev pub CanRise : ℕ → Type 0
CanRise count = count < 2 ^ 64 - 1

-- the count is as before and below its last value, so it did not rise
pub record HasNotRisen (before now : ℕ) : Type 0 where
  pub same : now ≡ before
  pub not_risen : Rose before now → ⊥

-- what a call's answer says of its own count of faults
pub record HasCause {T : Type 0} (before now : ℕ) (result : Result T OutFault) : Type 0 where
  -- the count never falls
  pub later : before ≤ now
  -- `Failed` counts as one fault, whatever was tried
  pub failed : IsErrOf result Failed → Rose before now
  -- an answer leaves it
  pub kept : OnOk result (now ≡ before)
  -- and so does want of memory
  pub starved : IsErrOf result NoMemory → now ≡ before

-- what a call of a quiet object says: it did not fail, and the object is quiet still
pub record StaysQuiet {T : Type 0} (quiet_now : Type 0) (result : Result T OutFault) : Type 0 where
  pub unfailed : IsErrOf result Failed → ⊥
  pub still : quiet_now
