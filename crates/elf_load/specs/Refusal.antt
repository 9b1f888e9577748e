-- How a call tells a fault.
use Rattle.std.specs.Prelude.{◌≡◌, Option, Some, None, Result, MatchResult}
use Rattle.elf_load.specs.declared.fault.ElfFault.{ElfFault}

-- the call is refused with this very fault where there is one, and goes well where there is none
abbrev pub RefusedBy : {T : Type 0} → Option ElfFault → Result T ElfFault → Type 0
RefusedBy fault result = MatchResult result (λ _. fault ≡ None) (λ e. fault ≡ Some e)
