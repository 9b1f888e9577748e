-- The numbers of the privilege modes (Privileged ISA, "Privilege Levels").
use Rattle.std.specs.Prelude.{ℕ, ◌==◌, if◌then◌else◌}
use Rattle.rv_alu.specs.declared.Mode.{Mode}

-- the number of a mode
abbrev pub level : Mode → ℕ
level Mode.U = 0
level Mode.S = 1
level Mode.M = 3

-- the mode of a number in the fields MPP and prv, which never keep 2
abbrev pub mode_of : ℕ → Mode
mode_of number = if number == 3 then Mode.M else if number == 1 then Mode.S else Mode.U
