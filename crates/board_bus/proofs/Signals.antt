-- Which bits the devices drive.
use Rattle.std.proofs.Common.{◌≡◌, ◌+◌, Bool, true, false, refl, bit_and}
use Rattle.board_bus.specs.Board.{driven_bits, live, signal}
use Rattle.board_bus.specs.Laws.{DrivesFourBits}

-- any signals of the four interrupts
four_bits : (software timer supervisor machine : Bool) → bit_and (signal 3 software + signal 7 timer + signal 9 supervisor + signal 11 machine) driven_bits ≡ signal 3 software + signal 7 timer + signal 9 supervisor + signal 11 machine
four_bits false false false false = refl
four_bits false false false true = refl
four_bits false false true false = refl
four_bits false false true true = refl
four_bits false true false false = refl
four_bits false true false true = refl
four_bits false true true false = refl
four_bits false true true true = refl
four_bits true false false false = refl
four_bits true false false true = refl
four_bits true false true false = refl
four_bits true false true true = refl
four_bits true true false false = refl
four_bits true true false true = refl
four_bits true true true false = refl
four_bits true true true true = refl

pub drives_four_bits_lem : DrivesFourBits
unfolding live
drives_four_bits_lem b h = four_bits _ _ _ _
