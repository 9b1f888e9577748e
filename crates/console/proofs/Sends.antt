-- How much a store sends.
use Rattle.std.proofs.Common.{◌≡◌, ℕ, ◌≤◌, ◌&&◌, Bool, true, false, List, [], ◌∷◌, length, take, Option, Some, None, nat_le, refl, arith, if◌then◌else◌}
use Rattle.std.specs.Option.{option_map_or}
use Rattle.std.proofs.lemmas.Bool.{and_parts, leb-true}
use Rattle.std.proofs.lemmas.List.{length-take}
use Rattle.guest_ram.specs.Bytes.{has_part, part_of}
use Rattle.console.specs.State.{ConsoleRegisters, has_flag, loop_flag}
use Rattle.console.specs.Access.{most_sent, sent, sent_by, sent_from}
use Rattle.console.specs.declared.registers.Register.{Register}
use Rattle.console.specs.declared.registers.Register.TheVariants.{Data, Status, Ctrl, TxAddr, TxLen}

short_part : (n : ℕ) (xs : List ℕ) → n ≤ 256 → length (take n xs) ≤ 256
short_part n xs most = let long = length-take n xs in omega arith

sent_short : (ram : List ℕ) (r : ConsoleRegisters) (n : ℕ) (may : Bool) → (may ≡ true → n ≤ 256) → length (if may then part_of ram r.txaddr n else []) ≤ 256
sent_short ram r n true most = short_part n _ (most refl)
sent_short ram r n false most = omega arith

from_short : (ram : List ℕ) (r : ConsoleRegisters) (n : ℕ) → length (sent_from ram r n) ≤ 256
from_short ram r n = sent_short ram r n (nat_le n most_sent && has_part ram r.txaddr n) (λ may. leb-true n most_sent (and_parts _ _ may).0)

unless_loop : (loops : Bool) (xs : List ℕ) → length xs ≤ 256 → length (if loops then [] else xs) ≤ 256
unless_loop true xs short = omega arith
unless_loop false xs short = short

register_short : (ram : List ℕ) (r : ConsoleRegisters) (v : ℕ) (register : Register) → length (sent_by ram r v register) ≤ 256
register_short ram r v Data = unless_loop (has_flag r loop_flag) (v ∷ []) (omega arith)
register_short ram r v Status = omega arith
register_short ram r v Ctrl = omega arith
register_short ram r v TxAddr = omega arith
register_short ram r v TxLen = unless_loop (has_flag r loop_flag) (sent_from ram r v) (from_short ram r v)

found_short : (ram : List ℕ) (r : ConsoleRegisters) (v : ℕ) (found : Option Register) → length (option_map_or (sent_by ram r v) found []) ≤ 256
found_short ram r v None = omega arith
found_short ram r v (Some register) = register_short ram r v register

pub store_short : (ram : List ℕ) (r : ConsoleRegisters) (off size value : ℕ) → length (sent ram r off size value) ≤ most_sent
unfolding sent
store_short ram r off size value = found_short ram r _ _
