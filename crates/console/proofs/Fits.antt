-- What every change of the registers keeps.
use Rattle.std.proofs.Common.{◌≡◌, ℕ, ◌^◌, ◌<◌, ◌==◌, ◌&&◌, Bool, true, false, if◌then◌else◌, [], ◌∷◌, ◌++◌, Option, Some, None, length, refl, subst, arith, lit<}
use Rattle.std.specs.Option.{option_map_or}
use Rattle.std.specs.Prelude.{nat_lt}
use Rattle.std.proofs.lemmas.Bool.{and_parts, eqb-true, ltb-true}
use Rattle.std.proofs.lemmas.List.{length-drop, length_push}
use Rattle.std.proofs.lemmas.List.Elements.{All-drop, All-nil, All-push}
use Rattle.rv_alu.specs.Bits.{low_bytes}
use Rattle.rv_alu.proofs.Bytes.{bytes_fit}
use Rattle.console.specs.State.{ConsoleRegisters, IsFit, entered, has_flag, loop_flag, queue_room, reset_registers}
use Rattle.console.specs.Access.{after_load, after_reading, stored, written}
use Rattle.console.specs.Layout.{register_at}
use Rattle.console.specs.declared.registers.Register.{Register}
use Rattle.console.specs.declared.registers.Register.TheVariants.{Data, Status, Ctrl, TxAddr, TxLen}

-- ---- input

enters_by : (r : ConsoleRegisters) → IsFit r → (byte : ℕ) → byte < 256 → (b : Bool) → nat_lt (length r.queue) queue_room ≡ b → IsFit (if b then record r { queue = r.queue ++ byte ∷ [] } else r)
enters_by r fit byte below true is = record {
  room = let free = ltb-true (length r.queue) queue_room is in let long = length_push r.queue byte in omega (arith, free, long);
  bytes = All-push (λ b. b < 256) r.queue byte fit.bytes below;
  ctrl = fit.ctrl;
  txaddr = fit.txaddr;
}
enters_by r fit byte below false is = fit

pub enters_fit : (r : ConsoleRegisters) → IsFit r → (byte : ℕ) → byte < 256 → IsFit (entered r byte)
enters_fit r fit byte below = enters_by r fit byte below (nat_lt (length r.queue) queue_room) refl

-- ---- loads

read_fits : (r : ConsoleRegisters) → IsFit r → (reg : Register) → IsFit (after_reading r reg)
read_fits r fit Data = record {
  room = let short = length-drop 1 r.queue in let room = fit.room in omega (arith, short, room);
  bytes = All-drop (λ b. b < 256) 1 r.queue fit.bytes;
  ctrl = fit.ctrl;
  txaddr = fit.txaddr;
}
read_fits r fit Status = fit
read_fits r fit Ctrl = fit
read_fits r fit TxAddr = fit
read_fits r fit TxLen = fit

found_read : (r : ConsoleRegisters) → IsFit r → (o : Option Register) → IsFit (option_map_or (after_reading r) o r)
found_read r fit None = fit
found_read r fit (Some reg) = read_fits r fit reg

pub loads_stay : (r : ConsoleRegisters) → IsFit r → (off size : ℕ) → IsFit (after_load r off size)
unfolding after_load
loads_stay r fit off size = found_read r fit (register_at off size)

-- ---- stores

data_fits : (r : ConsoleRegisters) → IsFit r → (v : ℕ) → v < 256 → (loops : Bool) → IsFit (if loops then entered r v else r)
data_fits r fit v below true = enters_fit r fit v below
data_fits r fit v below false = fit

-- a value of as many bytes as the register that is named has
sized : (a : Bool) (size k value : ℕ) → (a && (size == k)) ≡ true → low_bytes size value < 256 ^ k
sized a size k value is = subst (λ (n : ℕ). low_bytes size value < 256 ^ n) (eqb-true size k (and_parts a (size == k) is).1) (bytes_fit size value)

by_place : (r : ConsoleRegisters) → IsFit r → (size value : ℕ) (a d : Bool) (is_byte status ctrl address len : Bool) → (a && (size == 1)) ≡ is_byte → (d && (size == 8)) ≡ address → IsFit (option_map_or (written r (low_bytes size value)) (if is_byte then Some Data else if status then Some Status else if ctrl then Some Ctrl else if address then Some TxAddr else if len then Some TxLen else None) r)
by_place r fit size value a d true status ctrl address len named is_address = data_fits r fit (low_bytes size value) (sized a size 1 value named) (has_flag r loop_flag)
by_place r fit size value a d false true ctrl address len named is_address = fit
by_place r fit size value a d false false true address len named is_address = record { room = fit.room; bytes = fit.bytes; ctrl = omega arith; txaddr = fit.txaddr }
by_place r fit size value a d false false false true len named is_address = record { room = fit.room; bytes = fit.bytes; ctrl = fit.ctrl; txaddr = sized d size 8 value is_address }
by_place r fit size value a d false false false false true named is_address = fit
by_place r fit size value a d false false false false false named is_address = fit

pub stores_stay : (r : ConsoleRegisters) → IsFit r → (off size value : ℕ) → IsFit (stored r off size value)
unfolding stored register_at
stores_stay r fit off size value = by_place r fit size value (off == 0) (off == 0x10) _ _ _ _ _ refl refl

-- ---- reset

pub reset_fits : IsFit reset_registers
reset_fits = record { room = omega arith; bytes = All-nil (λ b. b < 256); ctrl = omega arith; txaddr = lit< tt }
