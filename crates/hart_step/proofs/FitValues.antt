-- What instructions compute and read has the width of a register.
use Rattle.std.proofs.Common.{ℕ, ◌-◌, ◌*◌, ◌/◌, ◌%◌, ◌^◌, ◌<◌, ◌==◌, ◌||◌, Bool, true, false, if◌then◌else◌, ℤ, pos, negsuc, ◌+ℤ◌, List, arith, bit_and, bit_or, drop, take, lit<, slice_index}
use Rattle.std.specs.Prelude.{◌*ℤ◌}
use Rattle.std.proofs.Math.Nat.{div-le_self, mod-le}
use Rattle.std.proofs.lemmas.Nat.{and_le_r, or_lt, xor_lt}
use Rattle.std.proofs.lemmas.List.Elements.{All-drop, All-take}
use Rattle.byteorder.specs.Numbers.{little_from-lt}
use Rattle.device_rows.proofs.Places.{at_place}
use Rattle.guest_ram.specs.Bytes.{base, number_at}
use Rattle.rv_alu.specs.Arithmetic.{alu_of, floor_div, modulo, mul_div_of}
use Rattle.rv_alu.specs.declared.BinOp.{BinOp}
use Rattle.rv_alu.specs.declared.MulOp.{MulOp}
use Rattle.csr_file.specs.declared.registers.Registers.{Registers}
use Rattle.csr_file.specs.Kept.{IsFit, kept_in, kept_value}
use Rattle.csr_file.specs.Numbers.{csr_cycle, csr_instret, csr_mcycle, csr_mhartid, csr_mideleg, csr_minstret, csr_mip, csr_misa, csr_sie, csr_sip, csr_sstatus, csr_time}
use Rattle.csr_file.specs.View.{IsGiven, view, volatile_bits}
use Rattle.csr_file.proofs.FitLaws.{kept_value-below}
use Rattle.hart_step.specs.Fit.{AreBytes}
use Rattle.hart_step.specs.Memory.{rom_base, rom_number}

-- ---- integers

pub modulo_below : (z : ℤ) → modulo 64 z < 2 ^ 64
modulo_below (pos a) = omega arith
modulo_below (negsuc a) = omega arith

pub either_below : (b : Bool) (x y : ℕ) → x < 2 ^ 64 → y < 2 ^ 64 → (if b then x else y) < 2 ^ 64
either_below true x y first second = first
either_below false x y first second = second

flag_below : (b : Bool) → (if b then 1 else 0) < 2 ^ 64
flag_below b = either_below b 1 0 (lit< tt) (lit< tt)

-- a part of a number
pub quotient_below : (a k : ℕ) → a < 2 ^ 64 → a / k < 2 ^ 64
quotient_below a k below = let least = div-le_self a k in omega arith

remainder_below : (a k : ℕ) → a < 2 ^ 64 → a % k < 2 ^ 64
remainder_below a k below = let least = mod-le a k in omega arith

pub and_below : (a b : ℕ) → b < 2 ^ 64 → bit_and a b < 2 ^ 64
and_below a b below = let least = and_le_r a b in omega arith

pub alu_below : (op : BinOp) (a b : ℕ) → a < 2 ^ 64 → b < 2 ^ 64 → alu_of op a b < 2 ^ 64
alu_below BinOp.Add a b first second = modulo_below (pos a +ℤ pos b)
alu_below BinOp.Sub a b first second = modulo_below _
alu_below BinOp.Sll a b first second = modulo_below (pos (a * 2 ^ (b % 64)))
alu_below BinOp.Slt a b first second = flag_below _
alu_below BinOp.Sltu a b first second = flag_below _
alu_below BinOp.Xor a b first second = xor_lt 64 a b first second
alu_below BinOp.Srl a b first second = quotient_below a _ first
alu_below BinOp.Sra a b first second = modulo_below _
alu_below BinOp.Or a b first second = or_lt 64 a b first second
alu_below BinOp.And a b first second = and_below a b second
alu_below BinOp.Addw a b first second = modulo_below _
alu_below BinOp.Subw a b first second = modulo_below _
alu_below BinOp.Sllw a b first second = modulo_below _
alu_below BinOp.Srlw a b first second = modulo_below _
alu_below BinOp.Sraw a b first second = modulo_below _

pub mul_div_below : (op : MulOp) (a b : ℕ) → a < 2 ^ 64 → b < 2 ^ 64 → mul_div_of op a b < 2 ^ 64
mul_div_below MulOp.Mul a b first second = modulo_below (pos a *ℤ pos b)
mul_div_below MulOp.Mulh a b first second = modulo_below _
mul_div_below MulOp.Mulhsu a b first second = modulo_below _
mul_div_below MulOp.Mulhu a b first second = modulo_below (floor_div (pos a *ℤ pos b) (2 ^ 64))
mul_div_below MulOp.Div a b first second = either_below (b == 0) _ _ (lit< tt) (modulo_below _)
mul_div_below MulOp.Divu a b first second = either_below (b == 0) _ _ (lit< tt) (quotient_below a b first)
mul_div_below MulOp.Rem a b first second = either_below (b == 0) _ _ first (modulo_below _)
mul_div_below MulOp.Remu a b first second = either_below (b == 0) _ _ first (remainder_below a b first)
mul_div_below MulOp.Mulw a b first second = modulo_below _
mul_div_below MulOp.Divw a b first second = modulo_below _
mul_div_below MulOp.Divuw a b first second = modulo_below _
mul_div_below MulOp.Remw a b first second = modulo_below _
mul_div_below MulOp.Remuw a b first second = modulo_below _

-- ---- what memory holds

-- the number in some of the bytes of a list
part_below : (bytes : List ℕ) (first size : ℕ) → AreBytes bytes → (k : ℕ) → slice_index (take size (drop first bytes)) k < 256
part_below bytes first size are k =
    at_place (λ b. b < 256) (take size (drop first bytes)) k (All-take (λ b. b < 256) size (drop first bytes) (All-drop (λ b. b < 256) first bytes are)) (omega arith)

pub number_below : (ram : List ℕ) (at size : ℕ) → AreBytes ram → number_at ram at size < 256 ^ size
number_below ram at size are = little_from-lt 0 size (take size (drop (at - base) ram)) (part_below ram (at - base) size are)

pub rom_number_below : (rom : List ℕ) (at size : ℕ) → AreBytes rom → rom_number rom at size < 256 ^ size
rom_number_below rom at size are = little_from-lt 0 size (take size (drop (at - rom_base) rom)) (part_below rom (at - rom_base) size are)

-- ---- control and status registers

volatile_bits_below : (number : ℕ) → volatile_bits number < 2 ^ 64
unfolding volatile_bits
volatile_bits_below number = grind arith

-- what a volatile register may read as
pub given_below : (number given : ℕ) → IsGiven number given → given < 2 ^ 64
given_below number given within =
    let least = and_le_r given (volatile_bits number) in
    let bits = volatile_bits_below number in
    omega (arith, within)

-- what an instruction reads of a register
pub view_below : (r : Registers) (number given : ℕ) → IsFit r → given < 2 ^ 64 → view r number given < 2 ^ 64
unfolding view kept_value kept_in
view_below r number given fit below =
    let pending : r.kept.mip < 2 ^ 64 = kept_value-below csr_mip r fit in
    let delegated : r.kept.mideleg < 2 ^ 64 = kept_value-below csr_mideleg r fit in
    let both : bit_or r.kept.mip given < 2 ^ 64 = or_lt 64 r.kept.mip given pending below in
    either_below (number == csr_sstatus) _ _ (and_below r.kept.mstatus _ (lit< tt)) (
    either_below (number == csr_sie) _ _ (and_below r.kept.mie r.kept.mideleg delegated) (
    either_below (number == csr_sip) _ _ (and_below _ r.kept.mideleg delegated) (
    either_below (number == csr_mip) _ _ both (
    either_below ((number == csr_cycle) || (number == csr_time) || (number == csr_mcycle)) _ _ below (
    either_below (number == csr_instret) _ _ (kept_value-below csr_minstret r fit) (
    either_below (number == csr_misa) _ _ (lit< tt) (
    either_below (number == csr_mhartid) _ _ (let small = fit.hart in omega (arith, small)) (
    kept_value-below number r fit))))))))
