-- The values of the integer instructions, over whole numbers with sign and without bound.
-- A register's value is a number a below 2 ^ 64; `signed 64 a` is the signed number that its bits stand for.
use Rattle.std.specs.Prelude.{ℕ, ◌-◌, ◌*◌, ◌/◌, ◌%◌, ◌^◌, ◌==◌, Bool, not, ℤ, pos, negsuc, ◌+ℤ◌, ◌-ℤ◌, ◌*ℤ◌, int_lt, int_div, nat_lt, bit_and, bit_or, bit_xor, if◌then◌else◌}
use Rattle.rv_alu.specs.Bits.{low_bytes}
use Rattle.rv_alu.specs.declared.BinOp.{BinOp}
use Rattle.rv_alu.specs.declared.MulOp.{MulOp}
use Rattle.rv_alu.specs.declared.AmoOp.{AmoOp}
use Rattle.rv_alu.specs.declared.CondOp.{CondOp}

-- ---- numbers of n bits

-- the n bits of w from place lo up
abbrev pub bits_of : ℕ → ℕ → ℕ → ℕ
bits_of w lo n = w / 2 ^ lo % 2 ^ n

-- the two's-complement number that n bits stand for: a, less 2 ^ n where a is at least 2 ^ (n - 1)
abbrev pub signed : ℕ → ℕ → ℤ
signed n a = if nat_lt a (2 ^ (n - 1)) then pos a else (pos a -ℤ pos (2 ^ n))

-- z modulo 2 ^ n, a number from 0 to 2 ^ n - 1
abbrev pub modulo : ℕ → ℤ → ℕ
modulo n (pos a) = a % 2 ^ n
modulo n (negsuc a) = 2 ^ n - 1 - a % 2 ^ n

-- the quotient of z by m, rounded down
abbrev pub floor_div : ℤ → ℕ → ℤ
floor_div (pos a) m = pos (a / m)
floor_div (negsuc a) m = negsuc (a / m)

-- the low n bits of v with their sign, as 64 bits
abbrev pub sign_extended : ℕ → ℕ → ℕ
sign_extended v n = modulo 64 (signed n (v % 2 ^ n))

-- the low 32 bits of a register, which the W forms work on
abbrev pub low_word : ℕ → ℕ
low_word a = a % 2 ^ 32

-- what a W form gives: its result modulo 2 ^ 32, with the sign of these 32 bits
abbrev pub word_result : ℤ → ℕ
word_result z = sign_extended (modulo 32 z) 32

-- 1 where the test holds, else 0
abbrev pub flag : Bool → ℕ
flag test = if test then 1 else 0

-- ---- Unprivileged ISA, "Integer Computational Instructions" of RV32I and RV64I

-- shifts take the low 6 bits of b, and the low 5 in the W forms
abbrev pub alu_of : BinOp → ℕ → ℕ → ℕ
alu_of BinOp.Add a b = modulo 64 (pos a +ℤ pos b)
alu_of BinOp.Sub a b = modulo 64 (pos a -ℤ pos b)
alu_of BinOp.Sll a b = modulo 64 (pos (a * 2 ^ (b % 64)))
alu_of BinOp.Slt a b = flag (int_lt (signed 64 a) (signed 64 b))
alu_of BinOp.Sltu a b = flag (nat_lt a b)
alu_of BinOp.Xor a b = bit_xor a b
alu_of BinOp.Srl a b = a / 2 ^ (b % 64)
alu_of BinOp.Sra a b = modulo 64 (floor_div (signed 64 a) (2 ^ (b % 64)))
alu_of BinOp.Or a b = bit_or a b
alu_of BinOp.And a b = bit_and a b
alu_of BinOp.Addw a b = word_result (pos (low_word a) +ℤ pos (low_word b))
alu_of BinOp.Subw a b = word_result (pos (low_word a) -ℤ pos (low_word b))
alu_of BinOp.Sllw a b = word_result (pos (low_word a * 2 ^ (b % 32)))
alu_of BinOp.Srlw a b = word_result (pos (low_word a / 2 ^ (b % 32)))
alu_of BinOp.Sraw a b = word_result (floor_div (signed 32 (low_word a)) (2 ^ (b % 32)))

-- ---- Unprivileged ISA, "M" extension

-- a signed quotient of n bits: all ones where b is 0, else the quotient rounded toward zero.
-- The least number by -1 gives 2 ^ (n - 1), which is the least number again.
abbrev pub quotient : ℕ → ℕ → ℕ → ℕ
quotient n a b = if b == 0 then 2 ^ n - 1 else modulo n (int_div (signed n a) (signed n b))

-- a signed remainder: a where b is 0, else a less the quotient times b
abbrev pub remainder : ℕ → ℕ → ℕ → ℕ
remainder n a b = if b == 0 then a else modulo n (signed n a -ℤ int_div (signed n a) (signed n b) *ℤ signed n b)

-- an unsigned quotient and remainder of n bits
abbrev pub unsigned_quotient : ℕ → ℕ → ℕ → ℕ
unsigned_quotient n a b = if b == 0 then 2 ^ n - 1 else a / b

abbrev pub unsigned_remainder : ℕ → ℕ → ℕ
unsigned_remainder a b = if b == 0 then a else a % b

-- products are whole, and a high product is the whole product divided by 2 ^ 64, rounded down
abbrev pub mul_div_of : MulOp → ℕ → ℕ → ℕ
mul_div_of MulOp.Mul a b = modulo 64 (pos a *ℤ pos b)
mul_div_of MulOp.Mulh a b = modulo 64 (floor_div (signed 64 a *ℤ signed 64 b) (2 ^ 64))
mul_div_of MulOp.Mulhsu a b = modulo 64 (floor_div (signed 64 a *ℤ pos b) (2 ^ 64))
mul_div_of MulOp.Mulhu a b = modulo 64 (floor_div (pos a *ℤ pos b) (2 ^ 64))
mul_div_of MulOp.Div a b = quotient 64 a b
mul_div_of MulOp.Divu a b = unsigned_quotient 64 a b
mul_div_of MulOp.Rem a b = remainder 64 a b
mul_div_of MulOp.Remu a b = unsigned_remainder a b
mul_div_of MulOp.Mulw a b = word_result (pos (low_word a) *ℤ pos (low_word b))
mul_div_of MulOp.Divw a b = sign_extended (quotient 32 (low_word a) (low_word b)) 32
mul_div_of MulOp.Divuw a b = sign_extended (unsigned_quotient 32 (low_word a) (low_word b)) 32
mul_div_of MulOp.Remw a b = sign_extended (remainder 32 (low_word a) (low_word b)) 32
mul_div_of MulOp.Remuw a b = sign_extended (unsigned_remainder (low_word a) (low_word b)) 32

-- ---- Unprivileged ISA, "A" extension, "Atomic Memory Operations"

-- what an operation on n bits stores, where these bits were x and the operand is y
abbrev pub amo_at : AmoOp → ℕ → ℕ → ℕ → ℕ
amo_at AmoOp.Swap n x y = y
amo_at AmoOp.Add n x y = modulo n (pos x +ℤ pos y)
amo_at AmoOp.Xor n x y = bit_xor x y
amo_at AmoOp.And n x y = bit_and x y
amo_at AmoOp.Or n x y = bit_or x y
amo_at AmoOp.Min n x y = if int_lt (signed n y) (signed n x) then y else x
amo_at AmoOp.Max n x y = if int_lt (signed n x) (signed n y) then y else x
amo_at AmoOp.Minu n x y = if nat_lt y x then y else x
amo_at AmoOp.Maxu n x y = if nat_lt x y then y else x

-- the value to store in `size` bytes, from the low `size` bytes of both, with zeros above
abbrev pub amo_value_of : AmoOp → ℕ → ℕ → ℕ → ℕ
amo_value_of op size old b = amo_at op (8 * size) (low_bytes size old) (low_bytes size b)

-- ---- Unprivileged ISA, "Conditional Branches"

abbrev pub is_taken : CondOp → ℕ → ℕ → Bool
is_taken CondOp.Eq a b = a == b
is_taken CondOp.Ne a b = not (a == b)
is_taken CondOp.Lt a b = int_lt (signed 64 a) (signed 64 b)
is_taken CondOp.Ge a b = not (int_lt (signed 64 a) (signed 64 b))
is_taken CondOp.Ltu a b = nat_lt a b
is_taken CondOp.Geu a b = not (nat_lt a b)
