-- Bits, bytes and ranges of numbers.
use Rattle.std.specs.Prelude.{ℕ, ◌/◌, ◌%◌, ◌^◌, ◌==◌, Bool, ◌&&◌, nat_le}

-- bit n of w is set
abbrev pub has_bit : ℕ → ℕ → Bool
has_bit w n = w / 2 ^ n % 2 == 1

-- the number that the low `size` bytes of a value hold
abbrev pub low_bytes : ℕ → ℕ → ℕ
low_bytes size value = value % 256 ^ size

-- number is one of the numbers from first to last
abbrev pub is_between : ℕ → ℕ → ℕ → Bool
is_between first last number = nat_le first number && nat_le number last
