-- Guest memory as a list of bytes, and the words that every contract on it uses. An address is a
-- guest (physical) address: the first byte of the list has the address `base`.
use Rattle.std.specs.Prelude.{◌≡◌, ◌+◌, ◌-◌, ◌%◌, ◌≤◌, ◌<◌, ◌⊎◌, ◌++◌, ◌&&◌, ℕ, Bool, nat_le, List, length, take, drop}
use Rattle.byteorder.specs.Endian.{little_number}

-- the guest address of the first byte
abbrev pub base : ℕ
base = 0x80000000

-- the greatest length of a region, 256 MiB
abbrev pub most_bytes : ℕ
most_bytes = 0x10000000

-- a region has at least one byte, and at most the greatest length
pub record IsBounded (ram : List ℕ) : Type 0 where
  pub some : 0 < length ram
  pub most : length ram ≤ most_bytes

-- the n bytes from the address `at` all lie in a region of so many bytes; with n = 0, `at` lies in it or
-- one past its end
pub record IsInRam (ram_len at n : ℕ) : Type 0 where
  pub low : base ≤ at
  pub high : at + n ≤ base + ram_len

-- the same as a test
abbrev pub is_in_ram : ℕ → ℕ → ℕ → Bool
is_in_ram ram_len at n = nat_le base at && nat_le (at + n) (base + ram_len)

-- the n bytes from the address `at` all lie in the region
abbrev pub HasPart : List ℕ → ℕ → ℕ → Type 0
HasPart ram at n = IsInRam (length ram) at n

-- the same as a test
abbrev pub has_part : List ℕ → ℕ → ℕ → Bool
has_part ram at n = is_in_ram (length ram) at n

-- the n bytes from the address `at`
abbrev pub part_of : List ℕ → ℕ → ℕ → List ℕ
part_of ram at n = take n (drop (at - base) ram)

-- the region with these bytes from the address `at` on, and every other byte as it was; bytes past
-- its end are dropped, so that its length stays
abbrev pub with_part : List ℕ → ℕ → List ℕ → List ℕ
with_part ram at bytes =
    take (length ram) (take (at - base) ram ++ (bytes ++ drop (length bytes) (drop (at - base) ram)))

-- the number in the `size` bytes from the address `at`, the lowest byte first
-- (Unprivileged ISA, "Load and Store Instructions")
abbrev pub number_at : List ℕ → ℕ → ℕ → ℕ
number_at ram at size = little_number size (part_of ram at size)

-- the sizes of a memory access: a byte, a halfword, a word and a doubleword
abbrev pub IsSize : ℕ → Type 0
IsSize size = (size ≡ 1) ⊎ (size ≡ 2) ⊎ (size ≡ 4) ⊎ (size ≡ 8)

-- the address is naturally aligned: a multiple of the access's size
abbrev pub IsAligned : ℕ → ℕ → Type 0
IsAligned at size = at % size ≡ 0
