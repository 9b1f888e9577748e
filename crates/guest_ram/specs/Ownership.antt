-- What the unsafe core owns: a block of bytes from the allocator.
use Rattle.std.specs.Prelude.{ℕ}
use mir.Syntax.{Ty, w8, ty_int, ty_array}

-- the type for which the block of n bytes is allocated
abbrev pub bytes_of : ℕ → Ty
bytes_of n = ty_array (ty_int w8) n
