use Rattle.std.proofs.Common.{◌≡◌, replicate}
use Rattle.guest_ram.proofs.ram.zeroed.Given as goal

abbrev pub invariant-loop-i : goal.invariant-loop-i
invariant-loop-i l = (l.bytes.items ≡ replicate l.i 0) × (l.bytes.ptr ≡ l.fn.bytes.ptr) × (l.bytes.cap ≡ l.fn.bytes.cap)
