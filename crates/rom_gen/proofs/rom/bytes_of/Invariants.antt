use Rattle.std.proofs.Common.{◌≡◌, ◌*◌, ◌≤◌, length, take}
use Rattle.rom_gen.specs.Rom.{addresses, all_blocks, start_places}
use Rattle.rom_gen.proofs.rom.bytes_of.Given as goal

-- the blocks of the harts that were gone over are written, and where each begins
abbrev pub invariant-loop-h : goal.invariant-loop-h
invariant-loop-h l = record {
  starts : l.starts.items ≡ take l.h (addresses (start_places l.board l.core.harts));
  blocks : l.blocks.items ≡ all_blocks (take l.h l.core.harts);
  room : length l.blocks.items ≤ 1112 * l.h;
}
