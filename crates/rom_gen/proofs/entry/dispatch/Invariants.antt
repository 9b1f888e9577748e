use Rattle.std.proofs.Common.{◌≡◌, ◌++◌, take}
use Rattle.rom_gen.specs.Items.{code}
use Rattle.rom_gen.specs.Rom.{dispatch_insns, table}
use Rattle.rom_gen.proofs.entry.dispatch.Given as goal

-- the words are written, and the entries that were gone over
abbrev pub invariant-loop-start : goal.invariant-loop-start
invariant-loop-start l = l.out.items ≡ code dispatch_insns ++ table (take l.start-index l.starts)
