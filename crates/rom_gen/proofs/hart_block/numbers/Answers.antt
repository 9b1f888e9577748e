use Rattle.std.proofs.Common.{refl}
use Rattle.csr_file.specs.Legal.{is_kept_number, keeps_value, kept_numbers}
use Rattle.rom_gen.proofs.Writings.{from_all_of}
use Rattle.rom_gen.proofs.hart_block.numbers.Goals as goal

pub returns-clause-kept : goal.returns-clause-kept
unfolding is_kept_number keeps_value kept_numbers
returns-clause-kept c = from_all_of keeps_value kept_numbers refl
