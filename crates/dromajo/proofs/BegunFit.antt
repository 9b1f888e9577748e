-- A machine that begins at files of bytes is well formed and runs.
use Rattle.std.proofs.Common.{◌≡◌, ℕ, zero, suc, ◌+◌, ◌-◌, ◌*◌, ◌^◌, ◌<◌, ◌≤◌, ◌==◌, Bool, true, false, nat_lt, List, [], ◌∷◌, ◌++◌, length, drop, replicate, slice_index, slice_index_or, if◌then◌else◌, Option, Some, None, Result, Ok, Err, IfOk, inl, refl, sym, ap, subst, ◌∙◌, arith, lit<, lit≤}
use Rattle.std.proofs.lemmas.Bool.{ltb-false}
use Rattle.std.proofs.lemmas.Bool.Decides.{nat_tests}
use Rattle.std.proofs.lemmas.List.{length-append, length-replicate}
use Rattle.std.proofs.lemmas.List.Elements.{All-append, All-cons, All-drop, All-map, All-nil, All-replicate}
use Rattle.std.specs.Int.{byte_at as byte_of, bytes_low_first}
use Rattle.std.specs.List.{range_with_len}
use Rattle.byteorder.specs.Endian.{little_bytes}
use Rattle.byteorder.specs.Numbers.{little_from-lt}
use Rattle.device_rows.proofs.Places.{at_place}
use Rattle.guest_ram.specs.Bytes.{base}
use Rattle.rv_decode.specs.declared.Insn.{Insn}
use Rattle.rv_decode.specs.Encode.{encoded}
use Rattle.sim_config.specs.declared.fault.ConfigFault.{ConfigFault}
use Rattle.sim_config.specs.declared.values.Config.{Config}
use Rattle.sim_config.specs.declared.values.Meta.{Meta}
use Rattle.sim_config.specs.Ranges.{IsConfig, IsMeta, IsRamLength, IsShape}
use Rattle.sim_config.specs.Reading.{config_of, config_values, meta_of, meta_values, text_members, unless_fault}
use Rattle.sim_config.proofs.RangeLemmas.{config_in_range, meta_in_range}
use Rattle.elf_load.specs.declared.fault.ElfFault.{ElfFault}
use Rattle.elf_load.specs.declared.fault.ElfFault.TheVariants.{OutsideRam}
use Rattle.elf_load.specs.Format.{field, header_of, segment_of}
use Rattle.elf_load.specs.Loading.{HasHeader, byte_at, covers, entry_of, header_fault, load_fault, loaded_memory, memory_with, segment_byte, segments_fault}
use Rattle.elf_load.proofs.FirstLemmas.{option_or-none}
use Rattle.elf_load.proofs.MemoryLemmas.{length-memory_with}
use Rattle.machine_start.specs.declared.start.Start.{Start}
use Rattle.machine_start.specs.declared.fault.StartFault.{StartFault}
use Rattle.machine_start.specs.declared.fault.StartFault.TheVariants as start_fault
use Rattle.machine_start.specs.Start.{IsStart, flat_ram, flat_start, image_ram, program_of, program_start, start_from_image, start_of_config, start_of_program, start_unless, start_with_window, window_of}
use Rattle.machine_start.proofs.Starts.{program_fits, program_started}
use Rattle.seed_start.specs.Seed.{closing, drawn_insn, drawn_insns, image_of, opening, program_of as seed_program, shape_of, start_of_seed, state_of}
use Rattle.hart_step.specs.Fit.{AreBytes}
use Rattle.hart_step.specs.Memory.{most_rom}
use Rattle.hart_turns.specs.declared.booting.BootFault.{BootFault}
use Rattle.hart_turns.specs.Boot.{booted, machine_at}
use Rattle.hart_turns.specs.Fit.{IsFit}
use Rattle.hart_turns.specs.Machine.{MachineState}
use Rattle.hart_turns.proofs.BootEnds.{boots_end_lem}
use Rattle.hart_turns.proofs.BootFits.{boots_stay_fit_lem}
use Rattle.hart_turns.proofs.Fits.{debug_reset_is_fit_lem, reset_is_fit_lem}
use Rattle.image_saver.specs.declared.fault.LoadFault.{LoadFault}
use Rattle.image_saver.specs.declared.fault.LoadFault.TheVariants as load_fault
use Rattle.image_saver.specs.declared.fault.Part.{Part}
use Rattle.image_saver.specs.declared.fault.Part.TheVariants.{Bootram, Mainram}
use Rattle.image_saver.specs.Checkpoint.{Checkpoint, IsCheckpoint, checkpoint_of, debug_of, meta_file, of_length, part_file, with_meta, ◌>>=◌}
use Rattle.checkpoint_run.specs.Laws.{IsGoing}
use Rattle.outside_io.specs.Content.{Held, file_of}
use Rattle.turn_runs.specs.Resuming.{resume_acts}
use Rattle.job_words.specs.Job.{FromCheckpoint, FromConfig, FromImage, FromSeed}
use Rattle.dromajo.specs.Jobs.{Begun, begun_at, begun_by_boot, machine_of, restored}
use Rattle.dromajo.specs.Laws.{BegunIsFit, HoldsBytes}
use Rattle.dromajo.proofs.Begins.{reset_runs}

-- ---- bytes

-- a byte of bytes, which is 0 past their end
byte_in : (bytes : List ℕ) (k : ℕ) → AreBytes bytes → slice_index bytes k < 256
byte_in bytes k are = at_place (λ b. b < 256) bytes k are (lit< tt)

-- zeros are bytes
zeros_are : (n : ℕ) → AreBytes (replicate n 0)
zeros_are n = All-replicate (λ b. b < 256) n 0 (lit< tt)

either_byte : (b : Bool) (x y : ℕ) → x < 256 → y < 256 → (if b then x else y) < 256
either_byte true x y first second = first
either_byte false x y first second = second

-- ---- values without a fault

-- what holds of the values of a text without a fault holds of those that it stands for
accepted : {V : Type 0} (P : V → Type 0) (fault : Option ConfigFault) (values value : V) → (fault ≡ None → P values) → unless_fault fault values ≡ Ok value → P value
accepted P (Some fault) values value holds is = absurd (let is = is in cc)
accepted P None values value holds is = let same : values ≡ value = cc in subst P same (holds refl)

-- ---- a machine at reset

-- what the reset of a start asks
record StartsFit (start : Start) : Type 0 where
  is_start : IsStart start
  bytes : AreBytes start.ram
  below : start.entry < 2 ^ 64

-- the machine of a start is well formed and runs
reset_goes : (start : Start) → StartsFit start → IsGoing (machine_of start)
reset_goes start fits = record {
  fit = reset_is_fit_lem start.shape start.ram start.entry fits.is_start.shape fits.is_start.length fits.bytes fits.is_start.entry fits.below;
  running = reset_runs start.shape start.ram start.entry;
}

start_goes : (r : Result Start StartFault) (b : Begun) → IfOk r StartsFit → begun_at r ≡ Ok b → IsGoing b.machine
start_goes (Ok start) b fits is =
    let same : record { machine = machine_of start; acts = [] } ≡ b = cc in
    subst (λ (x : Begun). IsGoing x.machine) same (reset_goes start fits)
start_goes (Err fault) b fits is = absurd (let is = is in cc)

-- ---- the start of a program

-- a byte of memory is one of the file, or 0
loaded_byte : (file : List ℕ) (n at : ℕ) → AreBytes file → byte_at file n at < 256
unfolding byte_at
loaded_byte file zero at are = lit< tt
loaded_byte file (suc i) at are =
    either_byte (covers (segment_of file i) at) (segment_byte file (segment_of file i) at) (byte_at file i at)
    (either_byte (nat_lt (at - (segment_of file i).paddr) (segment_of file i).filesz) _ 0 (byte_in file _ are) (lit< tt))
    (loaded_byte file i at are)

loaded_are : (file : List ℕ) (n ram_len : ℕ) → AreBytes file → AreBytes (memory_with file n ram_len)
unfolding memory_with
loaded_are file n ram_len are =
    All-map (λ b. b < 256) (λ k. byte_at file n (base + k)) (range_with_len 0 ram_len) (λ k d within. loaded_byte file n (base + slice_index_or (range_with_len 0 ram_len) k d) are)

-- the entry is a number of eight bytes
entry_below : (file : List ℕ) → AreBytes file → entry_of file < 2 ^ 64
unfolding field
entry_below file are = little_from-lt 0 8 (drop 24 file) (λ k. byte_in (drop 24 file) k (All-drop (λ b. b < 256) 24 file are))

-- where no fault is met, there is a start
program_is_start : (config : Config) (file : List ℕ) (tohost : ℕ) → IsConfig config → HasHeader file → window_of config.tohost config.ram file ≡ Ok tohost → IsStart (program_start config file tohost)
program_is_start config file tohost ranges header window =
    let zeros : List ℕ = replicate config.ram 0 in
    let ram : List ℕ = loaded_memory file (length zeros) in
    let long : length ram ≡ config.ram = length-memory_with file (header_of file).phnum (length zeros) ∙ length-replicate {A = ℕ} config.ram 0 in
    let here : Ok tohost ≡ window_of config.tohost (length ram) file = sym window ∙ ap (λ (n : ℕ). window_of config.tohost n file) (sym long) in
    subst IsStart (sym (program_started config file zeros ram (entry_of file) tohost refl refl refl))
    (program_fits config file zeros ram (entry_of file) tohost ranges refl refl here refl header)

window_starts : (config : Config) (file : List ℕ) (window : Result ℕ ElfFault) → IsConfig config → AreBytes file → HasHeader file → window_of config.tohost config.ram file ≡ window → IfOk (start_with_window config file window) StartsFit
window_starts config file (Err fault) ranges are header is = tt
window_starts config file (Ok tohost) ranges are header is = record {
  is_start = program_is_start config file tohost ranges header is;
  bytes = loaded_are file (header_of file).phnum config.ram are;
  below = entry_below file are;
}

program_starts : (config : Config) (file : List ℕ) (fault : Option ElfFault) → IsConfig config → AreBytes file → load_fault file config.ram ≡ fault → IfOk (start_unless config file fault) StartsFit
program_starts config file (Some fault) ranges are is = tt
program_starts config file None ranges are is =
    window_starts config file (window_of config.tohost config.ram file) ranges are (option_or-none (header_fault file) (segments_fault file config.ram) is).0 refl

-- ---- a configuration

config_is : (text : List ℕ) (config : Config) → config_of text ≡ Ok config → IsConfig config
unfolding config_of
config_is text config is = accepted IsConfig _ (config_values (text_members text)) config (λ none. config_in_range text (text_members text) none refl) is

read_starts : (held : Held) (text : List ℕ) (r : Result Config ConfigFault) → HoldsBytes held → config_of text ≡ r → IfOk (program_of held r) StartsFit
unfolding start_of_program
read_starts held text (Err fault) bytes is = tt
read_starts held text (Ok config) bytes is =
    let file : List ℕ = file_of held config.program in
    program_starts config file (load_fault file config.ram) (config_is text config is) (bytes config.program) refl

config_starts : (held : Held) (name : List ℕ) → HoldsBytes held → IfOk (start_of_config held name) StartsFit
unfolding start_of_config
config_starts held name bytes = read_starts held (file_of held name) (config_of (file_of held name)) bytes refl

-- ---- a flat image

flat_length : IsRamLength flat_ram
flat_length = record { least = lit≤ tt; most = lit≤ tt; pages = refl }

-- an image with zeros after it fills the memory
image_length : (image : List ℕ) → length image ≤ flat_ram → length (image_ram image) ≡ flat_ram
image_length image fits =
    length-append image (replicate (flat_ram - length image) 0) ∙ ap (λ (n : ℕ). length image + n) (length-replicate {A = ℕ} (flat_ram - length image) 0) ∙ omega arith

image_are : (image : List ℕ) → AreBytes image → AreBytes (image_ram image)
image_are image are = All-append (λ b. b < 256) image (replicate (flat_ram - length image) 0) are (zeros_are (flat_ram - length image))

flat_starts : (image : List ℕ) (long : Bool) → AreBytes image → nat_lt flat_ram (length image) ≡ long → IfOk (if long then Err (start_fault.Elf (OutsideRam 0)) else Ok (flat_start image)) StartsFit
flat_starts image true are is = tt
flat_starts image false are is = record {
  is_start = record {
    shape = record { harts_least = lit≤ tt; harts_most = lit≤ tt; ram = flat_length; slice_least = lit≤ tt; slice_most = lit≤ tt; tohost = inl refl };
    length = image_length image (ltb-false flat_ram (length image) is);
    entry = refl;
  };
  bytes = image_are image are;
  below = lit< tt;
}

image_starts : (held : Held) (name : List ℕ) → HoldsBytes held → IfOk (start_from_image held name) StartsFit
unfolding start_from_image
image_starts held name bytes = flat_starts (file_of held name) (nat_lt flat_ram (length (file_of held name))) (bytes name) refl

-- ---- a seed

-- the bytes of a number, and of a program
low_byte : (i x : ℕ) → byte_of i x < 256
low_byte zero x = omega arith
low_byte (suc i) x = omega arith

low_bytes : (i n x : ℕ) → AreBytes (bytes_low_first i n x)
low_bytes i zero x = All-nil (λ b. b < 256)
low_bytes i (suc n) x = All-cons (λ b. b < 256) (byte_of i x) (bytes_low_first (suc i) n x) (low_byte i x) (low_bytes (suc i) n x)

insns_are : (insns : List Insn) → AreBytes (image_of insns)
unfolding image_of
insns_are [] = All-nil (λ b. b < 256)
insns_are (insn ∷ rest) = All-append (λ b. b < 256) (little_bytes 4 (encoded insn)) (image_of rest) (low_bytes 0 4 (encoded insn)) (insns_are rest)

-- each instruction has four bytes
insns_length : (insns : List Insn) → length (image_of insns) ≡ 4 * length insns
unfolding image_of
insns_length [] = refl
insns_length (insn ∷ rest) = length-append (little_bytes 4 (encoded insn)) (image_of rest) ∙ ap (λ (n : ℕ). 4 + n) (insns_length rest) ∙ omega arith

drawn_length : (seed n : ℕ) → length (drawn_insns seed n) ≡ n
unfolding drawn_insns
drawn_length seed zero = refl
drawn_length seed (suc n) = length-append (drawn_insns seed n) (drawn_insn (state_of seed n) ∷ []) ∙ ap (λ (k : ℕ). k + 1) (drawn_length seed n) ∙ omega arith

program_length : (seed : ℕ) → length (seed_program seed) ≡ 205
program_length seed =
    length-append opening (drawn_insns seed 200 ++ closing) ∙ ap (λ (k : ℕ). 4 + k) (length-append (drawn_insns seed 200) closing ∙ ap (λ (k : ℕ). k + 1) (drawn_length seed 200))

seed_fits : (seed : ℕ) → length (image_of (seed_program seed)) ≤ flat_ram
seed_fits seed =
    let long : length (image_of (seed_program seed)) ≡ 820 = insns_length (seed_program seed) ∙ ap (λ (k : ℕ). 4 * k) (program_length seed) in
    omega (arith, long)

seed_shape : (seed : ℕ) → IsShape (shape_of seed)
seed_shape seed = record { harts_least = omega arith; harts_most = omega arith; ram = flat_length; slice_least = omega arith; slice_most = omega arith; tohost = inl refl }

seed_starts : (seed : ℕ) → StartsFit (start_of_seed seed)
seed_starts seed = record {
  is_start = record { shape = seed_shape seed; length = image_length (image_of (seed_program seed)) (seed_fits seed); entry = refl };
  bytes = image_are (image_of (seed_program seed)) (insns_are (seed_program seed));
  below = lit< tt;
}

-- ---- a checkpoint

-- what its machine asks
record LoadsFit (c : Checkpoint) : Type 0 where
  is_checkpoint : IsCheckpoint c
  ram : AreBytes c.ram
  rom : AreBytes c.rom

meta_is : (text : List ℕ) (meta : Meta) → meta_of text ≡ Ok meta → IsMeta meta
unfolding meta_of
meta_is text meta is = accepted IsMeta _ (meta_values (text_members text)) meta (λ none. meta_in_range text (text_members text) none refl) is

-- so many bytes
abbrev IsPart : ℕ → List ℕ → Type 0
IsPart want bytes = (length bytes ≡ want) × AreBytes bytes

-- a part that is accepted is its file
part_by : (part : Part) (want : ℕ) (file : List ℕ) (fits : Bool) → AreBytes file → (length file == want) ≡ fits → IfOk (if fits then Ok file else Err (load_fault.Length part want (length file))) (IsPart want)
part_by part want file true are is = (grind (arith, nat_tests), are)
part_by part want file false are is = tt

part_is : (part : Part) (want : ℕ) (file : List ℕ) → AreBytes file → IfOk (of_length part want file) (IsPart want)
part_is part want file are = part_by part want file (length file == want) are refl

-- the text, the image and the ROM, each where those before it are accepted
with_rom : (meta : Meta) (ram : List ℕ) (r : Result (List ℕ) LoadFault) → IsMeta meta → length ram ≡ meta.shape.ram → AreBytes ram → IfOk r (IsPart meta.rom)
    → IfOk (r >>= λ rom. Ok (record { meta = meta; ram = ram; rom = rom })) LoadsFit
with_rom meta ram (Err fault) ranges long are fits = tt
with_rom meta ram (Ok rom) ranges long are fits = record { is_checkpoint = record { meta = ranges; ram = long; rom = fits.0 }; ram = are; rom = fits.1 }

with_ram : (meta : Meta) (r rom : Result (List ℕ) LoadFault) → IsMeta meta → IfOk r (IsPart meta.shape.ram) → IfOk rom (IsPart meta.rom)
    → IfOk (r >>= λ ram. rom >>= λ bytes. Ok (record { meta = meta; ram = ram; rom = bytes })) LoadsFit
with_ram meta (Err fault) rom ranges fits rom_fits = tt
with_ram meta (Ok ram) rom ranges fits rom_fits = with_rom meta ram rom ranges fits.0 fits.1 rom_fits

with_text : (held : Held) (name : List ℕ) (r : Result Meta ConfigFault) → HoldsBytes held → meta_of (file_of held (meta_file name)) ≡ r
    → IfOk (with_meta r >>= λ meta. of_length Mainram meta.shape.ram (file_of held (part_file Mainram name)) >>= λ ram. of_length Bootram meta.rom (file_of held (part_file Bootram name)) >>= λ rom. Ok (record { meta = meta; ram = ram; rom = rom })) LoadsFit
with_text held name (Err fault) bytes is = tt
with_text held name (Ok meta) bytes is =
    with_ram meta (of_length Mainram meta.shape.ram (file_of held (part_file Mainram name))) (of_length Bootram meta.rom (file_of held (part_file Bootram name)))
    (meta_is (file_of held (meta_file name)) meta is)
    (part_is Mainram meta.shape.ram (file_of held (part_file Mainram name)) (bytes (part_file Mainram name)))
    (part_is Bootram meta.rom (file_of held (part_file Bootram name)) (bytes (part_file Bootram name)))

checkpoint_loads : (held : Held) (name : List ℕ) → HoldsBytes held → IfOk (checkpoint_of held name) LoadsFit
unfolding checkpoint_of
checkpoint_loads held name bytes = with_text held name (meta_of (file_of held (meta_file name))) bytes refl

-- a boot without a fault leaves its machine well formed, and no hart of it in debug mode
boot_goes : (m : MachineState) (b : Begun) (fault : Option BootFault) → IsFit m → (booted m).fault ≡ fault → begun_by_boot m (booted m).left fault ≡ Ok b → IsGoing b.machine
boot_goes m b (Some fault) fit found is = absurd (let is = is in cc)
boot_goes m b None fit found is =
    let same : record { machine = machine_at m (booted m).left; acts = resume_acts (booted m).left.console m.taken } ≡ b = cc in
    subst (λ (x : Begun). IsGoing x.machine) same (record { fit = boots_stay_fit_lem m fit; running = boots_end_lem.freed m fit.shape.harts found })

load_goes : (r : Result Checkpoint LoadFault) (b : Begun) → IfOk r LoadsFit → restored r ≡ Ok b → IsGoing b.machine
load_goes (Err fault) b fits is = absurd (let is = is in cc)
load_goes (Ok c) b fits is =
    let meta = fits.is_checkpoint.meta in
    let room : length c.rom ≤ most_rom = omega (arith, fits.is_checkpoint.rom, meta.rom) in
    boot_goes (debug_of c) b (booted (debug_of c)).fault (debug_reset_is_fit_lem c.meta.shape c.meta.taken c.ram c.rom meta.shape fits.is_checkpoint.ram fits.ram fits.rom room) refl is

-- ---- every beginning

pub begun_is_fit : BegunIsFit
begun_is_fit held (FromConfig name) b bytes is = start_goes (start_of_config held name) b (config_starts held name bytes) is
begun_is_fit held (FromImage name) b bytes is = start_goes (start_from_image held name) b (image_starts held name bytes) is
begun_is_fit held (FromSeed seed) b bytes is = start_goes (Ok (start_of_seed seed)) b (seed_starts seed) is
begun_is_fit held (FromCheckpoint name) b bytes is = load_goes (checkpoint_of held name) b (checkpoint_loads held name bytes) is
