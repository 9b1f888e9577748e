-- The start that files define, case by case.
use Rattle.std.proofs.Common.{◌≡◌, ℕ, ◌%◌, ◌<◌, ◌≤◌, List, ◌++◌, length, take, drop, replicate, Bool, true, false, nat_lt, Option, Some, None, Result, Ok, Err, IfSome, inl, inr, refl, sym, ap, subst, ◌∙◌, arith}
use Rattle.std.specs.Prelude.{codes, if◌then◌else◌}
use Rattle.std.specs.Option.{option_or}
use Rattle.std.proofs.lemmas.List.{places, same_lists, length-replicate, drop-replicate}
use Rattle.std.proofs.lemmas.List.FromFn.{length-map-range_with_len}
use Rattle.guest_ram.specs.Bytes.{base}
use Rattle.outside_io.specs.Content.{Held, file_of}
use Rattle.sim_config.specs.declared.fault.ConfigFault.{ConfigFault}
use Rattle.sim_config.specs.declared.fault.ConfigFault.TheVariants as config_fault
use Rattle.sim_config.specs.declared.values.Config.{Config}
use Rattle.sim_config.specs.Faults.{is_host_word}
use Rattle.sim_config.specs.Ranges.{IsConfig, IsHostWord, IsWindow}
use Rattle.sim_config.specs.Reading.{config_of, longest_text, text_fault}
use Rattle.sim_config.proofs.RangeLemmas.{in_ram}
use Rattle.elf_load.specs.declared.fault.ElfFault.{ElfFault}
use Rattle.elf_load.specs.declared.fault.ElfFault.TheVariants.{OutsideRam, TooLong, WrongKind}
use Rattle.elf_load.specs.declared.fault.ElfField.TheVariants.{Tohost}
use Rattle.elf_load.specs.Loading.{HasHeader, entry_of, header_fault, load_fault, loaded_memory, longest_file, memory_with, segments_fault}
use Rattle.elf_load.specs.Symbols.{symbol_value}
use Rattle.elf_load.proofs.HeaderLemmas.{even_entry}
use Rattle.machine_start.specs.declared.start.Start.{Start}
use Rattle.machine_start.specs.declared.fault.StartFault.{StartFault}
use Rattle.machine_start.specs.declared.fault.StartFault.TheVariants as start_fault
use Rattle.machine_start.specs.Start.{IsStart, flat_ram, flat_shape, flat_start, image_ram, program_of, program_start, start_from_image, start_of_config, start_of_program, start_unless, start_with_window, symbol_window, window_of}

above : (a b : ℕ) → a < b → nat_lt a b ≡ true
above a b less = grind arith

not_above : (a b : ℕ) → b ≤ a → nat_lt a b ≡ false
not_above a b most = grind arith

-- ---- a flat image

laid : (image ram : List ℕ) → length image ≤ length ram → take (length ram) (image ++ drop (length image) ram) ≡ image ++ drop (length image) ram
laid image ram fits = same_lists _ _ (grind (arith, places)) (λ k x h. grind (arith, places))

-- an image that is laid over zeros
image_laid : (image ram : List ℕ) → ram ≡ replicate flat_ram 0 → length image ≤ flat_ram → take (length ram) (image ++ drop (length image) ram) ≡ image_ram image
image_laid image ram zero fits =
    let len : length ram ≡ flat_ram = ap length zero ∙ length-replicate {A = ℕ} flat_ram 0 in
    let room : length image ≤ length ram = omega arith in
    laid image ram room
    ∙ ap (λ (xs : List ℕ). image ++ drop (length image) xs) zero
    ∙ ap (λ (xs : List ℕ). image ++ xs) (drop-replicate (length image) flat_ram 0)

abbrev pub started : List ℕ → Start
started ram = record { shape = flat_shape; ram = ram; entry = base }

pub flat_started : (image piece ram : List ℕ) → ram ≡ replicate flat_ram 0 → length image ≤ flat_ram → piece ≡ image → started (take (length ram) (piece ++ drop (length piece) ram)) ≡ flat_start image
flat_started image piece ram zero fits is =
    ap started (ap (λ (p : List ℕ). take (length ram) (p ++ drop (length p) ram)) is ∙ image_laid image ram zero fits)

-- an image that fits, and one that is too long
pub image_accepted : (held : Held) (name bytes : List ℕ) (start : Start) → bytes ≡ file_of held name → length (file_of held name) ≤ flat_ram → start ≡ flat_start bytes → start_from_image held name ≡ Ok start
unfolding start_from_image
image_accepted held name bytes start is fits same =
    ap (λ (b : Bool). if b then Err (start_fault.Elf (OutsideRam 0)) else Ok (flat_start (file_of held name))) (not_above flat_ram (length (file_of held name)) fits)
    ∙ ap Ok (ap flat_start (sym is) ∙ sym same)

pub image_too_long : (held : Held) (name : List ℕ) → flat_ram < length (file_of held name) → start_from_image held name ≡ Err (start_fault.Elf (OutsideRam 0))
unfolding start_from_image
image_too_long held name long =
    ap (λ (b : Bool). if b then Err (start_fault.Elf (OutsideRam 0)) else Ok (flat_start (file_of held name))) (above flat_ram (length (file_of held name)) long)

-- ---- a configuration

too_long_text : (text : List ℕ) → longest_text < length text → config_of text ≡ Err (config_fault.TooLong (length text))
unfolding config_of text_fault
too_long_text text long = let tested = above longest_text (length text) long in rw tested refl

-- a configuration's fault is that of the start
pub config_faulty : (held : Held) (name : List ℕ) (fault : ConfigFault) → config_of (file_of held name) ≡ Err fault → start_of_config held name ≡ Err (start_fault.Config fault)
unfolding start_of_config
config_faulty held name fault is = ap (program_of held) is

pub config_too_long : (held : Held) (name : List ℕ) (len : ℕ) → len ≡ length (file_of held name) → longest_text < length (file_of held name) → start_of_config held name ≡ Err (start_fault.Config (config_fault.TooLong len))
config_too_long held name len is long =
    config_faulty held name (config_fault.TooLong len) (too_long_text (file_of held name) long ∙ ap (λ (n : ℕ). Err (config_fault.TooLong n)) (sym is))

-- a configuration without a fault leads to its program
pub config_accepted : (held : Held) (name : List ℕ) (config : Config) (result : Result Start StartFault) → config_of (file_of held name) ≡ Ok config → start_of_program config (file_of held config.program) ≡ result → start_of_config held name ≡ result
unfolding start_of_config
config_accepted held name config result is program = ap (program_of held) is ∙ program

-- ---- a program

too_long_file : (file : List ℕ) → longest_file < length file → header_fault file ≡ Some (TooLong (length file))
unfolding header_fault
too_long_file file long = let tested = above longest_file (length file) long in rw tested refl

pub program_too_long : (config : Config) (file : List ℕ) (len : ℕ) → len ≡ length file → longest_file < length file → start_of_program config file ≡ Err (start_fault.Elf (TooLong len))
unfolding start_of_program
program_too_long config file len is long =
    ap (λ (fault : Option ElfFault). start_unless config file (option_or fault (segments_fault file config.ram))) (too_long_file file long)
    ∙ ap (λ (n : ℕ). Err (start_fault.Elf (TooLong n))) (sym is)

-- a memory of zeros has its length, and so has the memory with the program
zeros_length : (zeros : List ℕ) (ram_len : ℕ) → zeros ≡ replicate ram_len 0 → length zeros ≡ ram_len
zeros_length zeros ram_len zero = ap length zero ∙ length-replicate {A = ℕ} ram_len 0

loaded_length : (file zeros ram : List ℕ) (ram_len : ℕ) → zeros ≡ replicate ram_len 0 → ram ≡ loaded_memory file (length zeros) → length ram ≡ ram_len
unfolding memory_with
loaded_length file zeros ram ram_len zero loaded =
    ap length loaded ∙ length-map-range_with_len _ 0 (length zeros) ∙ zeros_length zeros ram_len zero

-- a fault of the loading is that of the start
pub program_refused : (config : Config) (file zeros : List ℕ) (fault : ElfFault) → zeros ≡ replicate config.ram 0 → load_fault file (length zeros) ≡ Some fault → start_of_program config file ≡ Err (start_fault.Elf fault)
unfolding start_of_program
program_refused config file zeros fault zero is =
    ap (start_unless config file) (subst (λ (n : ℕ). load_fault file n ≡ Some fault) (zeros_length zeros config.ram zero) is)

-- a program that was loaded has the start of its window
pub program_loaded : (config : Config) (file zeros ram : List ℕ) (window : Result ℕ ElfFault) → zeros ≡ replicate config.ram 0 → load_fault file (length zeros) ≡ None → ram ≡ loaded_memory file (length zeros) → window ≡ window_of config.tohost (length ram) file → start_of_program config file ≡ start_with_window config file window
unfolding start_of_program
program_loaded config file zeros ram window zero none loaded is =
    ap (start_unless config file) (subst (λ (n : ℕ). load_fault file n ≡ None) (zeros_length zeros config.ram zero) none)
    ∙ ap (start_with_window config file) (sym (is ∙ ap (λ (n : ℕ). window_of config.tohost n file) (loaded_length file zeros ram config.ram zero loaded)))

abbrev pub program_with : Config → ℕ → List ℕ → ℕ → Start
program_with config tohost ram entry = record {
  shape = record { harts = config.harts; ram = config.ram; slice = config.slice; tohost = tohost };
  ram = ram;
  entry = entry;
}

pub program_started : (config : Config) (file zeros ram : List ℕ) (entry tohost : ℕ) → zeros ≡ replicate config.ram 0 → ram ≡ loaded_memory file (length zeros) → entry ≡ entry_of file → program_start config file tohost ≡ program_with config tohost ram entry
program_started config file zeros ram entry tohost zero loaded at =
    ap (λ (r : List ℕ). program_with config tohost r (entry_of file)) (sym (loaded ∙ ap (loaded_memory file) (zeros_length zeros config.ram zero)))
    ∙ ap (program_with config tohost ram) (sym at)

-- ---- what the caller may rely on

word_window : (ram_len at tohost : ℕ) (b : Bool) → is_host_word ram_len at ≡ b → Ok tohost ≡ (if b then Ok at else Err (WrongKind Tohost)) → IsWindow ram_len tohost
word_window ram_len at tohost true word is = let same : tohost ≡ at = cc in inr (subst (IsHostWord ram_len) (sym same) (in_ram ram_len at word))
word_window ram_len at tohost false word is = absurd (let is = is in cc)

symbol_fits : (ram_len tohost : ℕ) (found : Result (Option ℕ) ElfFault) → Ok tohost ≡ symbol_window ram_len found → IsWindow ram_len tohost
symbol_fits ram_len tohost (Err fault) is = absurd (let is = is in cc)
symbol_fits ram_len tohost (Ok None) is = let same : tohost ≡ 0 = cc in inl same
symbol_fits ram_len tohost (Ok (Some at)) is = word_window ram_len at tohost (is_host_word ram_len at) refl is

-- the window of a program is none, or lies in memory
window_fits : (key : Option ℕ) (ram_len tohost : ℕ) (file : List ℕ) → IfSome key (IsWindow ram_len) → Ok tohost ≡ window_of key ram_len file → IsWindow ram_len tohost
window_fits None ram_len tohost file range is = symbol_fits ram_len tohost (symbol_value file (codes "tohost")) is
window_fits (Some at) ram_len tohost file range is = let same : tohost ≡ at = cc in subst (IsWindow ram_len) (sym same) range

-- the start of a program that was loaded is well-formed
pub program_fits : (config : Config) (file zeros ram : List ℕ) (entry tohost : ℕ) → IsConfig config → zeros ≡ replicate config.ram 0 → ram ≡ loaded_memory file (length zeros) → Ok tohost ≡ window_of config.tohost (length ram) file → entry ≡ entry_of file → HasHeader file → IsStart (program_with config tohost ram entry)
program_fits config file zeros ram entry tohost ranges zero loaded is at header =
    let same : length ram ≡ config.ram = loaded_length file zeros ram config.ram zero loaded in
    record {
      shape = record {
        harts_least = ranges.harts_least;
        harts_most = ranges.harts_most;
        ram = ranges.ram;
        slice_least = ranges.slice_least;
        slice_most = ranges.slice_most;
        tohost = window_fits config.tohost config.ram tohost file ranges.tohost (is ∙ ap (λ (n : ℕ). window_of config.tohost n file) same);
      };
      length = same;
      entry = ap (λ (n : ℕ). n % 2) at ∙ even_entry file header;
    }
