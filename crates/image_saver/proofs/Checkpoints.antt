-- The checkpoint that files define, case by case.
use Rattle.std.proofs.Common.{◌≡◌, ℕ, ◌<◌, List, length, Option, Some, None, IfSome, Ok, Err, true, nat_lt, subst, refl, sym, ap, ◌∙◌, arith}
use Rattle.outside_io.specs.Causes.{Rose}
use Rattle.outside_io.specs.Content.{Held, file_of}
use Rattle.sim_config.specs.declared.fault.ConfigFault.TheVariants as config_fault
use Rattle.sim_config.specs.declared.values.Meta.{Meta}
use Rattle.sim_config.specs.Ranges.{IsMeta}
use Rattle.sim_config.specs.Reading.{longest_text, meta_of, text_fault}
use Rattle.image_saver.specs.declared.fault.LoadFault.{LoadFault}
use Rattle.image_saver.specs.declared.fault.LoadFault.TheVariants as load_fault
use Rattle.image_saver.specs.declared.fault.Part.{Part}
use Rattle.image_saver.specs.declared.fault.Part.TheVariants.{Mainram, Bootram}
use Rattle.image_saver.specs.Checkpoint.{checkpoint_of, meta_file, of_length, part_file, part_length, with_meta}
use Rattle.image_saver.specs.Refusal.{IsOfPart, IsOfText, IsOfValues, LoadIsRefused}

pub told_three : {C : Type 0} (P Q R S : C → Type 0) (told : Option C) → ((c : C) → P c → Q c → R c → S c) → IfSome told P → IfSome told Q → IfSome told R → IfSome told S
told_three P Q R S None all p q r = tt
told_three P Q R S (Some c) all p q r = all c p q r

-- a refusal for one reason is one for what follows from it, also from an earlier count that was the same
pub refused_on : (fault : LoadFault) (X Y : Type 0) (first before now : ℕ) → before ≡ first → (X → Y) → LoadIsRefused fault X before now → LoadIsRefused fault Y first now
refused_on load_fault.Failed X Y first before now same step why = subst (λ (n : ℕ). Rose n now) same why
refused_on (load_fault.Meta fault) X Y first before now same step why = (why.0, step why.1, why.2 ∙ same)
refused_on (load_fault.Length part want have) X Y first before now same step why = (step why.0, why.1 ∙ same)
refused_on load_fault.NoMemory X Y first before now same step why = why ∙ same

above : (a b : ℕ) → a < b → nat_lt a b ≡ true
above a b less = grind arith

-- a text that is too long
pub meta_too_long : (held : Held) (name : List ℕ) (len : ℕ) → len ≡ length (file_of held (meta_file name)) → longest_text < length (file_of held (meta_file name))
    → with_meta (meta_of (file_of held (meta_file name))) ≡ Err (load_fault.Meta (config_fault.TooLong len))
unfolding meta_of text_fault
meta_too_long held name len is long =
    let tested = above longest_text (length (file_of held (meta_file name))) long in
    rw (tested, is) refl

-- the first fault is that of the text, else of the image, else of the ROM
pub meta_refused : (held : Held) (name : List ℕ) (fault : LoadFault) → with_meta (meta_of (file_of held (meta_file name))) ≡ Err fault → checkpoint_of held name ≡ Err fault
unfolding checkpoint_of
meta_refused held name fault is = rw is refl

pub image_refused : (held : Held) (name : List ℕ) (meta : Meta) (fault : LoadFault) → meta_of (file_of held (meta_file name)) ≡ Ok meta
    → of_length Mainram meta.shape.ram (file_of held (part_file Mainram name)) ≡ Err fault → checkpoint_of held name ≡ Err fault
unfolding checkpoint_of
image_refused held name meta fault of_meta is = rw of_meta (rw is refl)

pub rom_refused : (held : Held) (name : List ℕ) (meta : Meta) (ram : List ℕ) (fault : LoadFault) → meta_of (file_of held (meta_file name)) ≡ Ok meta
    → of_length Mainram meta.shape.ram (file_of held (part_file Mainram name)) ≡ Ok ram → of_length Bootram meta.rom (file_of held (part_file Bootram name)) ≡ Err fault → checkpoint_of held name ≡ Err fault
unfolding checkpoint_of
rom_refused held name meta ram fault of_meta of_ram is = rw of_meta (rw of_ram (rw is refl))

pub accepted : (held : Held) (name : List ℕ) (meta : Meta) (ram rom : List ℕ) → meta_of (file_of held (meta_file name)) ≡ Ok meta
    → of_length Mainram meta.shape.ram (file_of held (part_file Mainram name)) ≡ Ok ram → of_length Bootram meta.rom (file_of held (part_file Bootram name)) ≡ Ok rom
    → checkpoint_of held name ≡ Ok (record { meta = meta; ram = ram; rom = rom })
unfolding checkpoint_of
accepted held name meta ram rom of_meta of_ram of_rom = rw of_meta (rw of_ram (rw of_rom refl))

-- ---- lengths that are refused, whatever the files hold

pub text_names : (fault : LoadFault) → IsOfText fault → IsOfValues fault
text_names load_fault.Failed is = tt
text_names (load_fault.Meta fault) is = tt
text_names (load_fault.Length part want have) is = absurd is
text_names load_fault.NoMemory is = tt

pub part_names : (part : Part) (meta : Meta) (want : ℕ) (fault : LoadFault) → IsMeta meta → want ≡ part_length part meta
    → IsOfPart part want fault → IsOfValues fault
part_names part meta want load_fault.Failed fits is_want is = tt
part_names part meta want (load_fault.Meta fault) fits is_want is = absurd is
part_names part meta want (load_fault.Length refused asked have) fits is_want is =
    (meta, fits, is.1 ∙ is_want ∙ sym (ap (λ (p : Part). part_length p meta) is.0), λ same. is.2 (same ∙ is.1))
part_names part meta want load_fault.NoMemory fits is_want is = tt
