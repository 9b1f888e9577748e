-- The written meta text: its bytes, its length, and that it reads back.
use Rattle.std.proofs.Common.{◌≡◌, ◌<◌, ◌≤◌, ◌^◌, ℕ, List, length, Bool, true, false, Option, Some, None, Result, Ok, Err, IfOk, Vec, Global, inl, inr, decimal, refl, sym, ap, subst, ◌∙◌, arith, append_assoc, length-append, lit<, lit≤}
use Rattle.std.specs.Option.{option_or}
use Rattle.std.proofs.lemmas.Bool.Decides.{nat_tests}
use Rattle.std.proofs.lemmas.Fmt.{length-decimal-le}
use Rattle.std.specs.Str.{IsUtf8}
use Rattle.std.specs.declared.alloc.AllocError.{AllocError}
use Rattle.serde_json.proofs.OnLiterals.{serde_json_on_literals}
use Rattle.serde_json.specs.Data.{Data, object, depth}
use Rattle.serde_json.specs.Read.{read, max_depth}
use Rattle.serde_json.specs.Written.{compact_text, has_float}
use Rattle.sim_config.specs.declared.keys.Key.{Key}
use Rattle.sim_config.specs.declared.keys.Key.TheVariants.{Harts, Ram, Slice, Tohost, Rom, Taken, Version}
use Rattle.sim_config.specs.declared.keys.Form.TheVariants.{MetaText}
use Rattle.sim_config.specs.declared.fault.ConfigFault.{ConfigFault}
use Rattle.sim_config.specs.declared.values.Meta.{Meta}
use Rattle.rv_alu.specs.Bits.{is_between}
use Rattle.guest_ram.specs.Bytes.{most_bytes}
use Rattle.sim_config.specs.Faults.{is_pages, is_window, range_fault, keys_fault, members_fault}
use Rattle.sim_config.specs.Ranges.{IsRamLength, IsWindow, IsMeta}
use Rattle.sim_config.specs.Reading.{longest_text, reading, meta_of}
use Rattle.sim_config.specs.Written.{meta_members, meta_bytes}
use Rattle.sim_config.proofs.ReadLemmas.{reading-some, fault_of_reading, members_of_reading, meta_ok}

-- ---- the bytes

pub compact_of_meta : (meta : Meta) → compact_text (object (meta_members meta)) ≡ meta_bytes meta
unfolding meta_bytes serde_json_on_literals
compact_of_meta meta = simp append_assoc

-- ---- the length

short : (n : ℕ) → n < 10 ^ 13 → length (decimal n) ≤ 13
short n small = length-decimal-le 13 n (lit< tt) small (omega arith)

short_window : (ram n : ℕ) → ram ≤ most_bytes → IsWindow ram n → length (decimal n) ≤ 13
short_window ram n small (inl zero) = short n (omega arith)
short_window ram n small (inr inside) = short n (omega (arith, inside.inside.high))

pub length_of_meta : (meta : Meta) → IsMeta meta → length (meta_bytes meta) ≤ longest_text
unfolding meta_bytes
length_of_meta meta fits =
    let shape = fits.shape in
    let harts = short meta.shape.harts (omega (arith, shape.harts_most)) in
    let ram = short meta.shape.ram (omega (arith, shape.ram.most)) in
    let rom = short meta.rom (omega (arith, fits.rom)) in
    let slice = short meta.shape.slice (omega (arith, shape.slice_most)) in
    let taken = short meta.taken (omega (arith, fits.taken)) in
    let tohost = short_window meta.shape.ram meta.shape.tohost shape.ram.most shape.tohost in
    let version = short meta.version (omega (arith, fits.version)) in
    simp length-append (omega (arith, harts, ram, rom, slice, taken, tohost, version))

-- ---- no fault

both : (a b : Option ConfigFault) → a ≡ None → b ≡ None → option_or a b ≡ None
both a b first later = ap (λ o. option_or o b) first ∙ later

in_range : (key : Key) (test : Bool) → test ≡ true → range_fault key (Some test) ≡ None
in_range key test passes = ap (λ b. range_fault key (Some b)) passes

window_passes : (ram n : ℕ) → IsWindow ram n → is_window ram n ≡ true
window_passes ram n (inl zero) = grind (arith, nat_tests)
window_passes ram n (inr inside) = grind (arith, nat_tests, inside.aligned, inside.inside.low, inside.inside.high)

within : (least most n : ℕ) → least ≤ n → n ≤ most → is_between least most n ≡ true
within least most n above below = grind (arith, nat_tests)

pages : (n : ℕ) → IsRamLength n → is_pages 65536 most_bytes n ≡ true
pages n fits = grind (arith, nat_tests, fits.least, fits.most, fits.pages)

no_fault : (meta : Meta) → IsMeta meta → members_fault MetaText (meta_members meta) ≡ None
unfolding members_fault keys_fault
no_fault meta fits =
    let shape = fits.shape in
    both _ _ refl (
    both _ _ (in_range Harts _ (within 1 8 meta.shape.harts shape.harts_least shape.harts_most)) (
    both _ _ (in_range Ram _ (pages meta.shape.ram shape.ram)) (
    both _ _ (in_range Slice _ (within 1 1024 meta.shape.slice shape.slice_least shape.slice_most)) (
    both _ _ refl (
    both _ _ (in_range Tohost _ (window_passes meta.shape.ram meta.shape.tohost shape.tohost)) (
    both _ _ (in_range Rom _ (within 0 131072 meta.rom (omega arith) fits.rom)) (
    both _ _ (in_range Taken _ (within 0 1000000000000 meta.taken (omega arith) fits.taken)) (
    both _ _ (in_range Version _ (within 1 1 meta.version (omega arith) (omega arith))) refl))))))))

-- ---- reading back

pub back : (meta : Meta) (text : List ℕ) → IsMeta meta → length text ≤ longest_text → reading text ≡ Some (object (meta_members meta)) → meta_of text ≡ Ok meta
back meta text fits within reads =
    meta_ok text (meta_members meta) (fault_of_reading MetaText text _ within reads ∙ no_fault meta fits) (members_of_reading text _ reads)

-- the text that was written, by what the writer says of it
pub bytes_of_written : (r : Result (Vec ℕ Global) AllocError) (d : Data) (meta : Meta) → d ≡ object (meta_members meta)
    → IfOk r (λ text. has_float d ≡ false → text.items ≡ compact_text d) → IfOk r (λ text. text.items ≡ meta_bytes meta)
bytes_of_written (Ok text) d meta is bytes = bytes (ap has_float is) ∙ ap compact_text is ∙ compact_of_meta meta
bytes_of_written (Err refused) d meta is bytes = bytes

pub back_of_written : (r : Result (Vec ℕ Global) AllocError) (d : Data) (meta : Meta) → d ≡ object (meta_members meta)
    → IfOk r (λ text. text.items ≡ meta_bytes meta) → IfOk r (λ text. IsUtf8 text.items) → IfOk r (λ text. depth d ≤ max_depth → read text.items ≡ Some d)
    → IfOk r (λ text. IsMeta meta → meta_of text.items ≡ Ok meta)
back_of_written (Ok text) d meta is bytes utf8 reads = λ fits.
    let shallow : depth d ≤ max_depth = subst (λ (e : Data). depth e ≤ max_depth) (sym is) (lit≤ tt) in
    let within : length text.items ≤ longest_text = subst (λ (bs : List ℕ). length bs ≤ longest_text) (sym bytes) (length_of_meta meta fits) in
    back meta text.items fits within (reading-some text.items _ utf8 (reads shallow ∙ ap Some is))
back_of_written (Err refused) d meta is bytes utf8 reads = bytes
