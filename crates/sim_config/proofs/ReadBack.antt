-- The meta text of values in their ranges reads as these values.
use Rattle.std.proofs.Common.{◌≡◌, ◌<◌, ◌≤◌, ◌^◌, ◌++◌, ℕ, List, [], codes, decimal, true, Some, Ok, refl, sym, ap, ◌∙◌, arith, lit≤, append-nil, option_and_then, inl, inr}
use Rattle.std.specs.Str.{IsUtf8}
use Rattle.std.proofs.lemmas.Fmt.{IsAscii-decimal}
use Rattle.std.proofs.lemmas.Str.{IsUtf8-append, IsUtf8-from_ascii}
use Rattle.json.specs.Json as json
use Rattle.json.specs.Lex.{tokens}
use Rattle.json.specs.Print.{ArePrintable, IsNumber}
use Rattle.json.specs.Tree.{json_tokens}
use Rattle.json.proofs.Printed.Decimals.{IsNumber-decimal}
use Rattle.json.proofs.Printed.Tokens.{tokens-print}
use Rattle.json.proofs.Printed.Trees.{value-json_tokens}
use Rattle.json.proofs.Printed.Utf8.{IsUtf8-are_ascii, are_ascii}
use Rattle.serde_json.specs.Data.{Data, object}
use Rattle.serde_json.specs.Read.{max_depth, of_json, read}
use Rattle.serde_json.specs.Written.{outline}
use Rattle.serde_json.proofs.Numbers.{number_of-decimal}
use Rattle.serde_json.proofs.OnLiterals.{serde_json_on_literals}
use Rattle.serde_json.proofs.Texts.{print-outline}
use Rattle.sim_config.specs.declared.values.Meta.{Meta}
use Rattle.sim_config.specs.Ranges.{IsMeta, IsWindow}
use Rattle.sim_config.specs.Reading.{meta_of}
use Rattle.sim_config.specs.Written.{meta_bytes, meta_members}
use Rattle.sim_config.proofs.ReadLemmas.{reading-some}
use Rattle.sim_config.proofs.WriteLemmas.{back, compact_of_meta, length_of_meta}

-- each value is a word
record AreWords (meta : Meta) : Type 0 where
  harts : meta.shape.harts < 2 ^ 64
  ram : meta.shape.ram < 2 ^ 64
  rom : meta.rom < 2 ^ 64
  slice : meta.shape.slice < 2 ^ 64
  taken : meta.taken < 2 ^ 64
  tohost : meta.shape.tohost < 2 ^ 64
  version : meta.version < 2 ^ 64

window_word : (ram n : ℕ) → ram ≤ 268435456 → IsWindow ram n → n < 2 ^ 64
window_word ram n small (inl zero) = omega arith
window_word ram n small (inr inside) = omega (arith, inside.inside.high)

are_words : (meta : Meta) → IsMeta meta → AreWords meta
are_words meta fits =
    let shape = fits.shape in
    record {
      harts = omega (arith, shape.harts_most);
      ram = omega (arith, shape.ram.most);
      rom = omega (arith, fits.rom);
      slice = omega (arith, shape.slice_most);
      taken = omega (arith, fits.taken);
      tohost = window_word meta.shape.ram meta.shape.tohost shape.ram.most shape.tohost;
      version = omega (arith, fits.version);
    }

digits_utf8 : (n : ℕ) → n < 2 ^ 64 → IsUtf8 (decimal n)
digits_utf8 n word = IsUtf8-from_ascii (decimal n) (IsAscii-decimal n word)

-- a label and the digits of a word, after a front
then_utf8 : (front label : List ℕ) (n : ℕ) → IsUtf8 front → are_ascii label ≡ true → n < 2 ^ 64 → IsUtf8 (front ++ label ++ decimal n)
then_utf8 front label n utf8 ascii word =
    IsUtf8-append (front ++ label) (decimal n) (IsUtf8-append front label utf8 (IsUtf8-are_ascii label ascii)) (digits_utf8 n word)

utf8_of_meta : (meta : Meta) → AreWords meta → IsUtf8 (meta_bytes meta)
unfolding meta_bytes
utf8_of_meta meta words =
    let harts = IsUtf8-append (codes "{\"harts\":") (decimal meta.shape.harts) (IsUtf8-are_ascii (codes "{\"harts\":") refl) (digits_utf8 meta.shape.harts words.harts) in
    let ram = then_utf8 _ (codes ",\"ram\":") meta.shape.ram harts refl words.ram in
    let rom = then_utf8 _ (codes ",\"rom\":") meta.rom ram refl words.rom in
    let slice = then_utf8 _ (codes ",\"slice\":") meta.shape.slice rom refl words.slice in
    let taken = then_utf8 _ (codes ",\"taken\":") meta.taken slice refl words.taken in
    let tohost = then_utf8 _ (codes ",\"tohost\":") meta.shape.tohost taken refl words.tohost in
    let version = then_utf8 _ (codes ",\"version\":") meta.version tohost refl words.version in
    IsUtf8-append _ (codes "}") version (IsUtf8-are_ascii (codes "}") refl)

-- the text's value
abbrev value_of : Meta → Data
value_of meta = object (meta_members meta)

read_as : (meta : Meta) → AreWords meta → of_json (outline (value_of meta)) ≡ Some (value_of meta)
unfolding serde_json_on_literals
read_as meta words =
    rw (
      number_of-decimal meta.shape.harts words.harts,
      number_of-decimal meta.shape.ram words.ram,
      number_of-decimal meta.rom words.rom,
      number_of-decimal meta.shape.slice words.slice,
      number_of-decimal meta.taken words.taken,
      number_of-decimal meta.shape.tohost words.tohost,
      number_of-decimal meta.version words.version,
    ) refl

numbered : {Rest : Type 0} (n : ℕ) → n < 2 ^ 64 → Rest → Unit {0} × (IsNumber (decimal n) × Rest)
numbered n word rest = (tt, (IsNumber-decimal n word, rest))

printable : (meta : Meta) → AreWords meta → ArePrintable (json_tokens (outline (value_of meta)))
unfolding ArePrintable
printable meta words =
    let last = numbered meta.shape.tohost words.tohost (numbered meta.version words.version (tt, tt)) in
    let middle = numbered meta.rom words.rom (numbered meta.shape.slice words.slice (numbered meta.taken words.taken last)) in
    (tt, numbered meta.shape.harts words.harts (numbered meta.shape.ram words.ram middle))

read_meta_bytes : (meta : Meta) → AreWords meta → read (meta_bytes meta) ≡ Some (value_of meta)
read_meta_bytes meta words =
    let written = outline (value_of meta) in
    let ts = json_tokens written in
    let text = ap tokens (sym (compact_of_meta meta) ∙ sym (print-outline (value_of meta))) ∙ tokens-print ts (printable meta words) in
    let value = ap (json.value max_depth) (text ∙ sym (append-nil ts)) ∙ value-json_tokens written max_depth [] (lit≤ tt) in
    ap (λ o. option_and_then of_json (option_and_then (λ p. json.if_last p.0 p.1) o)) value ∙ read_as meta words

pub meta_bytes_read : (meta : Meta) → IsMeta meta → meta_of (meta_bytes meta) ≡ Ok meta
meta_bytes_read meta fits =
    let words = are_words meta fits in
    back meta (meta_bytes meta) fits (length_of_meta meta fits)
    (reading-some (meta_bytes meta) (value_of meta) (utf8_of_meta meta words) (read_meta_bytes meta words))
