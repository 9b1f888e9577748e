-- What a store leaves of memory, and where an access goes.
use Rattle.std.proofs.Common.{ℕ, zero, suc, ◌-◌, ◌%◌, ◌^◌, ◌<◌, ◌≤◌, ◌==◌, Bool, true, false, if◌then◌else◌, List, length, take, drop, ◌++◌, arith, lit≤}
use Rattle.std.specs.Prelude.{Result, Ok, Err, IfOk}
use Rattle.std.specs.Int.{byte_at, bytes_low_first}
use Rattle.std.proofs.lemmas.List.Elements.{All-append, All-cons, All-drop, All-nil, All-take}
use Rattle.byteorder.specs.Endian.{little_bytes}
use Rattle.rv_alu.specs.declared.Mode.{Mode}
use Rattle.guest_ram.specs.Bytes.{base, has_part, with_part}
use Rattle.sv39_walk.specs.Entry.{address_in, is_pointer, page_of, permits}
use Rattle.sv39_walk.specs.Plain.{has_entry, translated, walked}
use Rattle.sv39_walk.specs.Walk.{entry_address, entry_at, is_canonical, is_untranslated, root_of}
use Rattle.sv39_walk.specs.declared.Kind.{Kind}
use Rattle.sv39_walk.specs.declared.WalkFault.{WalkFault}
use Rattle.hart_step.specs.declared.hart.Hart.{Hart}
use Rattle.hart_step.specs.Fit.{AreBytes}
use Rattle.hart_step.specs.Memory.{Exception, data_address, data_mode, or_exception, physical, ram_address, ◌>>=◌}

-- ---- stores

byte_below : (i x : ℕ) → byte_at i x < 256
byte_below zero x = omega arith
byte_below (suc i) x = omega arith

low_bytes_are : (i n x : ℕ) → AreBytes (bytes_low_first i n x)
low_bytes_are i zero x = All-nil (λ b. b < 256)
low_bytes_are i (suc n) x = All-cons (λ b. b < 256) (byte_at i x) (bytes_low_first (suc i) n x) (byte_below i x) (low_bytes_are (suc i) n x)

pub stored_bytes : (ram : List ℕ) (at size value : ℕ) → AreBytes ram → AreBytes (with_part ram at (little_bytes size value))
stored_bytes ram at size value are =
    let P : ℕ → Type 0 = λ b. b < 256 in
    let bytes : List ℕ = little_bytes size value in
    let rest : List ℕ = drop (length bytes) (drop (at - base) ram) in
    let rest_are : AreBytes rest = All-drop P (length bytes) (drop (at - base) ram) (All-drop P (at - base) ram are) in
    let above : AreBytes (bytes ++ rest) = All-append P bytes rest (low_bytes_are 0 size value) rest_are in
    let whole : AreBytes (take (at - base) ram ++ (bytes ++ rest)) = All-append P (take (at - base) ram) (bytes ++ rest) (All-take P (at - base) ram are) above in
    All-take P (length ram) (take (at - base) ram ++ (bytes ++ rest)) whole

-- ---- addresses

-- an address, where there is one, has 64 bits
abbrev pub IsAddress : {E : Type 0} → Result ℕ E → Type 0
IsAddress r = IfOk r (λ at. at < 2 ^ 64)

mapped_below : (entry level va : ℕ) → level ≤ 2 → address_in level entry va < 2 ^ 64
mapped_below entry zero va most = omega arith
mapped_below entry (suc zero) va most = omega arith
mapped_below entry (suc (suc zero)) va most = omega arith
mapped_below entry (suc (suc (suc level))) va most = absurd (omega (arith, most))

either_address : {E : Type 0} (b : Bool) (x y : Result ℕ E) → IsAddress x → IsAddress y → IsAddress (if b then x else y)
either_address true x y first second = first
either_address false x y first second = second

walked_below : (ram : List ℕ) (mode : Mode) (sum mxr : Bool) (kind : Kind) (va level table : ℕ) → level ≤ 3 → IsAddress (walked ram mode sum mxr kind va level table)
unfolding walked
walked_below ram mode sum mxr kind va zero table most = tt
walked_below ram mode sum mxr kind va (suc level) table most =
    let at : ℕ = entry_address va level table in
    either_address (has_entry ram at) _ _ (
    either_address (is_pointer (entry_at ram at)) _ _
    (walked_below ram mode sum mxr kind va level (page_of (entry_at ram at)) (omega (arith, most)))
    (either_address (permits mode sum mxr kind level (entry_at ram at)) (Ok (address_in level (entry_at ram at) va)) (Err WalkFault.Page) (mapped_below (entry_at ram at) level va (omega (arith, most))) tt))
    tt

translated_below : (ram : List ℕ) (satp : ℕ) (mode : Mode) (sum mxr : Bool) (kind : Kind) (va : ℕ) → va < 2 ^ 64 → IsAddress (translated ram satp mode sum mxr kind va)
unfolding translated
translated_below ram satp mode sum mxr kind va below =
    either_address (is_untranslated satp mode) (Ok va) _ below (
    either_address (is_canonical va) _ (Err WalkFault.Page) (walked_below ram mode sum mxr kind va 3 (root_of satp) (lit≤ tt)) tt)

from_walk : (kind : Kind) (va : ℕ) (r : Result ℕ WalkFault) → IsAddress r → IsAddress (or_exception kind va r)
from_walk kind va (Ok at) below = below
from_walk kind va (Err fault) below = tt

data_address_below : (kind : Kind) (size : ℕ) (hart : Hart) (ram : List ℕ) (va : ℕ) → va < 2 ^ 64 → IsAddress (data_address kind size hart ram va)
data_address_below kind size hart ram va below =
    either_address (va % size == 0) (physical (data_mode hart) kind hart ram va) _
    (from_walk kind va _ (translated_below ram hart.csrs.kept.satp (data_mode hart) _ _ kind va below)) tt

in_ram : (ram : List ℕ) (size : ℕ) (e : Exception) (r : Result ℕ Exception) → IsAddress r → IsAddress (r >>= λ at. if has_part ram at size then Ok at else Err e)
in_ram ram size e (Ok at) below = either_address (has_part ram at size) (Ok at) (Err e) below tt
in_ram ram size e (Err x) below = tt

pub ram_address_below : (kind : Kind) (size : ℕ) (hart : Hart) (ram : List ℕ) (va : ℕ) → va < 2 ^ 64 → IsAddress (ram_address kind size hart ram va)
ram_address_below kind size hart ram va below = in_ram ram size _ (data_address kind size hart ram va) (data_address_below kind size hart ram va below)
