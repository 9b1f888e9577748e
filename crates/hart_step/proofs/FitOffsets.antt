-- The offset of every jump and branch that is decoded is even.
use Rattle.std.proofs.Common.{◌≡◌, ℕ, ◌+◌, ◌*◌, ◌/◌, ◌%◌, ◌^◌, Bool, true, false, if◌then◌else◌, ℤ, pos, negsuc, ◌+ℤ◌, ◌-ℤ◌, List, [], ◌∷◌, Option, Some, IfSome, ap, ◌∙◌, arith}
use Rattle.std.specs.Prelude.{◌==◌, nat_lt}
use Rattle.std.proofs.lemmas.Int.{ints}
use Rattle.rv_alu.specs.Arithmetic.{bits_of, modulo}
use Rattle.rv_decode.specs.declared.Insn.{Insn}
use Rattle.rv_decode.specs.Compressed.{branch_immediate, expanded, forms, jump_immediate}
use Rattle.rv_decode.specs.Immediates.{immediate_b, immediate_j}
use Rattle.rv_decode.specs.Words.{Row, decoded, decoded_by, is_match, rows}
use Rattle.hart_step.specs.Step as step

abbrev pub HasEvenOffset : Insn → Type 0
HasEvenOffset (Insn.Jal rd imm) = modulo 1 imm ≡ 0
HasEvenOffset (Insn.Beq rs1 rs2 imm) = modulo 1 imm ≡ 0
HasEvenOffset (Insn.Bne rs1 rs2 imm) = modulo 1 imm ≡ 0
HasEvenOffset (Insn.Blt rs1 rs2 imm) = modulo 1 imm ≡ 0
HasEvenOffset (Insn.Bge rs1 rs2 imm) = modulo 1 imm ≡ 0
HasEvenOffset (Insn.Bltu rs1 rs2 imm) = modulo 1 imm ≡ 0
HasEvenOffset (Insn.Bgeu rs1 rs2 imm) = modulo 1 imm ≡ 0
HasEvenOffset _ = Unit {0}

-- ---- the immediates

twice_even : (m : ℤ) → modulo 1 (m +ℤ m) ≡ 0
twice_even (pos a) = omega arith
twice_even (negsuc a) = omega arith

signed_even : (b : Bool) (a k : ℕ) → a % 2 ≡ 0 → modulo 1 (if b then pos a else (pos a -ℤ pos (2 * k))) ≡ 0
signed_even true a k even = omega arith
signed_even false a k even =
    let m : ℤ = pos (a / 2) -ℤ pos k in
    let same : pos a -ℤ pos (2 * k) ≡ m +ℤ m = omega (arith, ints) in
    ap (λ (z : ℤ). modulo 1 z) same ∙ twice_even m

j_even : (w : ℕ) → modulo 1 (immediate_j w) ≡ 0
j_even w =
    let a : ℕ = bits_of w 31 1 * 2 ^ 20 + bits_of w 12 8 * 2 ^ 12 + bits_of w 20 1 * 2 ^ 11 + bits_of w 21 10 * 2 ^ 1 in
    signed_even (nat_lt a (2 ^ 20)) a 1048576 (omega arith)

b_even : (w : ℕ) → modulo 1 (immediate_b w) ≡ 0
b_even w =
    let a : ℕ = bits_of w 31 1 * 2 ^ 12 + bits_of w 7 1 * 2 ^ 11 + bits_of w 25 6 * 2 ^ 5 + bits_of w 8 4 * 2 ^ 1 in
    signed_even (nat_lt a (2 ^ 12)) a 4096 (omega arith)

jump_even : (c : ℕ) → modulo 1 (jump_immediate c) ≡ 0
jump_even c =
    let a : ℕ = bits_of c 12 1 * 2 ^ 11 + bits_of c 11 1 * 2 ^ 4 + bits_of c 9 2 * 2 ^ 8 + bits_of c 8 1 * 2 ^ 10 + bits_of c 7 1 * 2 ^ 6 + bits_of c 6 1 * 2 ^ 7 + bits_of c 3 3 * 2 ^ 1 + bits_of c 2 1 * 2 ^ 5 in
    signed_even (nat_lt a (2 ^ 11)) a 2048 (omega arith)

branch_even : (c : ℕ) → modulo 1 (branch_immediate c) ≡ 0
branch_even c =
    let a : ℕ = bits_of c 12 1 * 2 ^ 8 + bits_of c 10 2 * 2 ^ 3 + bits_of c 5 2 * 2 ^ 6 + bits_of c 3 2 * 2 ^ 1 + bits_of c 2 1 * 2 ^ 5 in
    signed_even (nat_lt a (2 ^ 8)) a 256 (omega arith)

-- ---- the rows

abbrev RowsEven : List Row → Type 0
RowsEven [] = Unit {0}
RowsEven (r ∷ rest) = ((w : ℕ) → HasEvenOffset (r.make w)) × RowsEven rest

either_even : (b : Bool) (x : Insn) (o : Option Insn) → HasEvenOffset x → IfSome o HasEvenOffset → IfSome (if b then Some x else o) HasEvenOffset
either_even true x o first second = first
either_even false x o first second = second

by_rows : (L : List Row) → RowsEven L → (w : ℕ) → IfSome (decoded_by L w) HasEvenOffset
by_rows [] even w = tt
by_rows (r ∷ rest) even w = either_even (is_match r w) (r.make w) (decoded_by rest w) (even.0 w) (by_rows rest even.1 w)

rows_even : RowsEven rows
unfolding rows
rows_even = search (j_even, b_even)

forms_even : RowsEven forms
unfolding forms
forms_even = search (jump_even, branch_even)

word_even : (w : ℕ) → IfSome (decoded w) HasEvenOffset
unfolding decoded
word_even w = by_rows rows rows_even w

form_even : (c : ℕ) → IfSome (expanded c) HasEvenOffset
unfolding expanded
form_even c = by_rows forms forms_even c

by_length : (b : Bool) (x y : Option Insn) → IfSome x HasEvenOffset → IfSome y HasEvenOffset → IfSome (if b then x else y) HasEvenOffset
by_length true x y first second = first
by_length false x y first second = second

pub decoded_even : (word len : ℕ) → IfSome (step.decoded word len) HasEvenOffset
decoded_even word len = by_length (len == 2) (expanded word) (decoded word) (form_even word) (word_even word)
