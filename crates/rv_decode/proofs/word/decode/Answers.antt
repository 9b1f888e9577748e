use Rattle.std.proofs.Common.{arith, ◌≡◌, ℕ, true, false, bit_and, List, ◌∷◌, [], Some, refl, sym, ap₂, ◌∙◌, rules, FitsSigned, w64}
use Rattle.std.proofs.lemmas.Bool.{eq-eqb}
use Rattle.std.proofs.lemmas.Int.{to_z-of_z}
use Rattle.std.specs.List.{filter, list_all, list_any}
use Rattle.std.specs.Prelude.{◌==◌}
use Rattle.rv_decode.specs.Words.{Row, is_match, row_u, row_j, decoded, decoded_by, rows}
use Rattle.rv_decode.specs.declared.Insn.{Insn}
use Rattle.rv_decode.proofs.Table.{covers, decoded_by_key, decoded_by_no_key, differs, has_key}
use Rattle.rv_decode.proofs.word.decode.Goals as goal

-- every row's mask holds the opcode
opcode_covered : list_all (covers 0x7f) rows ≡ true
unfolding rows
opcode_covered = refl

-- a word is decoded by the rows of its opcode
by_opcode : (w k : ℕ) → bit_and w 0x7f ≡ k → decoded w ≡ decoded_by (filter (has_key 0x7f k) rows) w
unfolding decoded
by_opcode w k is_k = decoded_by_key 0x7f rows w k opcode_covered is_k

pub returns-in-99-clause-row : goal.returns-in-99-clause-row
unfolding rows
returns-in-99-clause-row c = c.branch_of.ensures.row ∙ sym (by_opcode c.args.w 0x63 c.in-99.is)

pub returns-in-3-clause-row : goal.returns-in-3-clause-row
unfolding rows
returns-in-3-clause-row c = c.load_of.ensures.row ∙ sym (by_opcode c.args.w 0x3 c.in-3.is)

pub returns-in-35-clause-row : goal.returns-in-35-clause-row
unfolding rows
returns-in-35-clause-row c = c.store_of.ensures.row ∙ sym (by_opcode c.args.w 0x23 c.in-35.is)

pub returns-in-19-clause-row : goal.returns-in-19-clause-row
unfolding rows
returns-in-19-clause-row c = c.immediate_of.ensures.row ∙ sym (by_opcode c.args.w 0x13 c.in-19.is)

pub returns-in-27-clause-row : goal.returns-in-27-clause-row
unfolding rows
returns-in-27-clause-row c = c.word_immediate_of.ensures.row ∙ sym (by_opcode c.args.w 0x1b c.in-27.is)

pub returns-in-51-clause-row : goal.returns-in-51-clause-row
unfolding rows
returns-in-51-clause-row c = c.register_of.ensures.row ∙ sym (by_opcode c.args.w 0x33 c.in-51.is)

pub returns-in-59-clause-row : goal.returns-in-59-clause-row
unfolding rows
returns-in-59-clause-row c = c.word_register_of.ensures.row ∙ sym (by_opcode c.args.w 0x3b c.in-59.is)

pub returns-in-15-clause-row : goal.returns-in-15-clause-row
unfolding rows
returns-in-15-clause-row c = c.fence_of.ensures.row ∙ sym (by_opcode c.args.w 0xf c.in-15.is)

pub returns-in-115-clause-row : goal.returns-in-115-clause-row
unfolding rows
returns-in-115-clause-row c = c.system_of.ensures.row ∙ sym (by_opcode c.args.w 0x73 c.in-115.is)

pub returns-in-47-clause-row : goal.returns-in-47-clause-row
unfolding rows
returns-in-47-clause-row c = c.atomic_of.ensures.row ∙ sym (by_opcode c.args.w 0x2f c.in-47.is)

pub returns-in-103-clause-row : goal.returns-in-103-clause-row
unfolding rows
returns-in-103-clause-row c = c.jump_register_of.ensures.row ∙ sym (by_opcode c.args.w 0x67 c.in-103.is)

-- the only row that is left decodes a word that matches it
decided : (r : Row) (w : ℕ) → is_match r w ≡ true → decoded_by (r ∷ []) w ≡ Some (r.make w)
decided r w h = simp h

pub returns-in-55-clause-row : goal.returns-in-55-clause-row
unfolding rows
returns-in-55-clause-row c =
    let fits : FitsSigned w64 c.immediate_u.result = search rules in
    ap₂ (λ x y. Some (Insn.Lui x y)) c.rd.ensures (to_z-of_z w64 c.immediate_u.result fits ∙ c.immediate_u.ensures) ∙ sym (decided (row_u 0x7f 0x37 Insn.Lui) c.args.w (eq-eqb (bit_and c.args.w 0x7f) 0x37 c.in-55.is)) ∙ sym (by_opcode c.args.w 0x37 c.in-55.is)

pub returns-in-23-clause-row : goal.returns-in-23-clause-row
unfolding rows
returns-in-23-clause-row c =
    let fits : FitsSigned w64 c.immediate_u-in-23.result = search rules in
    ap₂ (λ x y. Some (Insn.Auipc x y)) c.rd-in-23.ensures (to_z-of_z w64 c.immediate_u-in-23.result fits ∙ c.immediate_u-in-23.ensures) ∙ sym (decided (row_u 0x7f 0x17 Insn.Auipc) c.args.w (eq-eqb (bit_and c.args.w 0x7f) 0x17 c.in-23.is)) ∙ sym (by_opcode c.args.w 0x17 c.in-23.is)

pub returns-in-111-clause-row : goal.returns-in-111-clause-row
unfolding rows
returns-in-111-clause-row c =
    let fits : FitsSigned w64 c.immediate_j.result = search rules in
    ap₂ (λ x y. Some (Insn.Jal x y)) c.rd-in-111.ensures (to_z-of_z w64 c.immediate_j.result fits ∙ c.immediate_j.ensures) ∙ sym (decided (row_j 0x7f 0x6f Insn.Jal) c.args.w (eq-eqb (bit_and c.args.w 0x7f) 0x6f c.in-111.is)) ∙ sym (by_opcode c.args.w 0x6f c.in-111.is)

abbrev opcodes : List ℕ
opcodes = 0x37 ∷ 0x17 ∷ 0x6f ∷ 0x63 ∷ 0x3 ∷ 0x23 ∷ 0x13 ∷ 0x1b ∷ 0x33 ∷ 0x3b ∷ 0xf ∷ 0x73 ∷ 0x2f ∷ 0x67 ∷ []

opcodes_known : list_all (λ r. list_any (λ x. has_key 0x7f x r) opcodes) rows ≡ true
unfolding rows
opcodes_known = refl

pub returns-in_default-clause-row : goal.returns-in_default-clause-row
unfolding decoded
returns-in_default-clause-row c =
    let not_37 : (bit_and c.args.w 0x7f == 0x37) ≡ false = differs (bit_and c.args.w 0x7f) 0x37 (λ e. omega arith) in
    let not_17 : (bit_and c.args.w 0x7f == 0x17) ≡ false = differs (bit_and c.args.w 0x7f) 0x17 (λ e. omega arith) in
    let not_6f : (bit_and c.args.w 0x7f == 0x6f) ≡ false = differs (bit_and c.args.w 0x7f) 0x6f (λ e. omega arith) in
    let not_63 : (bit_and c.args.w 0x7f == 0x63) ≡ false = differs (bit_and c.args.w 0x7f) 0x63 (λ e. omega arith) in
    let not_3 : (bit_and c.args.w 0x7f == 0x3) ≡ false = differs (bit_and c.args.w 0x7f) 0x3 (λ e. omega arith) in
    let not_23 : (bit_and c.args.w 0x7f == 0x23) ≡ false = differs (bit_and c.args.w 0x7f) 0x23 (λ e. omega arith) in
    let not_13 : (bit_and c.args.w 0x7f == 0x13) ≡ false = differs (bit_and c.args.w 0x7f) 0x13 (λ e. omega arith) in
    let not_1b : (bit_and c.args.w 0x7f == 0x1b) ≡ false = differs (bit_and c.args.w 0x7f) 0x1b (λ e. omega arith) in
    let not_33 : (bit_and c.args.w 0x7f == 0x33) ≡ false = differs (bit_and c.args.w 0x7f) 0x33 (λ e. omega arith) in
    let not_3b : (bit_and c.args.w 0x7f == 0x3b) ≡ false = differs (bit_and c.args.w 0x7f) 0x3b (λ e. omega arith) in
    let not_f : (bit_and c.args.w 0x7f == 0xf) ≡ false = differs (bit_and c.args.w 0x7f) 0xf (λ e. omega arith) in
    let not_73 : (bit_and c.args.w 0x7f == 0x73) ≡ false = differs (bit_and c.args.w 0x7f) 0x73 (λ e. omega arith) in
    let not_2f : (bit_and c.args.w 0x7f == 0x2f) ≡ false = differs (bit_and c.args.w 0x7f) 0x2f (λ e. omega arith) in
    let not_67 : (bit_and c.args.w 0x7f == 0x67) ≡ false = differs (bit_and c.args.w 0x7f) 0x67 (λ e. omega arith) in
    let other : list_any (λ x. bit_and c.args.w 0x7f == x) opcodes ≡ false = simp (not_37, not_17, not_6f, not_63, not_3, not_23, not_13, not_1b, not_33, not_3b, not_f, not_73, not_2f, not_67) in
    sym (decoded_by_no_key 0x7f opcodes rows c.args.w opcode_covered opcodes_known other)
