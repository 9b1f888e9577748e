use Rattle.std.proofs.Common.{arith, ◌≡◌, ℕ, ◌+◌, ◌*◌, ◌/◌, ◌%◌, true, false, Option, Some, None, bit_and, List, [], ◌∷◌, refl, sym, ap, ◌∙◌}
use Rattle.std.specs.Prelude.{◌==◌, IfSome}
use Rattle.std.specs.List.{list_all, list_any}
use Rattle.rv_decode.specs.Compressed.{expanded, forms, forms_at, word_decoded}
use Rattle.rv_decode.specs.Ranges.{IsInRange}
use Rattle.rv_decode.specs.Words.{decoded_by}
use Rattle.rv_decode.specs.declared.Insn.{Insn}
use Rattle.rv_decode.proofs.Encoded.{encoded_is_decoded_lem}
use Rattle.rv_decode.proofs.Table.{covers, decoded_by_key, decoded_by_no_key, differs, has_key}
use Rattle.rv_decode.proofs.compressed.expand.Goals as goal

-- every form's mask holds the quadrant and funct3
key_covered : list_all (covers 0xe003) forms ≡ true
unfolding forms
key_covered = refl

-- a word is expanded by the forms of its quadrant and funct3
by_key : (c k : ℕ) → bit_and c 0xe003 ≡ k → expanded c ≡ decoded_by (forms_at k) c
unfolding expanded
by_key c k is_k = decoded_by_key 0xe003 forms c k key_covered is_k

-- the quadrant and funct3 in place, of the number that holds both
abbrev key_of : ℕ → ℕ
key_of n = n % 8 * 0x2000 + n / 8

-- the same, for what an arm gives of the word d, which is c
by_arm : (o : Option Insn) (c d k n : ℕ) → d ≡ c → bit_and d 0xe003 ≡ key_of n → n ≡ k → o ≡ decoded_by (forms_at (key_of k)) d → o ≡ expanded c
by_arm o c d k n same is_key is_k is_form = is_form ∙ sym (by_key d (key_of k) (is_key ∙ ap key_of is_k)) ∙ ap expanded same

-- the instruction of a form, whose fields are in range, is that of its 32-bit word
by_word : (o : Option Insn) (c : ℕ) → o ≡ expanded c → IfSome o IsInRange → o ≡ word_decoded c
by_word None c is_form within = simp (sym is_form)
by_word (Some insn) c is_form within = simp (sym is_form) (sym (encoded_is_decoded_lem insn within))

pub returns-in-0-clause-form : goal.returns-in-0-clause-form
returns-in-0-clause-form c = by_arm c.addi4spn.result c.args.c c.from-c.result 0 c.quadrant_and_funct3.result c.from-c.ensures c.quadrant_and_funct3.ensures.key c.in-0.is c.addi4spn.ensures.form

pub returns-in-0-clause-word : goal.returns-in-0-clause-word
returns-in-0-clause-word c = by_word c.addi4spn.result c.args.c (by_arm c.addi4spn.result c.args.c c.from-c.result 0 c.quadrant_and_funct3.result c.from-c.ensures c.quadrant_and_funct3.ensures.key c.in-0.is c.addi4spn.ensures.form) c.addi4spn.ensures.in_range

pub returns-in-2-clause-form : goal.returns-in-2-clause-form
returns-in-2-clause-form c = by_arm c.lw.result c.args.c c.from-c.result 2 c.quadrant_and_funct3.result c.from-c.ensures c.quadrant_and_funct3.ensures.key c.in-2.is c.lw.ensures.form

pub returns-in-2-clause-word : goal.returns-in-2-clause-word
returns-in-2-clause-word c = by_word c.lw.result c.args.c (by_arm c.lw.result c.args.c c.from-c.result 2 c.quadrant_and_funct3.result c.from-c.ensures c.quadrant_and_funct3.ensures.key c.in-2.is c.lw.ensures.form) c.lw.ensures.in_range

pub returns-in-3-clause-form : goal.returns-in-3-clause-form
returns-in-3-clause-form c = by_arm c.ld.result c.args.c c.from-c.result 3 c.quadrant_and_funct3.result c.from-c.ensures c.quadrant_and_funct3.ensures.key c.in-3.is c.ld.ensures.form

pub returns-in-3-clause-word : goal.returns-in-3-clause-word
returns-in-3-clause-word c = by_word c.ld.result c.args.c (by_arm c.ld.result c.args.c c.from-c.result 3 c.quadrant_and_funct3.result c.from-c.ensures c.quadrant_and_funct3.ensures.key c.in-3.is c.ld.ensures.form) c.ld.ensures.in_range

pub returns-in-6-clause-form : goal.returns-in-6-clause-form
returns-in-6-clause-form c = by_arm c.sw.result c.args.c c.from-c.result 6 c.quadrant_and_funct3.result c.from-c.ensures c.quadrant_and_funct3.ensures.key c.in-6.is c.sw.ensures.form

pub returns-in-6-clause-word : goal.returns-in-6-clause-word
returns-in-6-clause-word c = by_word c.sw.result c.args.c (by_arm c.sw.result c.args.c c.from-c.result 6 c.quadrant_and_funct3.result c.from-c.ensures c.quadrant_and_funct3.ensures.key c.in-6.is c.sw.ensures.form) c.sw.ensures.in_range

pub returns-in-7-clause-form : goal.returns-in-7-clause-form
returns-in-7-clause-form c = by_arm c.sd.result c.args.c c.from-c.result 7 c.quadrant_and_funct3.result c.from-c.ensures c.quadrant_and_funct3.ensures.key c.in-7.is c.sd.ensures.form

pub returns-in-7-clause-word : goal.returns-in-7-clause-word
returns-in-7-clause-word c = by_word c.sd.result c.args.c (by_arm c.sd.result c.args.c c.from-c.result 7 c.quadrant_and_funct3.result c.from-c.ensures c.quadrant_and_funct3.ensures.key c.in-7.is c.sd.ensures.form) c.sd.ensures.in_range

pub returns-in-8-clause-form : goal.returns-in-8-clause-form
returns-in-8-clause-form c = by_arm c.addi.result c.args.c c.from-c.result 8 c.quadrant_and_funct3.result c.from-c.ensures c.quadrant_and_funct3.ensures.key c.in-8.is c.addi.ensures.form

pub returns-in-8-clause-word : goal.returns-in-8-clause-word
returns-in-8-clause-word c = by_word c.addi.result c.args.c (by_arm c.addi.result c.args.c c.from-c.result 8 c.quadrant_and_funct3.result c.from-c.ensures c.quadrant_and_funct3.ensures.key c.in-8.is c.addi.ensures.form) c.addi.ensures.in_range

pub returns-in-9-clause-form : goal.returns-in-9-clause-form
returns-in-9-clause-form c = by_arm c.addiw.result c.args.c c.from-c.result 9 c.quadrant_and_funct3.result c.from-c.ensures c.quadrant_and_funct3.ensures.key c.in-9.is c.addiw.ensures.form

pub returns-in-9-clause-word : goal.returns-in-9-clause-word
returns-in-9-clause-word c = by_word c.addiw.result c.args.c (by_arm c.addiw.result c.args.c c.from-c.result 9 c.quadrant_and_funct3.result c.from-c.ensures c.quadrant_and_funct3.ensures.key c.in-9.is c.addiw.ensures.form) c.addiw.ensures.in_range

pub returns-in-10-clause-form : goal.returns-in-10-clause-form
returns-in-10-clause-form c = by_arm c.li.result c.args.c c.from-c.result 10 c.quadrant_and_funct3.result c.from-c.ensures c.quadrant_and_funct3.ensures.key c.in-10.is c.li.ensures.form

pub returns-in-10-clause-word : goal.returns-in-10-clause-word
returns-in-10-clause-word c = by_word c.li.result c.args.c (by_arm c.li.result c.args.c c.from-c.result 10 c.quadrant_and_funct3.result c.from-c.ensures c.quadrant_and_funct3.ensures.key c.in-10.is c.li.ensures.form) c.li.ensures.in_range

pub returns-in-11-clause-form : goal.returns-in-11-clause-form
returns-in-11-clause-form c = by_arm c.addi16sp_or_lui.result c.args.c c.from-c.result 11 c.quadrant_and_funct3.result c.from-c.ensures c.quadrant_and_funct3.ensures.key c.in-11.is c.addi16sp_or_lui.ensures.form

pub returns-in-11-clause-word : goal.returns-in-11-clause-word
returns-in-11-clause-word c = by_word c.addi16sp_or_lui.result c.args.c (by_arm c.addi16sp_or_lui.result c.args.c c.from-c.result 11 c.quadrant_and_funct3.result c.from-c.ensures c.quadrant_and_funct3.ensures.key c.in-11.is c.addi16sp_or_lui.ensures.form) c.addi16sp_or_lui.ensures.in_range

pub returns-in-12-clause-form : goal.returns-in-12-clause-form
returns-in-12-clause-form c = by_arm c.arithmetic.result c.args.c c.from-c.result 12 c.quadrant_and_funct3.result c.from-c.ensures c.quadrant_and_funct3.ensures.key c.in-12.is c.arithmetic.ensures.form

pub returns-in-12-clause-word : goal.returns-in-12-clause-word
returns-in-12-clause-word c = by_word c.arithmetic.result c.args.c (by_arm c.arithmetic.result c.args.c c.from-c.result 12 c.quadrant_and_funct3.result c.from-c.ensures c.quadrant_and_funct3.ensures.key c.in-12.is c.arithmetic.ensures.form) c.arithmetic.ensures.in_range

pub returns-in-13-clause-form : goal.returns-in-13-clause-form
returns-in-13-clause-form c = by_arm c.j.result c.args.c c.from-c.result 13 c.quadrant_and_funct3.result c.from-c.ensures c.quadrant_and_funct3.ensures.key c.in-13.is c.j.ensures.form

pub returns-in-13-clause-word : goal.returns-in-13-clause-word
returns-in-13-clause-word c = by_word c.j.result c.args.c (by_arm c.j.result c.args.c c.from-c.result 13 c.quadrant_and_funct3.result c.from-c.ensures c.quadrant_and_funct3.ensures.key c.in-13.is c.j.ensures.form) c.j.ensures.in_range

pub returns-in-14-clause-form : goal.returns-in-14-clause-form
returns-in-14-clause-form c = by_arm c.beqz.result c.args.c c.from-c.result 14 c.quadrant_and_funct3.result c.from-c.ensures c.quadrant_and_funct3.ensures.key c.in-14.is c.beqz.ensures.form

pub returns-in-14-clause-word : goal.returns-in-14-clause-word
returns-in-14-clause-word c = by_word c.beqz.result c.args.c (by_arm c.beqz.result c.args.c c.from-c.result 14 c.quadrant_and_funct3.result c.from-c.ensures c.quadrant_and_funct3.ensures.key c.in-14.is c.beqz.ensures.form) c.beqz.ensures.in_range

pub returns-in-15-clause-form : goal.returns-in-15-clause-form
returns-in-15-clause-form c = by_arm c.bnez.result c.args.c c.from-c.result 15 c.quadrant_and_funct3.result c.from-c.ensures c.quadrant_and_funct3.ensures.key c.in-15.is c.bnez.ensures.form

pub returns-in-15-clause-word : goal.returns-in-15-clause-word
returns-in-15-clause-word c = by_word c.bnez.result c.args.c (by_arm c.bnez.result c.args.c c.from-c.result 15 c.quadrant_and_funct3.result c.from-c.ensures c.quadrant_and_funct3.ensures.key c.in-15.is c.bnez.ensures.form) c.bnez.ensures.in_range

pub returns-in-16-clause-form : goal.returns-in-16-clause-form
returns-in-16-clause-form c = by_arm c.slli.result c.args.c c.from-c.result 16 c.quadrant_and_funct3.result c.from-c.ensures c.quadrant_and_funct3.ensures.key c.in-16.is c.slli.ensures.form

pub returns-in-16-clause-word : goal.returns-in-16-clause-word
returns-in-16-clause-word c = by_word c.slli.result c.args.c (by_arm c.slli.result c.args.c c.from-c.result 16 c.quadrant_and_funct3.result c.from-c.ensures c.quadrant_and_funct3.ensures.key c.in-16.is c.slli.ensures.form) c.slli.ensures.in_range

pub returns-in-18-clause-form : goal.returns-in-18-clause-form
returns-in-18-clause-form c = by_arm c.lwsp.result c.args.c c.from-c.result 18 c.quadrant_and_funct3.result c.from-c.ensures c.quadrant_and_funct3.ensures.key c.in-18.is c.lwsp.ensures.form

pub returns-in-18-clause-word : goal.returns-in-18-clause-word
returns-in-18-clause-word c = by_word c.lwsp.result c.args.c (by_arm c.lwsp.result c.args.c c.from-c.result 18 c.quadrant_and_funct3.result c.from-c.ensures c.quadrant_and_funct3.ensures.key c.in-18.is c.lwsp.ensures.form) c.lwsp.ensures.in_range

pub returns-in-19-clause-form : goal.returns-in-19-clause-form
returns-in-19-clause-form c = by_arm c.ldsp.result c.args.c c.from-c.result 19 c.quadrant_and_funct3.result c.from-c.ensures c.quadrant_and_funct3.ensures.key c.in-19.is c.ldsp.ensures.form

pub returns-in-19-clause-word : goal.returns-in-19-clause-word
returns-in-19-clause-word c = by_word c.ldsp.result c.args.c (by_arm c.ldsp.result c.args.c c.from-c.result 19 c.quadrant_and_funct3.result c.from-c.ensures c.quadrant_and_funct3.ensures.key c.in-19.is c.ldsp.ensures.form) c.ldsp.ensures.in_range

pub returns-in-20-clause-form : goal.returns-in-20-clause-form
returns-in-20-clause-form c = by_arm c.registers.result c.args.c c.from-c.result 20 c.quadrant_and_funct3.result c.from-c.ensures c.quadrant_and_funct3.ensures.key c.in-20.is c.registers.ensures.form

pub returns-in-20-clause-word : goal.returns-in-20-clause-word
returns-in-20-clause-word c = by_word c.registers.result c.args.c (by_arm c.registers.result c.args.c c.from-c.result 20 c.quadrant_and_funct3.result c.from-c.ensures c.quadrant_and_funct3.ensures.key c.in-20.is c.registers.ensures.form) c.registers.ensures.in_range

pub returns-in-22-clause-form : goal.returns-in-22-clause-form
returns-in-22-clause-form c = by_arm c.swsp.result c.args.c c.from-c.result 22 c.quadrant_and_funct3.result c.from-c.ensures c.quadrant_and_funct3.ensures.key c.in-22.is c.swsp.ensures.form

pub returns-in-22-clause-word : goal.returns-in-22-clause-word
returns-in-22-clause-word c = by_word c.swsp.result c.args.c (by_arm c.swsp.result c.args.c c.from-c.result 22 c.quadrant_and_funct3.result c.from-c.ensures c.quadrant_and_funct3.ensures.key c.in-22.is c.swsp.ensures.form) c.swsp.ensures.in_range

pub returns-in-23-clause-form : goal.returns-in-23-clause-form
returns-in-23-clause-form c = by_arm c.sdsp.result c.args.c c.from-c.result 23 c.quadrant_and_funct3.result c.from-c.ensures c.quadrant_and_funct3.ensures.key c.in-23.is c.sdsp.ensures.form

pub returns-in-23-clause-word : goal.returns-in-23-clause-word
returns-in-23-clause-word c = by_word c.sdsp.result c.args.c (by_arm c.sdsp.result c.args.c c.from-c.result 23 c.quadrant_and_funct3.result c.from-c.ensures c.quadrant_and_funct3.ensures.key c.in-23.is c.sdsp.ensures.form) c.sdsp.ensures.in_range

abbrev keys : List ℕ
keys = 0x0 ∷ 0x4000 ∷ 0x6000 ∷ 0xc000 ∷ 0xe000 ∷ 0x1 ∷ 0x2001 ∷ 0x4001 ∷ 0x6001 ∷ 0x8001 ∷ 0xa001 ∷ 0xc001 ∷ 0xe001 ∷ 0x2 ∷ 0x4002 ∷ 0x6002 ∷ 0x8002 ∷ 0xc002 ∷ 0xe002 ∷ []

keys_known : list_all (λ r. list_any (λ x. has_key 0xe003 x r) keys) forms ≡ true
unfolding forms
keys_known = refl

-- a word of no such quadrant and funct3 has no form
by_no_key : (c d : ℕ) → d ≡ c → list_any (λ x. bit_and d 0xe003 == x) keys ≡ false → None ≡ expanded c
unfolding expanded
by_no_key c d same other = sym (decoded_by_no_key 0xe003 keys forms d key_covered keys_known other) ∙ ap (decoded_by forms) same

pub returns-in_default-clause-form : goal.returns-in_default-clause-form
returns-in_default-clause-form c =
    let not_0 : (bit_and c.from-c.result 0xe003 == 0x0) ≡ false = differs (bit_and c.from-c.result 0xe003) 0x0 (λ e. omega arith) in
    let not_4000 : (bit_and c.from-c.result 0xe003 == 0x4000) ≡ false = differs (bit_and c.from-c.result 0xe003) 0x4000 (λ e. omega arith) in
    let not_6000 : (bit_and c.from-c.result 0xe003 == 0x6000) ≡ false = differs (bit_and c.from-c.result 0xe003) 0x6000 (λ e. omega arith) in
    let not_c000 : (bit_and c.from-c.result 0xe003 == 0xc000) ≡ false = differs (bit_and c.from-c.result 0xe003) 0xc000 (λ e. omega arith) in
    let not_e000 : (bit_and c.from-c.result 0xe003 == 0xe000) ≡ false = differs (bit_and c.from-c.result 0xe003) 0xe000 (λ e. omega arith) in
    let not_1 : (bit_and c.from-c.result 0xe003 == 0x1) ≡ false = differs (bit_and c.from-c.result 0xe003) 0x1 (λ e. omega arith) in
    let not_2001 : (bit_and c.from-c.result 0xe003 == 0x2001) ≡ false = differs (bit_and c.from-c.result 0xe003) 0x2001 (λ e. omega arith) in
    let not_4001 : (bit_and c.from-c.result 0xe003 == 0x4001) ≡ false = differs (bit_and c.from-c.result 0xe003) 0x4001 (λ e. omega arith) in
    let not_6001 : (bit_and c.from-c.result 0xe003 == 0x6001) ≡ false = differs (bit_and c.from-c.result 0xe003) 0x6001 (λ e. omega arith) in
    let not_8001 : (bit_and c.from-c.result 0xe003 == 0x8001) ≡ false = differs (bit_and c.from-c.result 0xe003) 0x8001 (λ e. omega arith) in
    let not_a001 : (bit_and c.from-c.result 0xe003 == 0xa001) ≡ false = differs (bit_and c.from-c.result 0xe003) 0xa001 (λ e. omega arith) in
    let not_c001 : (bit_and c.from-c.result 0xe003 == 0xc001) ≡ false = differs (bit_and c.from-c.result 0xe003) 0xc001 (λ e. omega arith) in
    let not_e001 : (bit_and c.from-c.result 0xe003 == 0xe001) ≡ false = differs (bit_and c.from-c.result 0xe003) 0xe001 (λ e. omega arith) in
    let not_2 : (bit_and c.from-c.result 0xe003 == 0x2) ≡ false = differs (bit_and c.from-c.result 0xe003) 0x2 (λ e. omega arith) in
    let not_4002 : (bit_and c.from-c.result 0xe003 == 0x4002) ≡ false = differs (bit_and c.from-c.result 0xe003) 0x4002 (λ e. omega arith) in
    let not_6002 : (bit_and c.from-c.result 0xe003 == 0x6002) ≡ false = differs (bit_and c.from-c.result 0xe003) 0x6002 (λ e. omega arith) in
    let not_8002 : (bit_and c.from-c.result 0xe003 == 0x8002) ≡ false = differs (bit_and c.from-c.result 0xe003) 0x8002 (λ e. omega arith) in
    let not_c002 : (bit_and c.from-c.result 0xe003 == 0xc002) ≡ false = differs (bit_and c.from-c.result 0xe003) 0xc002 (λ e. omega arith) in
    let not_e002 : (bit_and c.from-c.result 0xe003 == 0xe002) ≡ false = differs (bit_and c.from-c.result 0xe003) 0xe002 (λ e. omega arith) in
    let other : list_any (λ x. bit_and c.from-c.result 0xe003 == x) keys ≡ false = simp (not_0, not_4000, not_6000, not_c000, not_e000, not_1, not_2001, not_4001, not_6001, not_8001, not_a001, not_c001, not_e001, not_2, not_4002, not_6002, not_8002, not_c002, not_e002) in
    by_no_key c.args.c c.from-c.result c.from-c.ensures other

pub returns-in_default-clause-word : goal.returns-in_default-clause-word
returns-in_default-clause-word c = by_word None c.args.c (returns-in_default-clause-form c) tt
