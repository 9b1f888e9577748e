use Rattle.std.proofs.Common.{arith, rules, ◌≡◌, true, false, Some, bit_and, ap₂, ◌∙◌, FitsSigned, w64}
use Rattle.std.specs.Prelude.{◌==◌}
use Rattle.std.proofs.lemmas.Bool.{eq-eqb}
use Rattle.std.proofs.lemmas.Int.{to_z-of_z}
use Rattle.rv_decode.specs.Compressed.{forms}
use Rattle.rv_decode.specs.declared.Insn.{Insn}
use Rattle.rv_decode.proofs.Masks.{stack_mask}
use Rattle.rv_decode.proofs.Table.{differs}
use Rattle.rv_decode.proofs.compressed.addi16sp_or_lui.Goals as goal

-- where rd is not x2 the word matches the second form alone
pub returns-else-c-eq24833-clause-form : goal.returns-else-c-eq24833-clause-form
unfolding forms
returns-else-c-eq24833-clause-form c =
    let in_key : (bit_and c.args.c 0xe003 == 0x6001) ≡ true = eq-eqb (bit_and c.args.c 0xe003) 0x6001 c.requires in
    let some_immediate : (bit_and c.args.c 0x107c == 0) ≡ false = differs (bit_and c.args.c 0x107c) 0 (λ e. omega (arith, e)) in
    let not_stack : (bit_and c.args.c 0xef83 == 0x6101) ≡ false = differs (bit_and c.args.c 0xef83) 0x6101 (λ e. omega (arith, e)) in
    let other_rd : (bit_and c.args.c 0xf80 == 0x100) ≡ false = differs (bit_and c.args.c 0xf80) 0x100 (λ e. let same : bit_and c.args.c 0xef83 ≡ 0x6101 = stack_mask c.args.c c.requires e in omega (arith, same)) in
    let fits : FitsSigned w64 c.upper_immediate-imm.result = search rules in
    simp (in_key, some_immediate, not_stack, other_rd) (ap₂ (λ x y. Some (Insn.Lui x y)) c.far_rd-rd.ensures (to_z-of_z w64 c.upper_immediate-imm.result fits ∙ c.upper_immediate-imm.ensures))
