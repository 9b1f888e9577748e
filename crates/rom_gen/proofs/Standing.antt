-- How a hart stands after a register was written.
use Rattle.std.specs.Prelude.{is_some, slice_set}
use Rattle.std.proofs.Common.{◌≡◌, ℕ, ◌+◌, ◌%◌, ◌^◌, ◌<◌, ◌≤◌, true, cond, length, sym, ap, ◌∙◌, arith, subst}
use Rattle.std.proofs.lemmas.Bool.{ne_eqb}
use Rattle.std.proofs.lemmas.List.{set-set, get_or-set_other, length-set}
use Rattle.std.proofs.Math.ListN.{set}
use Rattle.csr_file.specs.declared.registers.Registers.{Registers}
use Rattle.hart_step.specs.declared.hart.Hart.{Hart}
use Rattle.hart_step.specs.Harts.{is_in_debug}
use Rattle.hart_step.specs.Memory.{MemoryState}
use Rattle.hart_step.specs.Effects.{pc_after, with_write}
use Rattle.hart_turns.specs.Boot.{Booting}
use Rattle.rom_gen.specs.Items.{Stands}
use Rattle.rom_gen.specs.ItemEffects.{becomes}

-- ---- how a hart stands after an item

-- a write to a register that is not x0
pub put_is : (hart : Hart) (r v next : ℕ) → 0 < r → with_write hart r v next ≡ record hart { x = slice_set hart.x r v; pc = next }
put_is hart r v next some = ap (λ c. record (cond c hart (record hart { x = slice_set hart.x r v })) { pc = next }) (ne_eqb r 0 (omega arith))

-- after a Put the hart stands behind its words
pub stands_put : (memory : MemoryState) (hart : Hart) (p k r v : ℕ) → Stands memory hart p → 0 < r → p + k ≤ length memory.rom → Stands memory (with_write hart r v (pc_after hart k)) (p + k)
stands_put memory hart p k r v stands some within = subst (λ x. Stands memory x (p + k)) (sym (put_is hart r v (pc_after hart k) some)) (record {
  debugs = stands.debugs;
  at = (let e = stands.at in let s = stands.small in omega arith);
  nought = get_or-set_other hart.x r 0 v 0 (omega arith) ∙ stands.nought;
  count = length-set hart.x r v ∙ stands.count;
  small = stands.small;
})

-- after a write of a control and status register too
pub stands_on : (memory : MemoryState) (hart : Hart) (p k : ℕ) (csrs : Registers) → Stands memory hart p → is_some csrs.debug ≡ true → p + k ≤ length memory.rom → Stands memory (record hart { csrs = csrs; pc = pc_after hart k }) (p + k)
stands_on memory hart p k csrs stands debugs within = record {
  debugs = debugs;
  at = (let e = stands.at in let s = stands.small in omega arith);
  nought = stands.nought;
  count = stands.count;
  small = stands.small;
}

pub pair_is : (hart : Hart) (r a v : ℕ) → 0 < r → with_write (with_write hart r a (pc_after hart 4)) r v (pc_after (with_write hart r a (pc_after hart 4)) 4) ≡ with_write hart r v (pc_after hart 8)
pair_is hart r a v some =
    let next : ((hart.pc + 4) % 2 ^ 64 + 4) % 2 ^ 64 ≡ (hart.pc + 8) % 2 ^ 64 = omega arith in
    ap (λ (x : Hart). with_write x r v (pc_after x 4)) (put_is hart r a (pc_after hart 4) some)
    ∙ put_is (record hart { x = slice_set hart.x r a; pc = pc_after hart 4 }) r v (((hart.pc + 4) % 2 ^ 64 + 4) % 2 ^ 64) some
    ∙ ap (λ xs. record hart { x = xs; pc = ((hart.pc + 4) % 2 ^ 64 + 4) % 2 ^ 64 }) (set-set hart.x r a v)
    ∙ ap (λ q. record hart { x = slice_set hart.x r v; pc = q }) next
    ∙ sym (put_is hart r v (pc_after hart 8) some)

pub debugs_put : (hart : Hart) (r v next : ℕ) → 0 < r → is_in_debug hart ≡ true → is_in_debug (with_write hart r v next) ≡ true
debugs_put hart r v next some debugs = ap is_in_debug (put_is hart r v next some) ∙ debugs

pub becomes_twice : (b : Booting) (h : ℕ) (first second : Hart) → becomes h 1 second (becomes h 1 first b) ≡ becomes h 2 second b
becomes_twice b h first second =
    ap (λ hs. record b { core = record b.core { harts = hs }; steps = b.steps + 1 + 1 }) (set-set b.core.harts h first second)
    ∙ ap (λ n. record b { core = record b.core { harts = slice_set b.core.harts h second }; steps = n }) (omega arith)
