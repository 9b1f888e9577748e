use Rattle.std.specs.Prelude.{pos, negsuc, slice_index}
use Rattle.std.proofs.Common.{◌≡◌, ◌*◌, ℕ, [], sym, ap, ◌∙◌, subst}
use Rattle.std.proofs.lemmas.Result.{on_ok_weaker}
use Rattle.clint.specs.State.{ClintRegisters}
use Rattle.plic.specs.State.{PlicRegisters, context_count}
use Rattle.console.specs.State.{ConsoleRegisters}
use Rattle.board_bus.specs.Board.{BoardState}
use Rattle.rom_gen.specs.Items.{Word, Double}
use Rattle.rom_gen.specs.DeviceBlock.{compare_deeds, context_deeds, marks_deeds, queue_deeds, soft_deeds}
use Rattle.rom_gen.specs.Writing.{Dealt}
use Rattle.rom_gen.proofs.Dealings.{devices_dealt, saved_as}
use Rattle.rom_gen.proofs.writer.Writer.devices.Goals as goal

pub returns : goal.returns
returns c =
    let board : BoardState = c.args.board.now in
    let plic_is = c.plic-plic.ensures in
    let console_is = c.console-console.ensures in
    let clint_is = c.clint-clint.ensures in
    let harts : ℕ = c.args.harts in
    let count : 2 * harts ≡ context_count board.plic = ap (λ k. 2 * k) c.requires.harts ∙ sym c.see_fit.ensures.contexts in
    on_ok_weaker c.save.result (λ last. devices_dealt board c.args.self.now c.marks.new.self c.queue.new.self c.save_up.new.self c.save_up-2.new.self c.contexts.new.self c.save_up-3.new.self c.save_up-4.new.self c.aim.new.self c.soft.new.self c.aim-2.new.self c.compares.new.self c.aim-3.new.self c.save.new.self
    (subst (λ m. Dealt c.args.self.now c.marks.new.self (marks_deeds m [])) (c.served.ensures ∙ ap (λ (p : PlicRegisters). p.served) plic_is) c.in_ok-marks.ensures.code)
    (subst (λ (x : ConsoleRegisters). Dealt c.marks.new.self c.queue.new.self (queue_deeds x.queue [])) console_is c.in_ok-queue.ensures.code)
    (saved_as c.queue.new.self c.save_up.new.self Word c.from.result (slice_index board.plic.priority 0) 3 0xc000004 (pos 4) (c.from.ensures ∙ c.priority.ensures ∙ ap (λ (p : PlicRegisters). slice_index p.priority 0) plic_is) c.in_ok-save_up.ensures.code)
    (saved_as c.save_up.new.self c.save_up-2.new.self Word c.from-2.result (slice_index board.plic.priority 1) 3 0xc000008 (pos 8) (c.from-2.ensures ∙ c.priority-2.ensures ∙ ap (λ (p : PlicRegisters). slice_index p.priority 1) plic_is) c.in_ok-save_up-2.ensures.code)
    (subst (λ k. Dealt c.save_up-2.new.self c.contexts.new.self (context_deeds k 0 board.plic.enable board.plic.threshold [])) count (subst (λ (p : PlicRegisters). Dealt c.save_up-2.new.self c.contexts.new.self (context_deeds (2 * harts) 0 p.enable p.threshold [])) plic_is c.in_ok-contexts.ensures.code))
    (saved_as c.contexts.new.self c.save_up-3.new.self Word c.from-3.result board.console.ctrl 2 0x10000008 (pos 8) (c.from-3.ensures ∙ c.ctrl.ensures ∙ ap (λ (x : ConsoleRegisters). x.ctrl) console_is) c.in_ok-save_up-3.ensures.code)
    (saved_as c.save_up-3.new.self c.save_up-4.new.self Double c.txaddr.result board.console.txaddr 2 0x10000010 (pos 16) (c.txaddr.ensures ∙ ap (λ (x : ConsoleRegisters). x.txaddr) console_is) c.in_ok-save_up-4.ensures.code)
    c.in_ok-aim.ensures
    (subst (λ k. Dealt c.aim.new.self c.soft.new.self (soft_deeds k 0 board.clint.msip [])) c.requires.harts (subst (λ (x : ClintRegisters). Dealt c.aim.new.self c.soft.new.self (soft_deeds harts 0 x.msip [])) clint_is c.in_ok-soft.ensures.code))
    c.in_ok-aim-2.ensures
    (subst (λ k. Dealt c.aim-2.new.self c.compares.new.self (compare_deeds k 0 board.clint.mtimecmp [])) c.requires.harts (subst (λ (x : ClintRegisters). Dealt c.aim-2.new.self c.compares.new.self (compare_deeds harts 0 x.mtimecmp [])) clint_is c.in_ok-compares.ensures.code))
    c.in_ok-aim-3.ensures
    (saved_as c.aim-3.new.self c.save.new.self Double c.time-time.result board.clint.mtime 5 0x200bff8 (negsuc 7) c.time-time.ensures last))
    c.save.ensures
