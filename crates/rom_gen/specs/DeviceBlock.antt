-- The deeds of the block of the devices, in their order, from the devices that it puts back.
use Rattle.std.specs.Prelude.{ℕ, pos, negsuc, zero, suc, ◌+◌, ◌*◌, List, [], ◌∷◌, slice_index}
use Rattle.plic.specs.State.{context_count}
use Rattle.board_bus.specs.Board.{BoardState, hart_count}
use Rattle.rom_gen.specs.Items.{Byte, Word, Double}
use Rattle.rom_gen.specs.Deeds.{Deed, Aim, Save, Again, Read}

-- Each list goes on with the rest, which is its last argument.

-- The served marks, which no store sets. Both sources get priority 1, context 0 enables those that are to be served, and
-- the console raises both levels: its receive and transmit interrupts are on (ctrl 7), in loop mode, in which what is
-- sent waits in the queue; the byte 0 is sent. Then each of two claims serves one of those sources, or none is left.
-- The load takes the byte out of the queue. All that is changed here, but for the marks, is put back further below
abbrev pub marks_deeds : ℕ → List Deed → List Deed
marks_deeds served rest =
    Aim 2 0x10000000 ∷ Aim 3 0xc000000 ∷ Aim 4 0xc002000 ∷ Aim 5 0xc200000
    ∷ Save Word 1 3 (pos 4) 0xc000004 ∷ Again Word 1 3 (pos 8) 0xc000008
    ∷ Save Word served 4 (pos 0) 0xc002000 ∷ Save Word 7 2 (pos 8) 0x10000008 ∷ Save Byte 0 2 (pos 0) 0x10000000
    ∷ Read Word 5 (pos 4) 0xc200004 ∷ Read Word 5 (pos 4) 0xc200004 ∷ Read Byte 2 (pos 0) 0x10000000
    ∷ rest

-- the bytes that wait, which are sent in loop mode
unfoldable pub queue_deeds : List ℕ → List Deed → List Deed
queue_deeds [] rest = rest
queue_deeds (byte ∷ queue) rest = Save Byte byte 2 (pos 0) 0x10000000 ∷ queue_deeds queue rest

-- k contexts from c on: the word of enable bits, and the threshold
unfoldable pub context_deeds : ℕ → ℕ → List ℕ → List ℕ → List Deed → List Deed
context_deeds zero c enables thresholds rest = rest
context_deeds (suc k) c enables thresholds rest =
    Save Word (slice_index enables c) 4 (pos (128 * c)) (0xc002000 + 128 * c)
    ∷ Aim 5 (0xc200000 + 4096 * c)
    ∷ Save Word (slice_index thresholds c) 5 (pos 0) (0xc200000 + 4096 * c)
    ∷ context_deeds k (suc c) enables thresholds rest

-- k harts from h on: msip, and mtimecmp
unfoldable pub soft_deeds : ℕ → ℕ → List ℕ → List Deed → List Deed
soft_deeds zero h bits rest = rest
soft_deeds (suc k) h bits rest = Save Word (slice_index bits h) 5 (pos (4 * h)) (0x2000000 + 4 * h) ∷ soft_deeds k (suc h) bits rest

unfoldable pub compare_deeds : ℕ → ℕ → List ℕ → List Deed → List Deed
compare_deeds zero h times rest = rest
compare_deeds (suc k) h times rest = Save Double (slice_index times h) 7 (pos (8 * h)) (0x2004000 + 8 * h) ∷ compare_deeds k (suc h) times rest

abbrev pub timer_deeds : BoardState → List Deed
timer_deeds b =
    Aim 5 0x2000000 ∷ soft_deeds (hart_count b) 0 b.clint.msip (
    Aim 7 0x2004000 ∷ compare_deeds (hart_count b) 0 b.clint.mtimecmp (
    Aim 5 0x200c000 ∷ Save Double b.clint.mtime 5 (negsuc 7) 0x200bff8 ∷ []))

abbrev pub device_deeds : BoardState → List Deed
device_deeds b =
    marks_deeds b.plic.served (
    queue_deeds b.console.queue (
    Save Word (slice_index b.plic.priority 0) 3 (pos 4) 0xc000004 ∷ Save Word (slice_index b.plic.priority 1) 3 (pos 8) 0xc000008
    ∷ context_deeds (context_count b.plic) 0 b.plic.enable b.plic.threshold (
    Save Word b.console.ctrl 2 (pos 8) 0x10000008 ∷ Save Double b.console.txaddr 2 (pos 16) 0x10000010
    ∷ timer_deeds b)))
