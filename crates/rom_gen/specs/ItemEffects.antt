-- What an item of a boot ROM does to a machine on its way through a boot.
use Rattle.std.specs.Prelude.{ℕ, ◌+◌, ◌*◌, List, [], ◌∷◌, ◌++◌, length, Bool, true, false, Some, slice_set, ◌==◌, if◌then◌else◌}
use Rattle.std.specs.List.{list_any}
use Rattle.rv_alu.specs.Arithmetic.{sign_extended}
use Rattle.rv_alu.specs.Bits.{low_bytes}
use Rattle.csr_file.specs.Write.{written}
use Rattle.trap_rules.specs.Return.{debug_returned, resumed_mode, resumed_pc}
use Rattle.board_bus.specs.Board.{BoardState}
use Rattle.hart_step.specs.declared.hart.Hart.{Hart}
use Rattle.hart_step.specs.Answers.{Loads, Stores}
use Rattle.hart_step.specs.Harts.{hart_of, is_in_debug, register}
use Rattle.hart_step.specs.Effects.{at_pc, even_part, offset_by, pc_after, resumed, with_write}
use Rattle.hart_step.specs.Step.{after_store}
use Rattle.hart_turns.specs.Boot.{Booting, Frees, Leads}
use Rattle.hart_turns.specs.Gives.{board_after, board_device, sent_by}
use Rattle.rom_gen.specs.Items.{Item, Put, Csr, CsrImm, Store, Load, Go, Leave, Spelled, Spelling}

-- ---- changes of a machine on its way

-- hart h becomes another, n steps later
abbrev pub becomes : ℕ → ℕ → Hart → Booting → Booting
becomes h n hart b = record b { core = record b.core { harts = slice_set b.core.harts h hart }; steps = b.steps + n }

-- the harts and the devices become others, and nothing is sent
abbrev pub moved : ℕ → List Hart → BoardState → Booting → Booting
moved n harts board b = record { core = record b.core { harts = harts }; board = board; console = b.console; steps = b.steps + n }

-- the ROM while one of these harts is in debug mode; afterwards it is empty
abbrev pub rom_while : List Hart → List ℕ → List ℕ
rom_while harts rom = if list_any is_in_debug harts then rom else []

-- hart h becomes one that is out of debug mode
abbrev pub freed : ℕ → ℕ → Hart → BoardState → Booting → Booting
freed h n hart board b = record { core = record { harts = slice_set b.core.harts h hart; ram = b.core.ram; rom = rom_while (slice_set b.core.harts h hart) b.core.rom }; board = board; console = b.console; steps = b.steps + n }

-- a store to a device register: other harts lose the reservations that it touches
abbrev pub stores : ℕ → ℕ → ℕ → ℕ → ℕ → Hart → Booting → Booting
stores h n at size value hart b = record {
  core = record b.core { harts = slice_set (after_store (Some (record { at = at; size = size; value = low_bytes size value })) b.core.harts) h hart };
  board = board_after b.board (Stores at size (low_bytes size value));
  console = b.console ++ sent_by b.core.ram b.board (Stores at size (low_bytes size value));
  steps = b.steps + n;
}

-- what a load of so many bytes gives: a byte as it is, a longer value with its sign
abbrev pub extended : ℕ → ℕ → ℕ
extended size v = if size == 1 then v else sign_extended v (8 * size)

-- a load from a device register
abbrev pub loads : ℕ → ℕ → ℕ → ℕ → ℕ → Hart → Booting → Booting
loads h n at size r hart b = record {
  core = record b.core { harts = slice_set b.core.harts h (with_write hart r (extended size (board_device b.board at size)) (pc_after hart (4 * n))) };
  board = board_after b.board (Loads at size);
  console = b.console;
  steps = b.steps + n;
}

-- ---- the effects of items

-- the hart after dret (External Debug Support, "Debug Mode")
abbrev pub left_debug : Hart → Hart
left_debug hart = resumed (debug_returned hart.csrs) (resumed_mode hart.csrs.debug) (resumed_pc hart.csrs.debug) hart

-- the hart after an item of n words, but for what a load gives
abbrev pub hart_after : ℕ → Item → Hart → Hart
hart_after n (Put r v) hart = with_write hart r v (pc_after hart (4 * n))
hart_after n (Csr num r) hart = record hart { csrs = written num (register hart r) hart.csrs; pc = pc_after hart (4 * n) }
hart_after n (CsrImm num u) hart = record hart { csrs = written num u hart.csrs; pc = pc_after hart (4 * n) }
hart_after n (Store size r at off) hart = at_pc hart (pc_after hart (4 * n))
hart_after n (Load size r at off) hart = at_pc hart (pc_after hart (4 * n))
hart_after n (Go r) hart = at_pc hart (even_part (register hart r))
hart_after n Leave hart = left_debug hart

-- what an item of n words does, done by hart h
abbrev pub does : ℕ → ℕ → Item → Booting → Booting
does h n (Put r v) b = becomes h n (hart_after n (Put r v) (hart_of b.core h)) b
does h n (Csr num r) b = becomes h n (hart_after n (Csr num r) (hart_of b.core h)) b
does h n (CsrImm num u) b = becomes h n (hart_after n (CsrImm num u) (hart_of b.core h)) b
does h n (Store size r at off) b = stores h n (offset_by (register (hart_of b.core h) at) off) size (register (hart_of b.core h) r) (at_pc (hart_of b.core h) (pc_after (hart_of b.core h) (4 * n))) b
does h n (Load size r at off) b = loads h n (offset_by (register (hart_of b.core h) at) off) size r (hart_of b.core h) b
does h n (Go r) b = becomes h n (hart_after n (Go r) (hart_of b.core h)) b
does h n Leave b = freed h n (hart_after n Leave (hart_of b.core h)) b.board b

-- the console bytes that an item sends: those of a store
abbrev pub bytes_sent : ℕ → Item → Booting → List ℕ
bytes_sent h (Put r v) b = []
bytes_sent h (Csr num r) b = []
bytes_sent h (CsrImm num u) b = []
bytes_sent h (Store size r at off) b = sent_by b.core.ram b.board (Stores (offset_by (register (hart_of b.core h) at) off) size (low_bytes size (register (hart_of b.core h) r)))
bytes_sent h (Load size r at off) b = []
bytes_sent h (Go r) b = []
bytes_sent h Leave b = []

-- whether an item leaves debug mode
abbrev pub is_leave : Item → Bool
is_leave (Put r v) = false
is_leave (Csr num r) = false
is_leave (CsrImm num u) = false
is_leave (Store size r at off) = false
is_leave (Load size r at off) = false
is_leave (Go r) = false
is_leave Leave = true

-- what n steps of hart h make of b: b', in which the hart is out of debug mode, or goes on
abbrev pub Moves : Bool → ℕ → ℕ → Booting → Booting → Type 0
Moves true = Frees
Moves false = Leads

-- ---- the effects of a list of items

abbrev pub all_do : ℕ → List Spelling → Booting → Booting
all_do h [] b = b
all_do h (s ∷ rest) b = all_do h rest (does h (length s.insns) s.item b)

abbrev pub all_sent : ℕ → List Spelling → Booting → List ℕ
all_sent h [] b = []
all_sent h (s ∷ rest) b = bytes_sent h s.item b ++ all_sent h rest (does h (length s.insns) s.item b)

-- each is spelled in the machine that it meets
abbrev pub AllSpelled : ℕ → ℕ → List Spelling → Booting → Type 0
AllSpelled h block [] b = Unit {0}
AllSpelled h block (s ∷ rest) b =
    Spelled (length b.core.harts) (record { ram = b.core.ram; rom = b.core.rom }) (hart_of b.core h) block s.item s.insns × AllSpelled h block rest (does h (length s.insns) s.item b)

-- what stands behind an item is executed next: not so behind Go and Leave
abbrev pub IsFollowed : Item → Type 0
IsFollowed (Put r v) = Unit {0}
IsFollowed (Csr num r) = Unit {0}
IsFollowed (CsrImm num u) = Unit {0}
IsFollowed (Store size r at off) = Unit {0}
IsFollowed (Load size r at off) = Unit {0}
IsFollowed (Go r) = ⊥
IsFollowed Leave = ⊥

-- so each item of a list but the last
abbrev pub ButLastFollowed : List Spelling → Type 0
ButLastFollowed [] = Unit {0}
ButLastFollowed (s ∷ []) = Unit {0}
ButLastFollowed (s ∷ next ∷ rest) = IsFollowed s.item × ButLastFollowed (next ∷ rest)

-- whether the last item of a list leaves debug mode
abbrev pub ends_in_leave : List Spelling → Bool
ends_in_leave [] = false
ends_in_leave (s ∷ []) = is_leave s.item
ends_in_leave (s ∷ next ∷ rest) = ends_in_leave (next ∷ rest)
