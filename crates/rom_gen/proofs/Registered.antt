-- Which device registers are listed, what is stored there, and that nothing is sent.
use Rattle.std.specs.Prelude.{nat_le, nat_lt, slice_set}
use Rattle.std.proofs.Common.{◌≡◌, ℕ, ◌+◌, ◌*◌, ◌%◌, ◌-◌, ◌<◌, ◌≤◌, Bool, true, false, cond, List, [], refl, arith, ◌==◌, ◌&&◌}
use Rattle.std.proofs.lemmas.Bool.{lt-ltb, lt-leb, le-leb, ne_eqb}
use Rattle.rv_alu.specs.Bits.{low_bytes}
use Rattle.device_rows.specs.Rows.{row_at}
use Rattle.clint.specs.Layout.{register_at as clint_register}
use Rattle.clint.specs.State.{hart_count as clint_harts}
use Rattle.clint.specs.Access.{stored as clint_stored}
use Rattle.plic.specs.Layout.{word_at}
use Rattle.console.specs.Layout.{register_at as console_register}
use Rattle.console.specs.Access.{sent as console_sent, stored as console_stored}
use Rattle.board_bus.specs.Board.{BoardState, sent, sent_in, stored}
use Rattle.board_bus.specs.Listed.{is_listed, place_of}
use Rattle.rom_gen.proofs.Contexts.{row_is}

pub data_listed : (n : ℕ) → is_listed n 0x10000000 1 ≡ true
unfolding is_listed place_of console_register
data_listed n = refl

pub ctrl_listed : (n : ℕ) → is_listed n 0x10000008 4 ≡ true
unfolding is_listed place_of console_register
ctrl_listed n = refl

pub txaddr_listed : (n : ℕ) → is_listed n 0x10000010 8 ≡ true
unfolding is_listed place_of console_register
txaddr_listed n = refl

pub first_listed : (n : ℕ) → is_listed n 0xc000004 4 ≡ true
unfolding is_listed place_of word_at row_at
first_listed n = refl

pub second_listed : (n : ℕ) → is_listed n 0xc000008 4 ≡ true
unfolding is_listed place_of word_at row_at
second_listed n = refl

pub time_listed : (n : ℕ) → is_listed n 0x200bff8 8 ≡ true
unfolding is_listed place_of clint_register
time_listed n = refl

pub claim_listed : (n : ℕ) → 0 < n → is_listed n 0xc200004 4 ≡ true
unfolding is_listed place_of word_at row_at
claim_listed n some = let low : nat_lt 0x200004 (0x200004 + 0x1000 * (2 * n)) ≡ true = lt-ltb _ _ (omega arith) in rw low refl

pub soft_listed : (n h : ℕ) → h < n → n ≤ 8 → is_listed n (0x2000000 + 4 * h) 4 ≡ true
unfolding is_listed place_of clint_register
soft_listed n h within most =
    let l : nat_le 0x2000000 (0x2000000 + 4 * h) ≡ true = le-leb _ _ (omega arith) in
    let a : nat_lt (0x2000000 + 4 * h) 0x2010000 ≡ true = lt-ltb _ _ (omega arith) in
    let f : 0x2000000 + 4 * h - 0x2000000 ≡ 0 + 4 * h = omega arith in
    rw (l, a, f, row_is 0 4 n h (omega arith) within (omega arith) (omega arith) (omega arith)) refl

pub compare_listed : (n h : ℕ) → h < n → n ≤ 8 → is_listed n (0x2004000 + 8 * h) 8 ≡ true
unfolding is_listed place_of clint_register
compare_listed n h within most =
    let l : nat_le 0x2000000 (0x2004000 + 8 * h) ≡ true = le-leb _ _ (omega arith) in
    let a : nat_lt (0x2004000 + 8 * h) 0x2010000 ≡ true = lt-ltb _ _ (omega arith) in
    let f : 0x2004000 + 8 * h - 0x2000000 ≡ 0x4000 + 8 * h = omega arith in
    let g : (0x4000 + 8 * h == 0xbff8) ≡ false = ne_eqb _ _ (omega arith) in
    rw (l, a, f, g, row_is 0x4000 8 n h (omega arith) within (omega arith) (omega arith) (omega arith)) refl

-- ---- stores

pub soft_stored : (b : BoardState) (h v : ℕ) → h < clint_harts b.clint → clint_harts b.clint ≤ 8 → stored b (0x2000000 + 4 * h) 4 v ≡ record b { clint = record b.clint { msip = slice_set b.clint.msip h (low_bytes 4 v % 2) } }
unfolding stored clint_stored place_of clint_register
soft_stored b h v within most =
    let l : nat_le 0x2000000 (0x2000000 + 4 * h) ≡ true = le-leb _ _ (omega arith) in
    let a : nat_lt (0x2000000 + 4 * h) 0x2010000 ≡ true = lt-ltb _ _ (omega arith) in
    let f : 0x2000000 + 4 * h - 0x2000000 ≡ 0 + 4 * h = omega arith in
    rw (l, a, f, row_is 0 4 (clint_harts b.clint) h (omega arith) within (omega arith) (omega arith) (omega arith)) refl

pub compare_stored : (b : BoardState) (h v : ℕ) → h < clint_harts b.clint → clint_harts b.clint ≤ 8 → stored b (0x2004000 + 8 * h) 8 v ≡ record b { clint = record b.clint { mtimecmp = slice_set b.clint.mtimecmp h (low_bytes 8 v) } }
unfolding stored clint_stored place_of clint_register
compare_stored b h v within most =
    let l : nat_le 0x2000000 (0x2004000 + 8 * h) ≡ true = le-leb _ _ (omega arith) in
    let a : nat_lt (0x2004000 + 8 * h) 0x2010000 ≡ true = lt-ltb _ _ (omega arith) in
    let f : 0x2004000 + 8 * h - 0x2000000 ≡ 0x4000 + 8 * h = omega arith in
    let g : (0x4000 + 8 * h == 0xbff8) ≡ false = ne_eqb _ _ (omega arith) in
    rw (l, a, f, g, row_is 0x4000 8 (clint_harts b.clint) h (omega arith) within (omega arith) (omega arith) (omega arith)) refl

pub time_stored : (b : BoardState) (v : ℕ) → stored b 0x200bff8 8 v ≡ record b { clint = record b.clint { mtime = low_bytes 8 v } }
unfolding stored clint_stored place_of clint_register
time_stored b v = refl

pub txaddr_stored : (b : BoardState) (v : ℕ) → stored b 0x10000010 8 v ≡ record b { console = record b.console { txaddr = low_bytes 8 v } }
unfolding stored console_stored place_of console_register
txaddr_stored b v = refl

-- ---- sends

of_three : {P : Type 0} (f : P → List ℕ) (x y z : P) (c d : Bool) → f x ≡ [] → f y ≡ [] → f z ≡ [] → f (cond c x (cond d y z)) ≡ []
of_three f x y z true d one two three = one
of_three f x y z false true one two three = two
of_three f x y z false false one two three = three

pub unsent_below : (ram : List ℕ) (b : BoardState) (at size v : ℕ) → at < 0x10000000 → sent ram b at size v ≡ []
unfolding sent place_of
unsent_below ram b at size v below =
    let e : nat_le 0x10000000 at ≡ false = lt-leb _ _ below in
    rw e (of_three (sent_in ram b size v) _ _ _ (nat_le 0x2000000 at && nat_lt at 0x2010000) (nat_le 0xc000000 at && nat_lt at 0x10000000) refl refl refl)

pub ctrl_unsent : (ram : List ℕ) (b : BoardState) (v : ℕ) → sent ram b 0x10000008 4 v ≡ []
unfolding sent place_of console_sent console_register
ctrl_unsent ram b v = refl

pub txaddr_unsent : (ram : List ℕ) (b : BoardState) (v : ℕ) → sent ram b 0x10000010 8 v ≡ []
unfolding sent place_of console_sent console_register
txaddr_unsent ram b v = refl
