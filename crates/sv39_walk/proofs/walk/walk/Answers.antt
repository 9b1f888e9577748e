use Rattle.std.proofs.Common.{◌≡◌, ℕ, List, ap, ◌∙◌, subst, arith}
use Rattle.std.specs.Prelude.{IsFalse, IsTrue}
use Rattle.guest_ram.specs.Bytes.{HasPart}
use Rattle.guest_ram.specs.Table.{Table}
use Rattle.sv39_walk.specs.Entry.{is_pointer}
use Rattle.sv39_walk.specs.Walk.{entry_address, entry_at}
use Rattle.sv39_walk.proofs.Found.{three_entries}
use Rattle.sv39_walk.proofs.walk.walk.Goals as goal

pub returns-clause-found : goal.returns-clause-found
returns-clause-found c =
    let va : ℕ = c.args.va in
    let ram2 : c.read.new.table.ram ≡ c.args.table.now.ram = ap (λ (t : Table). t.ram) c.in_ok-top.ensures.counted in
    let ram3 : c.read-2.new.table.ram ≡ c.args.table.now.ram = ap (λ (t : Table). t.ram) c.in_ok-middle.ensures.counted ∙ ram2 in
    let part2 : HasPart c.args.table.now.ram c.entry_address-second.result 8 = subst (λ (r : List ℕ). HasPart r c.entry_address-second.result 8) ram2 c.in_ok-middle.ensures.there.0 in
    let part3 : HasPart c.args.table.now.ram c.entry_address-third.result 8 = subst (λ (r : List ℕ). HasPart r c.entry_address-third.result 8) ram3 c.in-Ok.ensures.there.0 in
    let pointer1 : IsTrue (is_pointer c.in_ok-top.top.0) = grind (arith) in
    let pointer2 : IsTrue (is_pointer c.in_ok-middle.middle.0) = grind (arith) in
    let ends : IsFalse (is_pointer c.word-2.result) = grind (arith) in
    three_entries c.args.table.now.ram c.args.satp va c.entry_address-first.result c.in_ok-top.top.0 c.entry_address-second.result c.in_ok-middle.middle.0 c.entry_address-third.result c.word-2.result
    (c.entry_address-first.ensures.address ∙ ap (entry_address va 2) c.bits.ensures) c.entry_address-first.ensures.aligned c.in_ok-top.ensures.there.0 c.in_ok-top.ensures.there.1 pointer1
    (c.entry_address-second.ensures.address ∙ ap (entry_address va 1) c.page.ensures.page) c.entry_address-second.ensures.aligned part2 (c.in_ok-middle.ensures.there.1 ∙ ap (λ (r : List ℕ). entry_at r c.entry_address-second.result) ram2) pointer2
    (c.entry_address-third.ensures.address ∙ ap (entry_address va 0) c.page-2.ensures.page) c.entry_address-third.ensures.aligned part3 (c.word-2.ensures ∙ c.in-Ok.ensures.there.1 ∙ ap (λ (r : List ℕ). entry_at r c.entry_address-third.result) ram3) ends
