use Rattle.board_bus.proofs.Accesses.{load_keeps, store_keeps, store_sends}
use Rattle.board_bus.proofs.laws.access_laws.Goals as goal

pub returns : goal.returns
returns c = record {
  load = load_keeps;
  store = store_keeps c.keeps_harts.ensures;
  sends = store_sends c.sends_at_most.ensures;
}
