-- What the board gives a step is allowed.
use Rattle.std.proofs.Common.{ℕ}
use Rattle.std.specs.Prelude.{unwrap_or}
use Rattle.rv_alu.proofs.Bytes.{bytes_fit}
use Rattle.csr_file.specs.Numbers.{csr_mip}
use Rattle.csr_file.specs.View.{IsGiven, volatile_bits}
use Rattle.csr_file.proofs.LegalLaws.{and_twice}
use Rattle.board_bus.specs.Board.{BoardState, live, loaded}
use Rattle.board_bus.proofs.Signals.{drives_four_bits_lem}
use Rattle.hart_turns.specs.Gives.{board_word}
use Rattle.hart_turns.specs.Laws.{BoardIsAllowed}
use Rattle.hart_turns.proofs.Permitted.{permitted}

signals_given : (b : BoardState) (h : ℕ) → IsGiven csr_mip (live b h)
unfolding volatile_bits
signals_given b h = drives_four_bits_lem b h

pub board_is_allowed_lem : BoardIsAllowed
board_is_allowed_lem board h hart = record {
  interrupt = permitted hart.csrs hart.mode (live board h) (signals_given board h);
  device = λ at size. bytes_fit size (unwrap_or (loaded board at size) 0);
  volatile = λ number. and_twice (board_word board h number hart.csrs) (volatile_bits number);
}
