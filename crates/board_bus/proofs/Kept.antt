-- The signals of one hart more.
use Rattle.std.proofs.Common.{◌≡◌, ℕ, ◌+◌, ◌<◌, List, length, ap, sym, ◌∙◌, arith, inl, inr, slice_set}
use Rattle.std.proofs.lemmas.Bool.{cases_lt}
use Rattle.std.proofs.lemmas.List.{get_or-set_other}
use Rattle.std.proofs.lemmas.Grind.{get_or-set_at}
use Rattle.board_bus.specs.Board.{BoardState, live}
use Rattle.board_bus.specs.Signals.{AreSignals}

pub one_more : (board : BoardState) (signals : List ℕ) (n word : ℕ) → n < length signals → word ≡ live board n → AreSignals board signals n → AreSignals board (slice_set signals n word) (n + 1)
one_more board signals n word room is are =
    λ h within. elim (cases_lt h n) [
      | inl below ↦ get_or-set_other signals n h word 0 (λ same. absurd (omega arith)) ∙ are h below
      | inr from ↦
          let same : h ≡ n = omega arith in
          get_or-set_at signals n h word 0 same room ∙ is ∙ ap (live board) (sym same)
    ]
