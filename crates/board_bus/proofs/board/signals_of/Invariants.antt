use Rattle.std.proofs.Common.{◌≡◌, length}
use Rattle.board_bus.specs.Signals.{AreSignals}
use Rattle.board_bus.proofs.board.signals_of.Given as goal

-- the signals of the harts so far
abbrev pub invariant-loop-h : goal.invariant-loop-h
invariant-loop-h l = (length l.signals ≡ 8) × AreSignals l.devices l.signals l.h
