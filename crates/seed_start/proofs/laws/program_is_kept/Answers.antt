use Rattle.seed_start.proofs.Confined.{drawn_confined, ends_before_data}
use Rattle.seed_start.proofs.laws.program_is_kept.Goals as goal

pub returns-clause-drawn : goal.returns-clause-drawn
returns-clause-drawn c = drawn_confined

pub returns-clause-apart : goal.returns-clause-apart
returns-clause-apart c = ends_before_data
