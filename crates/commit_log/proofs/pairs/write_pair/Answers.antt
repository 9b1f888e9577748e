use Rattle.commit_log.proofs.Digits.{pair_of, pair_written}
use Rattle.commit_log.proofs.pairs.write_pair.Goals as goal

pub returns-clause-written : goal.returns-clause-written
returns-clause-written c =
    let pair = pair_of c.args.byte c.requires.0 in
    pair_written _ _ _ _ _ _ c.requires.1 pair.0 pair.1
