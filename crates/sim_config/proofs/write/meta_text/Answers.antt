use Rattle.serde_json.specs.View.{view}
use Rattle.sim_config.proofs.WriteLemmas.{bytes_of_written, back_of_written}
use Rattle.sim_config.proofs.write.meta_text.Goals as goal

pub returns-clause-bytes : goal.returns-clause-bytes
returns-clause-bytes c = bytes_of_written c.to_vec.result (view c.in_ok-meta_value.field-0) _ c.in_ok-meta_value.ensures c.to_vec.ensures.text

pub returns-clause-reads_back : goal.returns-clause-reads_back
returns-clause-reads_back c =
    let d = view c.in_ok-meta_value.field-0 in
    back_of_written c.to_vec.result d _ c.in_ok-meta_value.ensures (bytes_of_written c.to_vec.result d _ c.in_ok-meta_value.ensures c.to_vec.ensures.text) c.to_vec.ensures.utf8 c.to_vec.ensures.reads_back
