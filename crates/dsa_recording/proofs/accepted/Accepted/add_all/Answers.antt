use Rattle.dsa_recording.proofs.Using.{on_ok, union_texts}
use Rattle.dsa_recording.proofs.accepted.Accepted.add_all.Goals as goal

pub returns : goal.returns
returns c =
    on_ok c.append.result _ _
    (λ all key. union_texts c.args.self.now.keys.keys c.args.other.keys.keys c.append.new.self.keys all.0 key) c.append.ensures.inserts_all
