use Rattle.dsa_recording.proofs.Streamed.{faulted}
use Rattle.dsa_recording.proofs.parts.Parts.answer_with.Goals as goal

pub returns-in_ok-reason-in-Err : goal.returns-in_ok-reason-in-Err
returns-in_ok-reason-in-Err c bytes some so_far =
    faulted c.args.self.foreign c.args.options bytes c.args.last.now c.args.self.status c.args.self.used c.in-Err.fault c.refused.result so_far
    c.in_ok-reason-in-Err.ensures c.in-Err.ensures.answer c.refused.ensures.refuses
