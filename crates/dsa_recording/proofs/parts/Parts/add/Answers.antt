use Rattle.std.proofs.Common.{sym, ◌∙◌}
use Rattle.dsa_recording.proofs.Streamed.{added, lacking_now, passed}
use Rattle.dsa_recording.proofs.parts.Parts.add.Goals as goal

pub returns-then-is_some : goal.returns-then-is_some
returns-then-is_some c =
    passed c.pass.result c.args.self.now.foreign c.args.options c.args.part.now c.args.self.now.status c.args.self.now.used
    (sym c.is_some.ensures ∙ c.if-is_some.true) c.pass.ensures

pub returns-in-Some : goal.returns-in-Some
returns-in-Some c bytes so_far =
    let lacks = rw c.in-Some.is at c.in_ok-found.ensures in
    lacking_now c.args.self.now.foreign c.args.options bytes c.args.part.now c.args.self.now.status c.args.self.now.used
    (sym c.is_some.ensures ∙ c.if-is_some.false) so_far lacks

pub returns-in-None : goal.returns-in-None
returns-in-None c =
    let own = rw c.in-None.is at c.in_ok-found.ensures in
    added c.add_report.result c.args.self.now.foreign c.add_report.new.self.foreign c.args.options c.args.part.now c.args.self.now.status c.add_report.new.self.status c.args.self.now.used c.add_report.new.self.used
    (sym c.is_some.ensures ∙ c.if-is_some.false) c.add_report.ensures.foreign own c.add_report.ensures.outcome
