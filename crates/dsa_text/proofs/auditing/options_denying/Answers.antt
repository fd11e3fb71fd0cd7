use Rattle.std.proofs.Common.{refl}
use Rattle.dsa_text.specs.Audited.{spells_none, spells_settings}
use Rattle.dsa_text.proofs.auditing.options_denying.Goals as goal

pub returns-in-Some : goal.returns-in-Some
returns-in-Some c = record {
  accepted = refl;
  answers = λ input a h.
      let given = rw c.in-Some.is at c.in_ok-settings.ensures in
      spells_settings c.audit_words-words.result c.in-Some.settings
      (record {
        format = c.format_in-format.result;
        every = c.every_in-every.result;
        denied = c.args.denied;
        accepted = c.args.given.accepted;
        assumptions = record { awaited = c.args.awaited; resident = c.resident_in-resident.result };
        waits = c.args.waits;
      })
      c.audit_words-words.ensures given c.format_in-format.ensures c.every_in-every.ensures refl refl refl c.resident_in-resident.ensures h;
}

pub returns-in_ok-refused-in-None : goal.returns-in_ok-refused-in-None
returns-in_ok-refused-in-None c input =
    let given = rw c.in-None.is at c.in_ok-settings.ensures in
    spells_none c.audit_words-words.result c.audit_words-words.ensures given c.in_ok-refused-in-None.ensures
