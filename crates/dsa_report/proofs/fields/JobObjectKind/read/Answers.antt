use Rattle.std.proofs.Common.{refl}
use Rattle.dsa_tokens.proofs.Read.{filled}
use Rattle.dsa_report.specs.Fields.{AreSlots, no_slots}
use Rattle.dsa_report.proofs.fields.JobObjectKind.read.Goals as goal

pub returns : goal.returns
returns c =
    let object = rw c.if-not-branch.false at c.in_ok-object_into.ensures in
    let all = filled (AreSlots no_slots) (AreSlots c.object_into.new.fields) object.0 object.2 in (
      object.0,
      object.1,
      (
        all.0,
        all.1,
        all.2,
        all.3 (record {
          certificate = refl;
          name = refl;
          engines = refl;
          image = refl;
          list = refl;
          plan = refl;
          portal = refl;
          settings = refl;
          staging = refl;
          trace = refl;
          others = λ name none. refl;
        }),
      ),
      object.3,
    )
