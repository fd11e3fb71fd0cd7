use Rattle.std.proofs.Common.{inl, inr, length, refl, ap, arith}
use Rattle.std.proofs.lemmas.List.{length-map}
use Rattle.dsa_descriptor.specs.declared.descriptor.Descriptor.{Descriptor}
use Rattle.dsa_descriptor.specs.Descriptors.{fields}
use Rattle.dsa_resume.specs.Resumed.{IsAnswer, Resumes, ResumesPieces, Stopped, has_pieces, is_refused}
use Rattle.dsa_ranges.specs.Pieces.{writes_of}
use Rattle.dsa_resume.proofs.Resumed.{again_if_left, answers_for, answers_more, answers_plan}
use Rattle.dsa_resume.proofs.resuming.resume_list.Goals as goal
use Rattle.dsa_resume.proofs.resuming.resume_list.Goals.{After-drop-pieces-2}

pub returns-in-Err-clause-answer : goal.returns-in-Err-clause-answer
returns-in-Err-clause-answer c =
    answers_plan (Resumes c.args.settings.now c.args.list.now c.args.records.now c.args.given_up.now c.args.order) c.in-Err.fault
    (elim c.in-Err.ensures.fault [ inl memory ↦ inl memory | inr plans ↦ inr (is_refused c.in-Err.fault plans refl) ])

pub resume_pieces-requires-clause-few : goal.resume_pieces-requires-clause-few
resume_pieces-requires-clause-few c = omega (arith, c.in-Ok.ensures.can.few, ap length c.deref.ensures.value, length-map c.in-Ok.pieces.descriptors.items fields)

abbrev stopped : (c : After-drop-pieces-2) → Stopped Descriptor
stopped c = record { pieces = c.in-Ok.pieces.descriptors.items; barriers = c.in-Ok.pieces.barriers.items; records = c.args.records.now; given_up = c.args.given_up.now }

left : (c : After-drop-pieces-2) → IsAnswer (ResumesPieces writes_of c.args.order (stopped c)) c.resume_pieces.result
left c = answers_for writes_of c.args.order (stopped c) c.deref.result.now c.deref-2.result.now c.resume_pieces.result c.deref.ensures.value c.deref-2.ensures.value c.resume_pieces.ensures

pub returns-clause-answer : goal.returns-clause-answer
returns-clause-answer c =
    answers_more (ResumesPieces writes_of c.args.order (stopped c)) (Resumes c.args.settings.now c.args.list.now c.args.records.now c.args.given_up.now c.args.order) c.resume_pieces.result
    (λ o resumes. has_pieces c.in-Ok.pieces.descriptors.items c.in-Ok.pieces.barriers.items c.in-Ok.ensures.found resumes) (left c)

pub returns-clause-again : goal.returns-clause-again
returns-clause-again c = again_if_left c.args.settings.now c.args.order (stopped c) c.in-Ok.ensures.can c.in-Ok.pieces.marked c.resume_pieces.result (left c)
