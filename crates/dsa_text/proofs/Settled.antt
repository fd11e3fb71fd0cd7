-- The options of an audit, from those under what is denied and awaited.
use Rattle.std.proofs.Common.{◌≡◌, ℕ, List, [], inl, Option, Some, Result, Ok, Err, MatchResult, sym, subst}
use Rattle.clap.specs.declared.parser.matches.ArgMatches.{ArgMatches}
use Rattle.dsa_recording.specs.declared.answer.AuditAnswer.{AuditAnswer}
use Rattle.dsa_recording.specs.declared.answer.AuditOptions.{AuditOptions}
use Rattle.dsa_recording.specs.declared.assumptions.Await.{Await}
use Rattle.dsa_recording.specs.declared.reading.ReadFault.{ReadFault}
use Rattle.dsa_recording.specs.declared.words.Denied.{Denied}
use Rattle.dsa_recording.specs.Parts.{AnswersRead}
use Rattle.dsa_text.specs.declared.auditing.Given.{Given}
use Rattle.dsa_text.specs.Audited.{AnswersWith, AuditsAssuming, AuditsInput, AuditsReader, AuditsWithOptions, Refuses, RefusesWith, Settle, SettleWith, awaited_in, denied_in}

module _ (m : ArgMatches) (g : Given) (denied : Denied) (awaited : Await) (is_denied : denied_in m ≡ Some denied) (is_awaited : awaited_in m ≡ Some awaited) where
  assumed : (input : List ℕ) (a : AuditAnswer) → AuditsWithOptions m g denied awaited input a → AuditsInput m g input a
  assumed input a is =
      subst (λ o. AuditsAssuming o (awaited_in m) m g input a) (sym is_denied) (subst (λ o. AuditsAssuming (Some denied) o m g input a) (sym is_awaited) is)

  pub settled : {S : Type 0} (r : Result (S × AuditOptions) AuditAnswer) → MatchResult r (λ x. SettleWith m g denied awaited x.1) (RefusesWith m g denied awaited)
      → MatchResult r (λ x. Settle m g x.1) (Refuses m g)
  settled (Ok x) is = record { accepted = is.accepted; answers = λ input a answers. assumed input a (is.answers input a answers) }
  settled (Err a) is = λ input. assumed input a (is input)

-- the answer to what was read, with these options, is that of the arguments
pub read_with : (m : ArgMatches) (g : Given) (o : AuditOptions) (old new : Option (List ℕ)) (r : Result AuditAnswer ReadFault) → g.dumps.now ≡ [] → Settle m g o
    → AnswersRead o old new r → AuditsReader m g old new r
read_with m g o old new (Ok a) none settle (input, read, end, answer) = inl (input, read, end, settle.answers input a (subst (λ ds. AnswersWith o ds input a) (sym none) answer))
read_with m g o old new (Err fault) none settle is = tt
