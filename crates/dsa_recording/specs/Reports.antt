-- The report on a recording (this project's choice).
use Rattle.std.specs.Prelude.{ℕ, ◌≡◌, List}
use Rattle.dsa_descriptor.specs.Lists.{entries}
use Rattle.dsa_recording.specs.declared.report.Report.{Report}
use Rattle.dsa_recording.specs.declared.findings.Finding.{Finding}
use Rattle.dsa_recording.specs.declared.stream.Submission.{Submission}
use Rattle.dsa_recording.specs.declared.submission.Audited.{Audited}
use Rattle.dsa_recording.specs.Pairs.{Terms}
use Rattle.dsa_recording.specs.Streams.{ReadsStream}
use Rattle.dsa_recording.specs.Submissions.{AreAudited}
use Rattle.dsa_recording.specs.Findings.{recording_findings}

-- what a report says
pub record Reported : Type 0 where
  pub submissions : List Submission
  pub audits : List Audited
  pub findings : List Finding

-- what a report in memory says
abbrev pub reported_by : Report → Reported
reported_by r = record { submissions = r.submissions.items; audits = r.audits.items; findings = r.findings.items }

-- the submissions of the recording, an audit of each on these terms, and all that these find
pub record IsReport (terms : Terms) (bytes : List ℕ) (r : Reported) : Type 0 where
  pub submissions : ReadsStream bytes r.submissions
  pub audits : AreAudited terms (entries bytes) r.submissions r.audits
  pub findings : r.findings ≡ recording_findings 0 r.audits
