-- Findings about contacts as the code has them.
use Rattle.mailmap_contacts.specs.Answers.{tally_of}
use Rattle.mailmap_suggestions.specs.ContactFindings.{ContactFinding, git_answers, is_like, no_contact, shared_email}
use Rattle.mailmap_suggestions.specs.declared.findings.ContactFinding.{ContactFinding as TheFinding}
use Rattle.mailmap_suggestions.specs.declared.findings.ContactFinding.TheVariants.{GitAnswers, IsLike, NoContact, SharedEmail}

-- the specification's view of a finding
abbrev pub finding_view : TheFinding → ContactFinding
finding_view (NoContact line) = no_contact line
finding_view (SharedEmail email seen) = shared_email email.now seen
finding_view (IsLike likeness a p) = is_like likeness (tally_of a) (tally_of p)
finding_view (GitAnswers a) = git_answers (tally_of a)
