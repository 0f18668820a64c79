use Rattle.std.proofs.Common.{rules}
use Rattle.mailmap_suggestions.proofs.Appended.{answer_is, named_after, plain_after}
use Rattle.mailmap_suggestions.proofs.laws.law_exact.Goals as goal

pub returns : goal.returns
returns c = record {
  named = λ h c name email old_name old_email names emails. search (rules, answer_is, named_after);
  plain = λ h c name email old_email none emails. search (rules, answer_is, plain_after);
}
