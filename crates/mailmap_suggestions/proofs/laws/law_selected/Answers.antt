use Rattle.mailmap_suggestions.proofs.Selections.{logins_stay, names_stay, no_logins, no_names, selects_logins, selects_names}
use Rattle.mailmap_suggestions.proofs.laws.law_selected.Goals as goal

pub returns : goal.returns
returns c = record {
  names = selects_names;
  logins = selects_logins;
  emails_by_name = names_stay;
  emails = logins_stay;
  no_names = no_names;
  no_logins = no_logins;
}
