use Rattle.mailmap_grammar.proofs.WritableLines.{all_read}
use Rattle.mailmap_suggestions.proofs.GitText.{git_reads_emails}
use Rattle.mailmap_suggestions.proofs.Selected.{none_selected}
use Rattle.mailmap_suggestions.proofs.Texts.{lines_writable, text_read}
use Rattle.mailmap_suggestions.proofs.Selections.{text_selected, text_selected_by_git}
use Rattle.mailmap_suggestions.proofs.Writable.{all_read_as_emails}
use Rattle.mailmap_suggestions.proofs.laws.law_suggested_text.Goals as goal

pub returns : goal.returns
returns c = record {
  read = text_read;
  emails = all_read_as_emails;
  gits = git_reads_emails;
  selected = text_selected;
  selected_gits = text_selected_by_git;
  none_selected = none_selected;
  mappings = all_read;
  contacts = lines_writable 1;
}
