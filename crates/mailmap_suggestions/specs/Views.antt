-- Suggestions as the code has them.
use Rattle.std.specs.Prelude.{List, [], ◌∷◌, Option, None, Some, map}
use Rattle.mailmap_contacts.specs.Answers.{tally_of}
use Rattle.mailmap_entries.specs.Entries.{mapping_of}
use Rattle.mailmap_suggestions.specs.Suggestions.{Kind, Suggestion, by_alike_names, by_email, by_login, by_name}
use Rattle.mailmap_suggestions.specs.Suggestions.{by_shared_email}
use Rattle.mailmap_suggestions.specs.declared.kinds.Kind.{Kind as TheKind}
use Rattle.mailmap_suggestions.specs.declared.kinds.Kind.TheVariants.{Alike, Email, Login, Name, SharedEmail}
use Rattle.mailmap_suggestions.specs.declared.suggestions.Suggestion.{Suggestion as TheSuggestion}

-- the specification's view of a kind of group
abbrev pub kind_of : TheKind → Kind
kind_of Email = by_email
kind_of (SharedEmail email) = by_shared_email email.now
kind_of Name = by_name
kind_of Alike = by_alike_names
kind_of (Login login) = by_login login.now

-- the specification's view of a suggestion
abbrev pub suggestion_of : TheSuggestion → Suggestion
suggestion_of s = record {
  kind = kind_of s.kind;
  answers = map tally_of s.answers.items;
  git_answers = map tally_of s.git_answers.items;
  proper = (tally_of s.proper).contact;
  entries = map mapping_of s.entries.items;
  is_cut = s.is_cut;
}

-- a suggestion, if there is one
abbrev pub listed_suggestion : Option TheSuggestion → List Suggestion
listed_suggestion None = []
listed_suggestion (Some s) = suggestion_of s ∷ []
