-- What is printed for the contacts of a history, beside mailmaps.
use Rattle.std.specs.Prelude.{◌≡◌, List}
use Rattle.mailmap_contacts.specs.Contacts.{contacts_from, tallied}
use Rattle.mailmap_entries.specs.Folding.{Text}
use Rattle.mailmap_suggestions.specs.Histories.{histories_of}
use Rattle.mailmap_suggestions.specs.Shared.{shared_emails}
use Rattle.mailmap_suggestions.specs.SuggestedText.{suggested_text}
use Rattle.mailmap_suggestions.specs.Suggestions.{AreGroupClasses, GroupClasses}

-- The text is that of the suggestions for the contacts on lines, with classes of answers as they are defined.
abbrev pub IsSuggested : List Text → List Text → Text → Type 0
IsSuggested buffers lines text =
    let h = histories_of buffers in
    let ts = tallied (contacts_from 1 lines) in
    let shared = shared_emails h ts in
    (c : GroupClasses) × AreGroupClasses shared h ts c × (text ≡ suggested_text shared c buffers h ts)
