-- Texts that are compared without the case of ASCII letters.
use Rattle.mailmap_entries.specs.Folding.{Text, folded}
use Rattle.mailmap_contacts.specs.declared.folded.Folded.{Folded}

abbrev pub folded_text : Folded → Text
folded_text f = folded f.text.now
