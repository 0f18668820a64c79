-- Answers as the code has them, and the order of texts without case.
use Rattle.std.specs.Borrow.{Bor}
use Rattle.std.specs.Cmp.Lexicographic.{slice_cmp}
use Rattle.std.specs.Ordering.{nat_cmp, on}
use Rattle.std.specs.declared.cmp.Ordering.{Ordering}
pub use Rattle.mailmap_contacts.specs.Counts.{answer_key, answer_key_tally, tally_of}
use Rattle.mailmap_contacts.specs.Contacts.{Tally}
use Rattle.mailmap_contacts.specs.Folded.{folded_text}
use Rattle.mailmap_contacts.specs.declared.answers.Tally.{Tally as TheTally}
use Rattle.mailmap_contacts.specs.declared.folded.Folded.{Folded}

abbrev pub tally_at : Bor TheTally → Tally
tally_at a = tally_of a.now

abbrev pub folded_cmp : Folded → Folded → Ordering
folded_cmp = on folded_text (slice_cmp nat_cmp)
