-- Texts as keys, as the code has them.
use Rattle.std.specs.Cmp.Lexicographic.{slice_cmp}
use Rattle.std.specs.Ordering.{nat_cmp, on}
use Rattle.std.specs.declared.cmp.Ordering.{Ordering}
use Rattle.mailmap_entries.specs.Folding.{Text, folded}
use Rattle.mailmap_suggestions.specs.declared.keys.Key.{Key}

abbrev pub key_text : Key → Text
key_text k = folded k.prefixed.text.now

abbrev pub key_cmp : Key → Key → Ordering
key_cmp = on key_text (slice_cmp nat_cmp)
