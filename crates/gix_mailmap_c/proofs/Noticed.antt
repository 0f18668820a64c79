-- Findings in words, one after another.
use Rattle.std.proofs.Common.{◌≡◌, List, [], ◌∷◌, ◌++◌, refl}
use Rattle.mailmap_report.specs.Json.{Notice}
use Rattle.gix_mailmap_c.specs.Notices.{Words, with_notice, with_notices}

pub notices_append : (w : Words) (ns more : List Notice) → with_notices (with_notices w ns) more ≡ with_notices w (ns ++ more)
notices_append w [] more = refl
notices_append w (n ∷ ns) more = notices_append (with_notice w n) ns more
