use Rattle.std.proofs.Common.{sym, ap₂, ◌∙◌}
use Rattle.std.specs.Ordering.{nat_cmp}
use Rattle.mailmap_entries.specs.Folding.{folded}
use Rattle.mailmap_entries.proofs.Prefixes.{prefix_decides}
use Rattle.mailmap_entries.proofs.fold.prefix.Prefixed.compare.Goals as goal

pub returns-in_default : goal.returns-in_default
returns-in_default c =
    let a = c.args.self in
    let b = c.args.other in
    let prefixes = c.cmp.ensures ∙ ap₂ nat_cmp a.is_prefix.is b.is_prefix.is in
    sym (prefix_decides 16 (folded a.text.now) (folded b.text.now) a.is_prefix.bytes b.is_prefix.bytes c.cmp.result prefixes c.in_default.not-Equal)
