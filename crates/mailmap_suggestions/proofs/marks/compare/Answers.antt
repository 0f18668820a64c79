use Rattle.std.proofs.Common.{◌∙◌, ap₂, sym}
use Rattle.std.specs.Ordering.{nat_cmp}
use Rattle.mailmap_entries.proofs.Prefixes.{prefix_decides}
use Rattle.mailmap_suggestions.proofs.marks.compare.Goals as goal

pub returns-in_default : goal.returns-in_default
returns-in_default c =
    let a = c.args.a.now in
    let b = c.args.b.now in
    let prefixes = c.cmp.ensures ∙ ap₂ nat_cmp a.is_prefix.is b.is_prefix.is in
    sym (prefix_decides 16 a.text.items b.text.items a.is_prefix.bytes b.is_prefix.bytes c.cmp.result prefixes c.in_default.not-Equal)
