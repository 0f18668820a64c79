use Rattle.std.proofs.Common.{◌∙◌, ◌||◌, ap, sym}
use Rattle.mailmap_names.specs.Keys.{has_common, keys}
use Rattle.mailmap_entries.specs.Texts.{texts}
use Rattle.mailmap_names.proofs.Marks.{alike_empty, alike_names, alike_none}
use Rattle.mailmap_names.proofs.Spelling.{common_texts}
use Rattle.mailmap_names.proofs.names.Name.is_alike.Goals.{then-is_empty-via-then-is_empty, then-is_empty-via-else-is_empty+then-is_empty-2}
use Rattle.mailmap_names.proofs.names.Name.is_alike.Goals as goal

pub returns-then-is_empty : goal.returns-then-is_empty
returns-then-is_empty c =
    let a = c.args.self.now.text.now in
    let b = c.args.other.now.text.now in
    elim c.then-is_empty.branch [
      | then-is_empty-via-then-is_empty w ↦ alike_empty a b (sym c.is_empty.ensures ∙ w.if-is_empty.true)
      | then-is_empty-via-else-is_empty+then-is_empty-2 w ↦ alike_none a b (sym w.is_empty-else-is_empty.ensures ∙ w.if-is_empty-2.true)
    ]

pub returns-then-is_same : goal.returns-then-is_same
returns-then-is_same c =
    let a = c.args.self.now.text.now in
    let b = c.args.other.now.text.now in
    let both = alike_names a b (sym c.is_empty.ensures ∙ c.if-is_empty.false) (sym c.is_empty-else-is_empty.ensures ∙ c.if-is_empty-2.false) in
    c.if-is_same.true ∙ sym (both ∙ ap (λ t. t || has_common (keys a) (keys b)) (sym c.is_same.ensures ∙ c.if-is_same.true))

pub returns-else-is_same : goal.returns-else-is_same
returns-else-is_same c =
    let a = c.args.self.now.text.now in
    let b = c.args.other.now.text.now in
    let both = alike_names a b (sym c.is_empty.ensures ∙ c.if-is_empty.false) (sym c.is_empty-else-is_empty.ensures ∙ c.if-is_empty-2.false) in
    let these = ap texts c.deref.ensures.value ∙ c.args.self.now.keys_read in
    let those = ap texts c.deref-else-is_same.ensures.value ∙ c.args.other.now.keys_read in
    c.has_common.ensures ∙ common_texts c.deref.result.now c.deref-else-is_same.result.now
    ∙ ap (λ ks. has_common ks (texts c.deref-else-is_same.result.now)) these ∙ ap (has_common (keys a)) those
    ∙ sym (both ∙ ap (λ t. t || has_common (keys a) (keys b)) (sym c.is_same.ensures ∙ c.if-is_same.false))
