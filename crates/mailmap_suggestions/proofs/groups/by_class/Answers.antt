use Rattle.std.proofs.Common.{◌∙◌, ◌<◌, ◌++◌, List, append-nil, ap, arith, length, map, sym, true, false}
use Rattle.mailmap_contacts.specs.Answers.{tally_of}
use Rattle.mailmap_contacts.specs.Contacts.{Tally, has_text}
use Rattle.mailmap_entries.specs.Folding.{Text, folded}
use Rattle.mailmap_suggestions.specs.Private.{keyed_of}
use Rattle.mailmap_suggestions.proofs.Classed.{class_more, keyed_if, keyed_push, some_at}
use Rattle.mailmap_suggestions.proofs.groups.by_class.Goals as goal
use Rattle.mailmap_suggestions.proofs.groups.by_class.Goals.{then-has_text+in_ok-push, else-has_text}

pub loop-index-preserved : goal.loop-index-preserved
loop-index-preserved c = λ text are.
    let classes = c.args.classes.now in
    let contacts = c.args.contacts.now in
    let k = c.loop-index.index in
    let v = c.index-classes-index.result in
    let within : k < length contacts = omega arith in
    let below : k < length classes = omega arith in
    let before : List (Text × Tally) = map keyed_of c.loop-index.keyed.items in
    let t = some_at contacts k within in
    elim c.if-has_text.branch [
      | then-has_text+in_ok-push w ↦
          class_more classes contacts k v t.0 before (map keyed_of c.if-has_text.keyed.items) true below within c.index-classes-index.is t.1
          (w.if-has_text.ensures ∙ ap has_text c.as_slice-text.ensures.value)
          (ap (λ v. map keyed_of v.items) w.keyed-is ∙ keyed_push contacts k _ t.0 _ c.loop-index.keyed.items w.push.new.self.items w.in_ok-push.ensures.items within t.1
          ∙ ap (λ s. before ++ keyed_if true (s, tally_of t.0)) (w.new.ensures ∙ ap folded c.as_slice-text.ensures.value)) text are (c.loop-index.invariant text are)
      | else-has_text w ↦
          class_more classes contacts k v t.0 before (map keyed_of c.if-has_text.keyed.items) false below within c.index-classes-index.is t.1
          (w.if-has_text.ensures ∙ ap has_text c.as_slice-text.ensures.value)
          (ap (λ v. map keyed_of v.items) w.keyed-is ∙ sym (append-nil before)) text are (c.loop-index.invariant text are)
    ]
