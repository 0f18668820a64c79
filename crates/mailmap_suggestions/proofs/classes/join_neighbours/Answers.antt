use Rattle.std.proofs.Common.{◌≡◌, ◌∙◌, ◌<◌, ◌≤◌, ◌-◌, ◌+◌, ℕ, ap, arith, bytes_eq, length, max, subst, sym, true≢false}
use Rattle.std.proofs.lemmas.Slice.Eq.{bytes_eq-Decides}
use Rattle.mailmap_entries.specs.Folding.{Text}
use Rattle.mailmap_suggestions.specs.Forests.{IsForest, IsJoined, link_at, link_of, links_of}
use Rattle.mailmap_suggestions.specs.declared.classes.Link.{Link}
use Rattle.mailmap_suggestions.proofs.Forests.{all_joined, link_read, neighbours_apart, neighbours_joined}
use Rattle.mailmap_suggestions.proofs.classes.join_neighbours.Goals as goal
use Rattle.mailmap_suggestions.proofs.classes.join_neighbours.Goals.{then-eq, else-eq}

pub loop-index-preserved : goal.loop-index-preserved
loop-index-preserved c =
    let links = c.args.links.now in
    let ls = links_of links in
    let index = c.loop-index.index in
    let h = c.loop-index.invariant in
    let start = c.args.parents.now in
    let some : 0 < index = omega arith in
    let within : index < length links = omega arith in
    let a : Link = c.index-links-index.result in
    let b : Link = c.index-links-index-in-loop-index.result in
    let first : link_at ls (index - 1) ≡ link_of a = link_read links (index - 1) a (omega arith) c.index-links-index.is in
    let second : link_at ls index ≡ link_of b = link_read links index b within c.index-links-index-in-loop-index.is in
    let same : c.eq.result ≡ bytes_eq a.mark.text.items b.mark.text.items = c.eq.ensures
    ∙ ap (λ m. bytes_eq m c.as_slice-in-loop-index.result.now) c.as_slice.ensures.value ∙ ap (bytes_eq a.mark.text.items) c.as_slice-in-loop-index.ensures.value in
    let most : index + 1 ≤ max 1 (length links) = omega arith in
    elim c.if-eq.branch [
      | then-eq w ↦
          let marks : a.mark.text.items ≡ b.mark.text.items = (bytes_eq-Decides a.mark.text.items b.mark.text.items).0 (sym same ∙ w.if-eq.true) in
          let joined : IsJoined start w.join.new.parents ls (index + 1) = neighbours_joined start c.loop-index.parents w.join.new.parents ls index a.item b.item some h.1
          (ap (λ (l : Text × ℕ). l.0) first ∙ marks ∙ sym (ap (λ (l : Text × ℕ). l.0) second)) (sym (ap (λ (l : Text × ℕ). l.1) first)) (sym (ap (λ (l : Text × ℕ). l.1) second)) w.join.ensures in
          subst (λ p. IsForest p × IsJoined start p ls (index + 1) × (index + 1 ≤ max 1 (length links))) (sym w.parents-is) (w.join.ensures.forest, joined, most)
      | else-eq w ↦
          let joined : IsJoined start c.loop-index.parents ls (index + 1) = neighbours_apart start c.loop-index.parents ls index some h.1
          (λ e. true≢false (sym ((bytes_eq-Decides a.mark.text.items b.mark.text.items).1 (sym (ap (λ (l : Text × ℕ). l.0) first) ∙ e ∙ ap (λ (l : Text × ℕ). l.0) second)) ∙ (sym same ∙ w.if-eq.false))) in
          subst (λ p. IsForest p × IsJoined start p ls (index + 1) × (index + 1 ≤ max 1 (length links))) (sym w.parents-is) (h.0, joined, most)
    ]

pub returns-clause-joined : goal.returns-clause-joined
returns-clause-joined c =
    let links = c.args.links.now in
    let h = c.loop-index.invariant in
    all_joined c.args.parents.now c.loop-index.parents (links_of links) c.loop-index.index (length links) (omega arith) h.2 h.1
