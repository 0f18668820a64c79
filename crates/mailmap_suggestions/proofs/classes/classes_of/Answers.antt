use Rattle.std.proofs.Common.{rules, ◌≡◌, ◌∙◌, ◌<◌, ap, arith, length, subst, sym}
use Rattle.std.specs.List.{All}
use Rattle.std.specs.Ordering.{is_lt}
use Rattle.std.proofs.lemmas.Cmp.{nat_list_cmp_total}
use Rattle.std.proofs.lemmas.List.{take_at}
use Rattle.std.proofs.lemmas.List.Sorted.{All-permutation, answers_always, ranks_by}
use Rattle.mailmap_entries.specs.Folding.{text_cmp}
use Rattle.mailmap_suggestions.specs.Classes.{AreClasses}
use Rattle.mailmap_suggestions.specs.Forests.{IsJoined, KeepsClasses, links_of}
use Rattle.mailmap_suggestions.specs.declared.classes.Link.{Link}
use Rattle.mailmap_suggestions.proofs.Forests.{are_classes, borrowed}
use Rattle.mailmap_suggestions.proofs.classes.classes_of.Goals as goal

pub join_neighbours-requires-clause-items : goal.join_neighbours-requires-clause-items
join_neighbours-requires-clause-items c =
    let sorted = c.sort_unstable_by.new.self.items in
    let all : All (λ (link : Link). link.item < c.args.count) sorted = All-permutation (λ (link : Link). link.item < c.args.count) c.args.links.items sorted c.sort_unstable_by.ensures.permutation c.requires in
    let count : c.args.count ≡ length c.deref_mut.result.now = sym c.in_ok-parents.ensures.len ∙ ap length (sym c.deref_mut.ensures.value) in
    let from : All (λ (link : Link). link.item < c.args.count) c.deref.result.now = subst (λ l. All (λ (link : Link). link.item < c.args.count) l) (sym c.deref.ensures.value) all in
    subst (λ n. All (λ (link : Link). link.item < n) c.deref.result.now) count from

pub returns : goal.returns
returns c =
    let links = c.args.links.items in
    let sorted = c.sort_unstable_by.new.self.items in
    let start = c.in_ok-parents.parents.items in
    let p = c.join_neighbours.new.parents in
    let q = c.flatten.new.parents in
    let count : length start ≡ c.args.count = c.in_ok-parents.ensures.len in
    let compares = answers_always _ (λ a r. is_lt r ≡ is_lt (text_cmp a.0.now.mark.text.items a.1.0.now.mark.text.items)) _
    (λ f a r f' k. let e : r ≡ text_cmp a.0.now.mark.text.items a.1.0.now.mark.text.items = search rules in ap is_lt e) in
    let up = c.sort_unstable_by.ensures.sorted (λ (x y : Link). is_lt (text_cmp x.mark.text.items y.mark.text.items)) (ranks_by nat_list_cmp_total (λ (x : Link). x.mark.text.items)) compares in
    let p_is : length p ≡ length start = c.join_neighbours.auto.parents ∙ ap length c.deref_mut.ensures.value in
    let joined : IsJoined start p (links_of sorted) (length sorted) = subst (λ s. IsJoined s p (links_of sorted) (length sorted)) c.deref_mut.ensures.value
    (subst (λ l. IsJoined c.deref_mut.result.now p (links_of l) (length l)) c.deref.ensures.value c.join_neighbours.ensures.joined) in
    let p_len : length p ≡ c.in_ok-parents.parents.len = omega arith in
    let p_lent : c.deref_mut-2.result.now ≡ p = c.deref_mut-2.ensures.value ∙ take_at p _ c.in_ok-parents.parents.len p_len in
    let keeps : KeepsClasses p q = subst (λ s. KeepsClasses s q) p_lent c.flatten.ensures.keeps in
    let q_len : length q ≡ c.in_ok-parents.parents.len = keeps.length ∙ p_len in
    let are : AreClasses (length start) (links_of links) q = are_classes links sorted start p q (λ i lt. c.in_ok-parents.ensures.roots i (subst (λ n. i < n) count lt)) c.sort_unstable_by.ensures.permutation up joined p_is keeps c.flatten.ensures.flat in
    borrowed _ _ _ q _ q_len (subst (λ n. AreClasses n (links_of links) q) count are)
