-- Mailmaps that are pruned in their files, one after another.
use Rattle.std.proofs.Common.{◌≡◌, ◌+◌, ◌<◌, ◌++◌, ◌∙◌, ◌∷◌, ℕ, Bor, List, [], ap, append-nil, append_assoc, arith, get_or, length, length-take, map, refl, subst, sym, take}
use Rattle.std.proofs.lemmas.List.{get_or-map, length-map, take_more}
use Rattle.std.specs.Prelude.{slice_index_or}
use Rattle.mailmap_entries.specs.Folding.{Text}
use Rattle.mailmap_findings.specs.Findings.{IsPruned}
use Rattle.verify_command.specs.InPlace.{ArePruned, Prunes, Replaced, unless_same}

-- the mailmaps so far, and the next one
next_mailmap : (buffers : List (Bor Text)) (k : ℕ) (d : Bor Text) → k < length buffers
    → take (k + 1) (map (λ b. b.now) buffers) ≡ take k (map (λ b. b.now) buffers) ++ (get_or buffers k d).now ∷ []
next_mailmap buffers k d lt =
    let now : Bor Text → Text = λ b. b.now in
    take_more (map now buffers) k [] (omega (arith, lt, length-map buffers now))
    ∙ ap (λ x. take k (map now buffers) ++ x ∷ []) (get_or-map now buffers k d [] lt)

-- one more at the end
pruned_more : (paths : List Text) (index at : ℕ) (mailmaps : List Text) (mailmap text : Text) (replaced : List Replaced)
    → at ≡ index + length mailmaps → ArePruned paths index mailmaps replaced → IsPruned mailmap text
    → ArePruned paths index (mailmaps ++ mailmap ∷ []) (replaced ++ unless_same (slice_index_or paths at []) mailmap text)
pruned_more paths index at [] mailmap text replaced on are is =
    let same : at ≡ index = omega (arith, on) in (
      text,
      [],
      is,
      refl,
      ap (λ r. r ++ unless_same (slice_index_or paths at []) mailmap text) are
          ∙ ap (λ n. unless_same (slice_index_or paths n []) mailmap text) same ∙ sym (append-nil (unless_same (slice_index_or paths index []) mailmap text)),
    )
pruned_more paths index at (m ∷ ms) mailmap text replaced on are is =
    let more = unless_same (slice_index_or paths at []) mailmap text in
    let first = unless_same (slice_index_or paths index []) m are.0 in
    let next : at ≡ index + 1 + length ms = omega (arith, on) in (
      are.0,
      are.1 ++ more,
      are.2,
      pruned_more paths (index + 1) at ms mailmap text are.1 next are.3 is,
      ap (λ r. r ++ more) are.4 ∙ append_assoc first are.1 more,
    )

module _ {D : Type 0} (Has : D → List Replaced → Type 0) (paths : List Text) where
  -- none is pruned yet
  pub prunes_none : (d : D) → Prunes Has paths [] d d
  prunes_none d before has = ([], refl, subst (Has d) (sym (append-nil before)) has)

  -- one more is
  prunes_more : (mailmaps : List Text) (mailmap : Text) (at : ℕ) (old mid new : D) → at ≡ length mailmaps
      → Prunes Has paths mailmaps old mid
      → ((before : List Replaced) → Has mid before → (text : Text) × IsPruned mailmap text
      × Has new (before ++ unless_same (slice_index_or paths at []) mailmap text))
      → Prunes Has paths (mailmaps ++ mailmap ∷ []) old new
  prunes_more mailmaps mailmap at old mid new on first next before has =
      let done = first before has in
      let one = next (before ++ done.0) done.2 in
      let more = unless_same (slice_index_or paths at []) mailmap one.0 in (
        done.0 ++ more,
        pruned_more paths 0 at mailmaps mailmap one.0 done.0 (omega (arith, on)) done.1 one.1,
        subst (Has new) (append_assoc before done.0 more) one.2,
      )

  -- the next one is, in the file at its path
  pub prunes_next : (buffers : List (Bor Text)) (k : ℕ) (d : Bor Text) (path : Text) (old mid new : D) → k < length buffers
      → path ≡ slice_index_or paths k [] → Prunes Has paths (take k (map (λ b. b.now) buffers)) old mid
      → ((before : List Replaced) → Has mid before → (text : Text) × IsPruned (get_or buffers k d).now text
      × Has new (before ++ unless_same path (get_or buffers k d).now text))
      → Prunes Has paths (take (k + 1) (map (λ b. b.now) buffers)) old new
  prunes_next buffers k d path old mid new lt is first next =
      let now : Bor Text → Text = λ b. b.now in
      let mailmap = (get_or buffers k d).now in
      let len : k ≡ length (take k (map now buffers)) = omega (arith, lt, length-take k (map now buffers), length-map buffers now) in
      subst (λ ms. Prunes Has paths ms old new) (sym (next_mailmap buffers k d lt))
      (prunes_more (take k (map now buffers)) mailmap k old mid new len first
      (λ before has. subst (λ p. (text : Text) × IsPruned mailmap text × Has new (before ++ unless_same p mailmap text)) is (next before has)))

  -- the next one is not
  pub prunes_no_more : (mailmaps : List Text) (old mid new : D) → Prunes Has paths mailmaps old mid
      → ((before : List Replaced) → Has mid before → Has new before) → Prunes Has paths mailmaps old new
  prunes_no_more mailmaps old mid new first next before has =
      let done = first before has in (done.0, done.1, next (before ++ done.0) done.2)
