-- The answers to the contacts of a group, counted.
use Rattle.std.specs.Prelude.{◌+◌, ℕ, not, if◌then◌else◌, List, [], ◌∷◌, map, filter}
use Rattle.std.specs.Ordering.{is_lt, nat_cmp, ordering_then}
use Rattle.std.specs.declared.cmp.Ordering.{Ordering}
use Rattle.mailmap_contacts.specs.Contacts.{Tally, answer_to, answered, contact_cmp, same_contact, tallied}
use Rattle.mailmap_suggestions.specs.Forms.{Histories, git_answer_to}

-- by descending count, then by ascending first line; then by name and email, which decides only if first lines are equal
abbrev pub frequency_cmp : Tally → Tally → Ordering
frequency_cmp a b =
    ordering_then (ordering_then (nat_cmp b.seen.count a.seen.count) (nat_cmp a.seen.first_line b.seen.first_line))
    (contact_cmp a.contact b.contact)

abbrev pub inserted : Tally → List Tally → List Tally
inserted t [] = t ∷ []
inserted t (u ∷ us) = if is_lt (frequency_cmp t u) then t ∷ u ∷ us else u ∷ inserted t us

-- the most frequent first, and of equally frequent ones the first
abbrev pub by_frequency : List Tally → List Tally
by_frequency [] = []
by_frequency (t ∷ ts) = inserted t (by_frequency ts)

abbrev pub counted_answers : Histories → List Tally → List Tally
counted_answers h g = by_frequency (tallied (map (answered h.ours) g))

-- ---- git's answers

abbrev pub git_answered : Histories → Tally → Tally
git_answered h t = record { contact = git_answer_to h.gits t.contact; seen = t.seen }

-- git's answers where this library answers otherwise; each comes where its contact comes
abbrev pub other_git_answers : Histories → List Tally → List Tally
other_git_answers h ts = map (git_answered h)
    (filter (λ t. not (same_contact (git_answer_to h.gits t.contact) (answer_to h.ours t.contact))) ts)

abbrev pub ranked_as : ℕ → Tally → Tally
ranked_as rank t = record { contact = t.contact; seen = record { count = t.seen.count; first_line = rank } }

-- with their ranks in the place of their first lines
abbrev pub ranked : ℕ → List Tally → List Tally
ranked rank [] = []
ranked rank (t ∷ ts) = ranked_as rank t ∷ ranked (rank + 1) ts

-- git's answers where they differ; of equally frequent ones first that of the most frequent contact
abbrev pub counted_git_answers : Histories → List Tally → List Tally
counted_git_answers h g = by_frequency (tallied (ranked 1 (other_git_answers h (by_frequency (tallied g)))))
