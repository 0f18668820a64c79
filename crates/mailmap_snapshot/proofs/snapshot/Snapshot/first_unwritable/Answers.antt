use Rattle.std.proofs.Common.{◌<◌, ℕ, List, Option, None, Some, MatchOption, All, arith, length, rules}
use Rattle.std.specs.List.{AllWithin, HoldsAt}
use Rattle.std.proofs.lemmas.Iterator.{IsFirst-from_position}
use Rattle.std.proofs.lemmas.Iterator.Consumers.{YieldsList-from_first}
use Rattle.mailmap_entries.specs.Entries.{Mapping, mapping_of}
use Rattle.mailmap_grammar.specs.CanonicalText.{IsWritable}
use Rattle.mailmap_snapshot.specs.Writing.{IsFirstUnwritable}
use Rattle.mailmap_snapshot.proofs.snapshot.Snapshot.first_unwritable.Goals as goal

by_position : (es : List Mapping) (r : Option ℕ)
    → MatchOption r (AllWithin IsWritable es 0 (length es)) (λ i. (i < length es) × HoldsAt (λ e. ¬ IsWritable e) es i × AllWithin IsWritable es 0 i)
    → MatchOption r (All IsWritable es) (IsFirstUnwritable es)
by_position es None all = λ k d within. all k d (omega arith) within
by_position es (Some i) (within, unwritable, before) = record { before = before; within = within; unwritable = unwritable }

pub returns-clause-place : goal.returns-clause-place
returns-clause-place c =
    by_position c.args.self.now c.position.result (IsFirst-from_position _ _ c.position.result (λ e. ¬ IsWritable e) IsWritable c.position.ensures.ran
    (YieldsList-from_first mapping_of (λ s. s) c.args.self.now c.iter.ensures.listing)
    (λ x q called. search rules) (λ x q called. (search rules, search rules)))
