-- Merging an iterator with known entries, and merging several sources step by step.
use Rattle.std.proofs.Common.{◌≡◌, ◌≢◌, ℕ, Bool, true, false, cond, Option, List, [], ◌∷◌, ◌++◌, map, take, drop, length, Result, Ok, Err, IfOk, OnOk, OnErr, is_ok, append-nil, length-append, refl, ap, ◌∙◌, arith, append_assoc, take-append-drop}
use Rattle.std.specs.List.{AllByRecursion}
use Rattle.std.specs.Iterator.{AlwaysYields, Drains, Yields}
use Rattle.std.proofs.lemmas.Iterator.{YieldsList, items_from_drains}
use Rattle.std.proofs.lemmas.Iterator.Consumers.{YieldsList-so_far}
use Rattle.std.proofs.lemmas.List.{nil_from_length}
use Rattle.std.proofs.lemmas.Result.{IfOk-weaker, on_err_weaker, on_ok_weaker}
use Rattle.std.proofs.lemmas.List.Elements.{filter-append}
use Rattle.mailmap_entries.specs.Entries.{Mapping, mapping_of}
use Rattle.mailmap_entries.specs.Building.{IsMerged}
use Rattle.mailmap_entries.specs.Semantics.{IsNormal, accepted, is_accepted}
use Rattle.mailmap_snapshot.specs.Sources.{AreMarks, IsMarked, merged_mappings, source_mappings}
use Rattle.mailmap_entries.specs.declared.entry.Entry.{Entry}
use Rattle.mailmap_snapshot.specs.declared.snapshot.sources.Source.{Source}

yields_read : {S A B C : Type 0} (steps : S → Option A → S → Type 0) (h : B → C) (v : A → B) (s : S) (ys : List B) → AlwaysYields steps v s ys → AlwaysYields steps (λ x. h (v x)) s (map h ys)
yields_read steps h v s [] all = all
yields_read steps h v s (y ∷ ys) all = (all.0, λ x t is. let next = all.1 x t is in (ap h next.0, yields_read steps h v t ys next.1))

-- an iterator whose contract gives its entries
pub yields_entries : {S : Type 0} {steps : S → Option Entry → S → Type 0} {s : S} {es : List Entry} → YieldsList steps (λ x. x) s es → YieldsList steps mapping_of s (map mapping_of es)
yields_entries {steps = steps} {s = s} {es = es} e = record { runs = yields_read steps mapping_of (λ x. x) s es e.runs }

drained : {S : Type 0} {steps : S → Option Entry → S → Type 0} {s : S} {said : List Mapping} → YieldsList steps mapping_of s said → (xs : List Entry) → Drains steps s xs → map mapping_of xs ≡ said
drained e xs d = items_from_drains xs (d.1.0, d.1.1, λ w. (d.0, d.1.2)) e

-- if nothing in a list is accepted, nothing in a prefix of it is
front_ignored : (n : ℕ) (l : List Mapping) → accepted l ≡ [] → accepted (take n l) ≡ []
front_ignored n l none =
    let parts : accepted (take n l) ++ accepted (drop n l) ≡ [] = cc (filter-append is_accepted (take n l) (drop n l), take-append-drop n l, none) in
    nil_from_length _ (omega (arith, ap length parts, length-append (accepted (take n l)) (accepted (drop n l))))

pub normal_all : {S E : Type 0} {steps : S → Option Entry → S → Type 0} {s : S} {said : List Mapping} → YieldsList steps mapping_of s said → (r : Result (List Mapping) E)
    → IfOk r (λ made. (xs : List Entry) × Drains steps s xs × IsNormal (map mapping_of xs) made) → IfOk r (IsNormal said)
normal_all {said = said} gives r made = IfOk-weaker r _ (IsNormal said) (λ n d. rw (drained gives d.0 d.1) at d.2) made

module _ {S T E : Type 0} {steps : S → Option Entry → S → Type 0} {s : S} {said : List Mapping} (gives : YieldsList steps mapping_of s said) where
  pub merged_all : (r : Result T E) (old new : List Mapping) → OnOk r ((xs : List Entry) × Drains steps s xs × IsMerged old (map mapping_of xs) new) → OnOk r (IsMerged old said new)
  merged_all r old new made = on_ok_weaker r (λ d. rw (drained gives d.0 d.1) at d.2) made

  pub out_of_memory_some : (r : Result T E) → OnErr r ((xs : List Entry) × (rest : S) × Yields steps s xs rest × (accepted (map mapping_of xs) ≢ [])) → OnErr r (accepted said ≢ [])
  out_of_memory_some r failed = on_err_weaker r (λ d none. d.3 (ap accepted (YieldsList-so_far gives d.0 d.1 d.2) ∙ front_ignored (length d.0) said none)) failed

-- ---- sources one after another

append_marked : (ss ts : List Source) (ms ns : List Bool) → AreMarks ss ms
    → (merged_mappings (ss ++ ts) (ms ++ ns) ≡ merged_mappings ss ms ++ merged_mappings ts ns) × (AreMarks ts ns → AreMarks (ss ++ ts) (ms ++ ns))
unfolding merged_mappings
append_marked [] ts [] ns are = (refl, λ more. more)
append_marked [] ts (m ∷ ms) ns are = absurd are
append_marked (s ∷ ss) ts [] ns are = absurd are
append_marked (s ∷ ss) ts (m ∷ ms) ns are = grind (arith, append_marked ss ts ms ns are.1, append_assoc)

-- more sources
pub marked_more : (before : List Mapping) (ss ts : List Source) (ms ns : List Bool) (old new : List Mapping) → IsMarked before ss ms old
    → ((h : List Mapping) → IsNormal h old → IsNormal (h ++ merged_mappings ts ns) new) → AreMarks ts ns → IsMarked before (ss ++ ts) (ms ++ ns) new
marked_more before ss ts ms ns old new done adds more =
    let both = append_marked ss ts ms ns done.marks in
    record {
      normal = rw (both.0, ← append_assoc before (merged_mappings ss ms) (merged_mappings ts ns)) (adds (before ++ merged_mappings ss ms) done.normal);
      marks = both.1 more;
    }

-- one more source, merged by a call of its own
pub marked_one : {E : Type 0} (before : List Mapping) (ss : List Source) (s : Source) (ms : List Bool) (old new : List Mapping) (r : Result (Unit {0}) E) → IsMarked before ss ms old
    → OnOk r ((h : List Mapping) → IsNormal h old → IsNormal (h ++ source_mappings s) new) → OnErr r (new ≡ old) → OnErr r (accepted (source_mappings s) ≢ [])
    → IsMarked before (ss ++ s ∷ []) (ms ++ is_ok r ∷ []) new
unfolding merged_mappings
marked_one before ss s ms old new (Ok u) done adds same some =
    marked_more before ss (s ∷ []) ms (true ∷ []) old new done (λ h d. rw (append-nil (source_mappings s)) (adds h d)) ((λ none. refl), tt)
marked_one before ss s ms old new (Err e) done adds same some =
    marked_more before ss (s ∷ []) ms (false ∷ []) old new done (λ h d. rw (append-nil h, same) d) ((λ none. absurd (some none)), tt)

-- if no source is marked as made, nothing is merged
pub none_merged : (ss : List Source) (ms : List Bool) → AllByRecursion (λ m. m ≡ false) ms → merged_mappings ss ms ≡ []
unfolding merged_mappings
none_merged [] ms none = refl
none_merged (s ∷ ss) [] none = refl
none_merged (s ∷ ss) (m ∷ ms) none = ap (λ b. cond b (source_mappings s) [] ++ merged_mappings ss ms) none.0 ∙ none_merged ss ms none.1
