-- What any selection of groups does: the laws about it.
use Rattle.std.proofs.Common.{◌≡◌, ◌≢◌, ◌∙◌, ◌&&◌, Bool, true, false, true≢false, not, List, [], ◌∷◌, ◌++◌, None, ap, bytes_eq, cond, filter, map, refl, subst, sym, ⊎_elim, if◌then◌else◌}
use Rattle.std.specs.List.{AllByRecursion, flat_map, list_any}
use Rattle.std.specs.Ordering.{eq_by_cmp}
use Rattle.std.proofs.lemmas.Bool.{and_parts, not-true}
use Rattle.mailmap_entries.specs.Entries.{Mapping}
use Rattle.mailmap_entries.specs.Folding.{Text, folded}
use Rattle.mailmap_entries.specs.Semantics.{Key, accepted, key, key_cmp, of_key}
use Rattle.mailmap_entries.proofs.Parts.{all_weaker}
use Rattle.mailmap_contacts.specs.Contacts.{Contact, Tally, answer_to}
use Rattle.mailmap_contacts.proofs.Steps.{all_filtered}
use Rattle.mailmap_findings.specs.GitAnswers.{git_mappings}
use Rattle.mailmap_grammar.specs.CanonicalText.{IsWritable}
use Rattle.mailmap_grammar.specs.Lines.{mappings_of}
use Rattle.mailmap_suggestions.specs.Forms.{alike, distinct, own_key}
use Rattle.mailmap_suggestions.specs.GroupEntries.{Agree, HasNoEmptyName, IsWritableContact, are_alike, are_cut, contacts, group_entries, is_grouped, members, only}
use Rattle.mailmap_suggestions.specs.Selections.{AllAgreeBut, AreAllNew, AreLinked, EachNeeded, Selection, Selects, after_emails, after_logins, after_names, by_any_login, by_email, by_login, by_name, entries_of, has_class, has_cut_email, has_entries, is_left_out, is_left_out_later, is_line_remembered, is_united, lines_for, uncut_class}
use Rattle.mailmap_suggestions.specs.Suggestions.{Stage, has_any, is_remembered, new_entries, stage_entries}
use Rattle.mailmap_suggestions.specs.Written.{ContactHoldsNoZero, HoldsNoZero, selected_text}
use Rattle.mailmap_suggestions.proofs.Appended.{IsCareful, accepted_all}
use Rattle.mailmap_suggestions.proofs.Careful.{careful, careful_logins, named_alike, unnamed}
use Rattle.mailmap_suggestions.proofs.Distinct.{◌∈◌, all_among, all_of, among_passing, at, each, each_pair, part_joined}
use Rattle.mailmap_suggestions.proofs.GitText.{git_reads_selected}
use Rattle.mailmap_suggestions.proofs.Needed.{needed_emails, needed_logins, needed_names, none_split}
use Rattle.mailmap_suggestions.proofs.Proper.{Each}
use Rattle.mailmap_suggestions.proofs.Together.{logins_agree, logins_others, logins_united, names_agree, names_others, names_united, no_entries, none_or_one, nothing_added}
use Rattle.mailmap_suggestions.proofs.United.{cut_before, emails_named, flat_filtered, neither, never, one_by_class, spell, together_for, writable_named}
use Rattle.mailmap_suggestions.proofs.Writable.{selected_read}

module _ (s : Selection) (named : AllByRecursion HasNoEmptyName s.mappings) (linked : AreLinked s) where
  abbrev careful_names : IsCareful s.shared s.classes.by_name never (after_emails s) s.tallies
  careful_names = careful s.shared (after_emails s) s.tallies s.classes.by_name linked.by_name

  unnamed_none : (c : Contact) → c ∈ contacts s.tallies → (answer_to (after_emails s) c).name ≡ [] → s.classes.by_name (answer_to (after_emails s) c) ≡ []
  unnamed_none = unnamed s.shared (after_emails s) s.tallies s.classes.by_name linked.by_name (emails_named s.shared s.mappings s.tallies named)

  alike_named : (b c : Contact) → b ∈ contacts s.tallies → c ∈ contacts s.tallies → let a = answer_to (after_emails s) in
      (a b).name ≡ (a c).name → (a b).name ≢ [] → s.classes.by_name (a b) ≢ [] → s.classes.by_name (a c) ≢ [] → s.classes.by_name (a b) ≡ s.classes.by_name (a c)
  alike_named = named_alike s.shared (after_emails s) s.tallies s.classes.by_name linked.by_name

  careful_next : (k : Text) → s.logins_pass k ≡ true → IsCareful s.shared s.classes.by_login (cut_before s.shared s.mappings s.tallies named s.classes.by_name careful_names) (by_any_login s).grouped.ours s.tallies
  careful_next k passes = careful_logins s.shared s.mappings s.tallies named s.classes.by_name s.classes.by_login linked.by_name (linked.by_login k passes)

  -- ---- what is selected

  pub selects_names : Selects s.seen (is_left_out s) (by_name s) (after_emails s) (after_names s)
  selects_names = record {
    united = each _ (contacts s.tallies) (names_united s.shared s.mappings s.tallies named s.classes.by_name careful_names s.names_pass s.seen);
    others = each _ (contacts s.tallies) (names_others s.shared s.mappings s.tallies named s.classes.by_name careful_names s.names_pass s.seen);
  }

  pub names_stay : AllAgreeBut (is_left_out s) (uncut_class (by_email s)) (after_names s) (contacts s.tallies)
  names_stay = names_agree s.shared s.mappings s.tallies named s.classes.by_name careful_names s.names_pass s.seen

  -- if no group by login is selected
  no_login : AllByRecursion (λ c. only s.logins_pass s.classes.by_login (answer_to (by_any_login s).grouped.ours c) ≡ []) (contacts s.tallies) → Selects s.seen (is_left_out_later s) (by_login s) (after_names s) (after_names s)
  no_login none = record {
    united = all_weaker (contacts s.tallies) (λ c empty o is. absurd (true≢false (sym (and_parts (has_class (by_login s) c) _ (and_parts (is_grouped (by_login s).class (by_login s).grouped s.tallies c) _ (and_parts (has_entries (by_login s) c) _ is).0).0).0
        ∙ ap (λ k. not (bytes_eq k [])) empty))) none;
    others = each _ (contacts s.tallies) (λ c i o is. (refl, refl));
  }

  -- the next steps
  both_stay : (l : List Mapping) → AllAgreeBut (is_left_out s) (uncut_class (by_email s)) l (contacts s.tallies) → AllAgreeBut (has_cut_email s) (uncut_class (by_email s)) l (contacts s.tallies)
  both_stay l all = all_weaker (contacts s.tallies) (λ b row. all_weaker (contacts s.tallies) (λ c agree b_in c_in. agree (earlier b b_in) (earlier c c_in)) row) all
    where
      earlier : (c : Contact) → has_cut_email s c ≡ false → is_left_out s c ≡ false
      earlier c o = (neither (is_left_out s c) _ o).0

  some_login : (k : Text) → s.logins_pass k ≡ true → Selects s.seen (is_left_out_later s) (by_login s) (after_names s) (after_logins s)
  some_login k passes = record {
    united = each _ (contacts s.tallies) (logins_united s.shared s.mappings s.tallies named s.classes.by_name careful_names unnamed_none alike_named s.classes.by_login (careful_next k passes) s.logins_pass s.names_pass s.seen);
    others = each _ (contacts s.tallies) (logins_others s.shared s.mappings s.tallies named s.classes.by_name careful_names unnamed_none alike_named s.classes.by_login (careful_next k passes) s.logins_pass s.names_pass s.seen);
  }

  abbrev Stay : List Mapping → Type 0
  Stay l = AllAgreeBut (has_cut_email s) (uncut_class (by_email s)) l (contacts s.tallies)

  pub logins_stay : Stay (after_logins s)
  logins_stay = ⊎_elim
      (λ none. subst Stay (sym (nothing_added s.shared (after_emails s) (by_any_login s).grouped.ours s.tallies (by_login s).class none s.seen (after_names s))) (both_stay (after_names s) names_stay))
      (λ (k, passes). logins_agree s.shared s.mappings s.tallies named s.classes.by_name careful_names unnamed_none alike_named s.classes.by_login (careful_next k passes) s.logins_pass s.names_pass s.seen)
      (none_or_one s.logins_pass s.classes.by_login (by_any_login s).grouped.ours (contacts s.tallies))

  pub selects_logins : Selects s.seen (is_left_out_later s) (by_login s) (after_names s) (after_logins s)
  selects_logins = ⊎_elim
      (λ none. subst (Selects s.seen (is_left_out_later s) (by_login s) (after_names s)) (sym (nothing_added s.shared (after_emails s) (by_any_login s).grouped.ours s.tallies (by_login s).class none s.seen (after_names s))) (no_login none))
      (λ (k, passes). some_login k passes)
      (none_or_one s.logins_pass s.classes.by_login (by_any_login s).grouped.ours (contacts s.tallies))

  -- if no line by name is remembered, no two answers have one class and differ
  pub classes_agree : AreAllNew s.seen (by_name s) → AllAgreeBut (is_left_out s) (uncut_class (by_name s)) (after_names s) (contacts s.tallies)
  classes_agree new = each_pair _ (contacts s.tallies) (λ b c i j b_in c_in. subst (λ l. Agree (uncut_class (by_name s)) (after_emails s ++ l) b c) (sym new)
      (one_by_class s.shared (after_emails s) s.tallies (by_name s).class (is_left_out s) (emails_named s.shared s.mappings s.tallies named)
      (together_for s.shared s.mappings s.tallies named s.classes.by_name careful_names s.names_pass) (spell s.shared s.mappings s.tallies named s.classes.by_name careful_names s.names_pass) b c i j b_in c_in))

  -- ---- that each entry is needed

  pub needs_names : EachNeeded (is_left_out s) (by_name s)
  needs_names = needed_names s.shared s.mappings s.tallies named s.classes.by_name careful_names s.names_pass

  pub needs_logins : EachNeeded (is_left_out_later s) (by_login s)
  needs_logins front rest x is counted all = ⊎_elim
      (λ none. none_split front rest x (sym (no_entries s.shared (after_emails s) (by_any_login s).grouped.ours s.tallies (by_login s).class none) ∙ is))
      (λ (k, passes). needed_logins s.shared s.mappings s.tallies named s.classes.by_name careful_names unnamed_none s.classes.by_login (careful_next k passes) s.logins_pass front rest x is counted all)
      (none_or_one s.logins_pass s.classes.by_login (by_any_login s).grouped.ours (contacts s.tallies))

pub needs_emails : (s : Selection) → AllByRecursion HasNoEmptyName s.mappings → EachNeeded never (by_email s)
needs_emails s = needed_emails s.shared s.mappings s.tallies

-- ---- where no line is remembered

and_true : (b : Bool) → (b && true) ≡ b
and_true true = refl
and_true false = refl

module _ (seen : List Text) where
  abbrev IsNew : Mapping → Type 0
  IsNew e = is_remembered seen e ≡ false

  not_dropped : (ls : List Mapping) → AllByRecursion IsNew ls → (has_any ls && not (has_any (new_entries seen ls))) ≡ false
  not_dropped [] all = refl
  not_dropped (e ∷ ls) all = ap (λ b. not (has_any (cond (not b) (e ∷ new_entries seen ls) (new_entries seen ls)))) all.0

  new_lines : (es : List Mapping) (c : Contact) → AllByRecursion IsNew es → is_line_remembered seen es c ≡ false
  new_lines es c all = not_dropped (lines_for es c) (by (has_any (of_key es (own_key c))))
    where
      of_keys : (k : Key) → AllByRecursion IsNew (of_key es k)
      of_keys k = all_filtered (λ x. eq_by_cmp key_cmp k (key x)) IsNew IsNew (λ x new _. new) (accepted es) (accepted_all IsNew es all)

      by : (b : Bool) → AllByRecursion IsNew (if b then of_key es (own_key c) else of_key es (folded c.email, None))
      by true = of_keys (own_key c)
      by false = of_keys (folded c.email, None)

  new_if : (e : Mapping) → not (is_remembered seen e) ≡ true → IsNew e
  new_if e is = not-true (is_remembered seen e) is

  all_new : (es : List Mapping) → new_entries seen es ≡ es → AllByRecursion IsNew es
  all_new es same = subst (AllByRecursion IsNew) same (all_filtered (λ e. not (is_remembered seen e)) (λ _. Unit {0}) IsNew (λ e _ new. new_if e new) es (all_of (λ _. Unit {0}) (λ _. tt) es))

  pub united_all : (g : Stage) → AreAllNew seen g → AllByRecursion (λ c. is_united seen g c ≡ has_entries g c) (contacts g.tallies)
  united_all g same = each _ (contacts g.tallies) (λ c i. by c i (has_entries g c) refl)
    where
      those : Text → List Tally
      those = members g.class g.grouped g.tallies

      unlike : List Tally → Bool
      unlike us = not (are_alike g.grouped (contacts us))

      class_of : Contact → Text
      class_of c = g.class (answer_to g.grouped.ours c)

      texts : List Text
      texts = map class_of (contacts g.tallies)

      part : Text → List Mapping
      part t = if unlike (those t) then group_entries g.shared g.base g.grouped (those t) else []

      new : AllByRecursion IsNew (flat_map part (distinct (filter (λ t. not (bytes_eq t [])) texts)))
      new = subst (AllByRecursion IsNew) (flat_filtered those unlike (group_entries g.shared g.base g.grouped) (distinct (filter (λ t. not (bytes_eq t [])) texts))) (all_new (stage_entries g) same)

      by : (c : Contact) → c ∈ contacts g.tallies → (b : Bool) → has_entries g c ≡ b → (has_entries g c && not (is_line_remembered seen (entries_of g c) c)) ≡ has_entries g c
      by c i false none = ap (λ b. b && not (is_line_remembered seen (entries_of g c) c)) none ∙ sym none
      by c i true some =
          let k = class_of c in
          let whole = and_parts (is_grouped g.class g.grouped g.tallies c) (not (are_cut (entries_of g c))) some in
          let grouped = and_parts (not (bytes_eq k [])) (unlike (those k)) whole.0 in
          let among = among_passing (λ t. not (bytes_eq t [])) k texts grouped.0 (at (λ c. list_any (bytes_eq (class_of c)) texts ≡ true) (contacts g.tallies) (all_among class_of (contacts g.tallies)) c i) in
          let is : part k ≡ entries_of g c = λ j. if grouped.1 j then (if not-true (are_cut (entries_of g c)) whole.1 j then [] else entries_of g c) else [] in
          ap (λ b. has_entries g c && not b) (new_lines (entries_of g c) c (subst (AllByRecursion IsNew) is (part_joined IsNew part k (filter (λ t. not (bytes_eq t [])) texts) among new)))
          ∙ and_true (has_entries g c)

-- ---- where nothing is selected

none_passes : (p : Text → Bool) (class : Contact → Text) → ((k : Text) → p k ≡ false) → (h : List Mapping) (cs : List Contact) → AllByRecursion (λ c. only p class (answer_to h c) ≡ []) cs
none_passes p class none h cs = all_of _ (λ c. ap (λ b. if b then class (answer_to h c) else []) (none (class (answer_to h c)))) cs

pub no_names : (s : Selection) → ((k : Text) → s.names_pass k ≡ false) → after_names s ≡ after_emails s
no_names s none = nothing_added s.shared (after_emails s) (after_emails s) s.tallies (by_name s).class (none_passes s.names_pass s.classes.by_name none (after_emails s) (contacts s.tallies)) s.seen (after_emails s)

pub no_logins : (s : Selection) → ((k : Text) → s.logins_pass k ≡ false) → after_logins s ≡ after_names s
no_logins s none = nothing_added s.shared (after_emails s) (by_any_login s).grouped.ours s.tallies (by_login s).class (none_passes s.logins_pass s.classes.by_login none (by_any_login s).grouped.ours (contacts s.tallies)) s.seen (after_names s)

-- ---- the text

module _ (s : Selection) (writable : AllByRecursion IsWritable s.mappings) (each_writable : Each IsWritableContact s.tallies) (linked : AreLinked s) where
  abbrev named_all : AllByRecursion HasNoEmptyName s.mappings
  named_all = writable_named s.mappings writable

  abbrev text : Text
  text = selected_text s.shared s.classes s.names_pass s.logins_pass s.seen (alike s.mappings) s.tallies

  abbrev read_as : List Mapping
  read_as = stage_entries (by_email s) ++ new_entries s.seen (stage_entries (by_name s) ++ stage_entries (by_login s))

  pub text_selected : mappings_of text ≡ read_as
  text_selected = selected_read s.shared s.classes s.names_pass s.logins_pass s.seen s.mappings s.tallies writable each_writable
      (careful_names s named_all linked) (unnamed_none s named_all linked) (careful_next s named_all linked)

  pub text_selected_by_git : AllByRecursion HoldsNoZero s.mappings → Each ContactHoldsNoZero s.tallies → git_mappings text ≡ read_as
  text_selected_by_git free each_free = git_reads_selected s.shared s.classes s.names_pass s.logins_pass s.seen s.mappings s.tallies writable each_writable free each_free
      (careful_names s named_all linked) (unnamed_none s named_all linked) (careful_next s named_all linked)
