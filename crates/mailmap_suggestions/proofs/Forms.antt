-- Groups, their counted answers and what is suggested for them, as the code makes these.
use Rattle.std.proofs.Common.{◌≡◌, ◌∙◌, ◌+◌, ◌<◌, ◌++◌, ◌&&◌, ℕ, drop, get_or, length, Bool, false, true, not, List, [], ◌∷◌, append-nil, bytes_eq, append_assoc, ap, filter, flat_map, if◌then◌else◌, is_some, map, None, Some, refl, rules, sym, subst, Option, ◌≢◌, unwrap_or, Bor, option_map, IfSome, MatchOption}
use Rattle.std.specs.Global.{Vec}
use Rattle.std.specs.List.{All, AllByRecursion, list_all, slice_get, filter_map}
use Rattle.std.proofs.lemmas.Bool.{and_parts}
use Rattle.std.proofs.lemmas.List.{at_drop_more}
use Rattle.std.proofs.lemmas.List.Elements.{All-from_recursion, filter_agree}
use Rattle.std.proofs.lemmas.List.Folds.{flat_map-map, list_all-map}
use Rattle.mailmap_entries.specs.Entries.{Mapping, mapping_of}
use Rattle.mailmap_entries.specs.Folding.{Text, folded}
use Rattle.mailmap_entries.specs.declared.entry.Entry.{Entry}
use Rattle.mailmap_entries.proofs.Parts.{filter-map, all_map, all_mapped, all_weaker, filter_all, map_alike, filter-filter}
use Rattle.mailmap_contacts.specs.Answers.{tally_of, tally_at}
use Rattle.mailmap_contacts.specs.Contacts.{Contact, Tally, answer_to, answered}
use Rattle.mailmap_contacts.specs.declared.answers.Tally.{Tally as TheTally}
use Rattle.mailmap_contacts.proofs.Steps.{all_filtered}
use Rattle.mailmap_suggestions.specs.Private.{AreChangesBy, HaveEmail, HaveOneEmail, listed, IsPart, IsPlain, are_enough, contacts_of, tallies_in, grouped, keyed_by, keys, members, text_of}
use Rattle.mailmap_suggestions.specs.Forms.{Histories, are_answered, distinct, entries_for_email, entries_to, fits, is_answered, long_form, name_unless_empty, named_entries, named_form, needs_own_entry, of_old_email, plain_entries, plus, short_form}
use Rattle.mailmap_suggestions.specs.Counted.{git_answered}
use Rattle.mailmap_suggestions.specs.GroupEntries.{are_alike, are_cut, classes, contacts, contact_or_nobody, group_entries, members as class_members, nobody, proper_answer, wanted_entries}
use Rattle.mailmap_suggestions.specs.declared.changes.Changes.{Changes}
use Rattle.mailmap_suggestions.proofs.Distinct.{all_of, same_bytes, all_joined, somes}
use Rattle.mailmap_suggestions.proofs.Appended.{OfPlain, each_plain, each_for_email}
use Rattle.mailmap_suggestions.proofs.Changed.{enough_is}
use Rattle.mailmap_entries.specs.Semantics.{is_accepted, accepted}
use Rattle.mailmap_findings.proofs.Readings.{located_accepted}
use Rattle.mailmap_findings.proofs.Read.{mappings_of-located_lines}
use Rattle.mailmap_findings.specs.Git.{entry_of_first, entry_of_text, git_entries, part_entry, parts}
use Rattle.mailmap_findings.specs.Positions.{located, located_lines}
use Rattle.mailmap_grammar.specs.Lines.{mappings_of}
use Rattle.mailmap_redundancy.specs.Redundancy.{LocatedMapping, entries, located_of}
use Rattle.mailmap_redundancy.specs.declared.located.LocatedEntry.{LocatedEntry}
use Rattle.std.specs.Option.{option_copied}
use Rattle.std.proofs.lemmas.Simd.{map-map}
use Rattle.mailmap_contacts.proofs.Tallied.{same}

-- ==== groups of contacts by their keys, as the code makes them

-- ==== the groups that are wanted

members_keyed : (text : Tally → Text) (ts : List Tally) (k : Text) → members (keyed_by text ts) k ≡ filter (λ t. bytes_eq k (text t)) ts
members_keyed text [] k = refl
members_keyed text (t ∷ ts) k = search (rules, members_keyed text ts k)

keys_keyed : (text : Tally → Text) (ts : List Tally) → keys (keyed_by text ts) ≡ map text ts
keys_keyed text ts = map-map (λ (k : Text × Tally). k.0) (λ t. (text t, t)) ts

keyed_groups : (text : Tally → Text) (ts : List Tally) → grouped (keyed_by text ts) ≡ map (λ k. filter (λ t. bytes_eq k (text t)) ts) (distinct (map text ts))
keyed_groups text ts = ap (λ l. map (members (keyed_by text ts)) (distinct l)) (keys_keyed text ts)
    ∙ map_alike (members (keyed_by text ts)) (λ k. filter (λ t. bytes_eq k (text t)) ts) (distinct (map text ts)) (all_of _ (members_keyed text ts) (distinct (map text ts)))

has_other : (k : Text) → k ≢ [] → (t : Text) → (not (bytes_eq t []) && bytes_eq k t) ≡ bytes_eq k t
has_other k some t = search rules

-- those whose answers have one class
pub class_groups : (class : Contact → Text) (h : Histories) (ts : List Tally)
    → grouped (keyed_by (text_of class h) (filter (λ t. not (bytes_eq (text_of class h t) [])) ts)) ≡ map (class_members class h ts) (classes class h (contacts ts))
class_groups class h ts =
    let text : Tally → Text = text_of class h in
    let has : Text → Bool = λ t. not (bytes_eq t []) in
    let answer : Contact → Text = λ c. class (answer_to h.ours c) in
    let parts : Text → List Tally = λ k. filter (λ t. bytes_eq k (text t)) (filter (λ t. has (text t)) ts) in
    keyed_groups text (filter (λ t. has (text t)) ts)
    ∙ ap (λ l. map parts (distinct l)) (sym (filter-map has text ts) ∙ ap (filter has) (sym (map-map answer (λ (t : Tally). t.contact) ts)))
    ∙ map_alike parts (class_members class h ts) (classes class h (contacts ts)) (all_weaker (classes class h (contacts ts)) (λ k some. filter-filter (λ t. bytes_eq k (text t)) (λ t. has (text t)) ts
    ∙ filter_agree (λ t. has (text t) && bytes_eq k (text t)) (λ t. bytes_eq k (text t)) (λ t. has_other k some (text t)) ts) (somes (map answer (contacts ts))))

-- those of a group by their old emails
pub email_groups : (ts : List Tally) → map contacts (grouped (keyed_by (λ t. folded t.contact.email) ts))
    ≡ map (λ email. of_old_email email (contacts ts)) (distinct (map (λ c. folded c.email) (contacts ts)))
email_groups ts =
    let email : Tally → Text = λ t. folded t.contact.email in
    let parts : Text → List Tally = λ k. filter (λ t. bytes_eq k (email t)) ts in
    ap (map contacts) (keyed_groups email ts) ∙ map-map contacts parts (distinct (map email ts))
    ∙ map_alike (λ k. contacts (parts k)) (λ k. of_old_email k (contacts ts)) (distinct (map email ts)) (all_of _ (λ k. sym (filter-map (λ c. bytes_eq k (folded c.email)) (λ (t : Tally). t.contact) ts)) (distinct (map email ts)))
    ∙ ap (λ l. map (λ k. of_old_email k (contacts ts)) (distinct l)) (sym (map-map (λ (c : Contact). folded c.email) (λ (t : Tally). t.contact) ts))

-- ==== the proper answer, as the code has it

pub nobody_or : (o : Option (Bor TheTally)) (p : Option TheTally) (d r : TheTally) → p ≡ option_copied o → r ≡ unwrap_or p d → (tally_of d).contact ≡ nobody → (tally_of r).contact ≡ contact_or_nobody (option_map tally_at o)
nobody_or o p d r copied is none = search rules

-- ==== the entries of a group, as the code makes them

pub plus_joined : (h : Histories) (xs ys : List Mapping) → plus (plus h xs) ys ≡ plus h (xs ++ ys)
plus_joined h xs ys = λ i. record { ours = append_assoc h.ours xs ys i; gits = append_assoc h.gits xs ys i }

-- ---- whether contacts are answered

-- a test of contacts
pub all_contacts : (test : Contact → Bool) (ts : List TheTally) → list_all (λ t. test (tally_of t).contact) ts ≡ list_all test (contacts_of ts)
all_contacts test ts = sym (list_all-map test (λ (t : Tally). t.contact) (map tally_of ts) ∙ list_all-map (λ t. test t.contact) tally_of ts)

pub answered_all : (h : Histories) (to : Contact) (ts : List TheTally) → list_all (λ t. is_answered h to (tally_of t).contact) ts ≡ are_answered h to (contacts_of ts)
answered_all h to ts = sym (list_all-map (is_answered h to) (λ (t : Tally). t.contact) (map tally_of ts) ∙ list_all-map (λ t. is_answered h to t.contact) tally_of ts)

pub answered_as_first : (h : Histories) (ts : List TheTally) (first : TheTally) → slice_get ts 0 ≡ Some first
    → list_all (λ t. is_answered h (answer_to h.ours (tally_of first).contact) (tally_of t).contact) ts ≡ are_alike h (contacts_of ts)
answered_as_first h [] first is = cc
answered_as_first h (t ∷ ts) first is = answered_all h (answer_to h.ours (tally_of first).contact) (t ∷ ts) ∙ cc

-- as what the entries change says
pub enough_all : (h : Histories) (to : Contact) (email : Text) (added : List Mapping) (a : Changes) (ts : List TheTally) → HaveEmail email (contacts_of ts) → AreChangesBy to email added a
    → list_all (are_enough a h to) ts ≡ are_answered (plus h added) to (contacts_of ts)
enough_all h to email added a [] all changed = refl
enough_all h to email added a (t ∷ ts) all changed =
    λ i. enough_is h to t a added (subst (λ e. AreChangesBy to e added a) (sym all.0) changed) i && enough_all h to email added a ts all.1 changed i

-- ---- entries with old names, one after another

-- these were pushed, and those for the rest of the contacts complete the whole
pub record ArePushed (h : Histories) (to : Contact) (whole : List Mapping) (rest : List Contact) (added : List Mapping) (a : Changes) : Type 0 where
  pub email : Text
  pub one_email : HaveEmail email rest
  pub changes : AreChangesBy to email added a
  pub completed : added ++ named_entries (plus h added) to rest ≡ whole

module _ (h : Histories) (to : Contact) (whole : List Mapping) (ts : List TheTally) (i : ℕ) (d : TheTally) (lt : i < length ts) (added : List Mapping) (a : Changes) (now : ArePushed h to whole (contacts_of (drop i ts)) added a) where
  abbrev t : TheTally
  t = get_or ts i d

  abbrev rest : List Contact
  rest = contacts_of (drop (i + 1) ts)

  abbrev form : Mapping
  form = named_form to (tally_of t).contact

  before : ArePushed h to whole ((tally_of t).contact ∷ rest) added a
  before = subst (λ cs. ArePushed h to whole cs added a) (at_drop_more contacts_of ts i d lt) now

  changed : AreChangesBy to (folded t.email.now) added a
  changed = subst (λ e. AreChangesBy to e added a) (sym (before.one_email).0) before.changes

  pub none_pushed : are_enough a h to t ≡ true → ArePushed h to whole rest added a
  none_pushed is = record { email = before.email; one_email = (before.one_email).1; changes = before.changes; completed = rw (sym (enough_is h to t a added changed) ∙ is) at before.completed }

  pub one_pushed : are_enough a h to t ≡ false → (more : List Mapping) → more ≡ added ++ form ∷ [] → (b : Changes) → (AreChangesBy to (folded t.email.now) added a → AreChangesBy to (folded t.email.now) (added ++ form ∷ []) b) → ArePushed h to whole rest more b
  one_pushed is more more_is b after = subst (λ l. ArePushed h to whole rest l b) (sym more_is) (record {
    email = folded t.email.now;
    one_email = subst (λ e. HaveEmail e rest) (sym (before.one_email).0) (before.one_email).1;
    changes = after changed;
    completed = (λ i. (added ++ form ∷ []) ++ named_entries (sym (plus_joined h added (form ∷ [])) i) to rest)
        ∙ append_assoc added (form ∷ []) (named_entries (plus (plus h added) (form ∷ [])) to rest) ∙ rw (sym (enough_is h to t a added changed) ∙ is) at before.completed;
  })

-- ==== the entry without an old name that contacts need

first_email : (email : Text) (ts : List TheTally) (first : TheTally) → Some first ≡ slice_get ts 0 → HaveEmail email (contacts_of ts) → folded first.email.now ≡ email
first_email email [] first is all = absurd (cc)
first_email email (t ∷ ts) first is all = cc

module _ (h : Histories) (to : Contact) (ts : List TheTally) (first : TheTally) (is : Some first ≡ slice_get ts 0) where
  -- as the first one's, in the short form if that is enough
  pub plain_first : plain_entries h to (contacts_of ts) ≡ (if are_answered h to (contacts_of ts) then []
      else (if fits to (tally_of first).contact && are_answered (plus h (short_form to ∷ [])) to (contacts_of ts) then short_form to else long_form to (tally_of first).contact) ∷ [])
  plain_first = elim ts as (λ l. Some first ≡ slice_get l 0 → plain_entries h to (contacts_of l) ≡ (if are_answered h to (contacts_of l) then []
      else (if fits to (tally_of first).contact && are_answered (plus h (short_form to ∷ [])) to (contacts_of l) then short_form to else long_form to (tally_of first).contact) ∷ []))
      [ [] ↦ λ e. absurd (cc) | t ∷ ts ↦ λ e. cc ] is

  -- what the short form changes says whether it is
  pub short_tried : (email : Text) → HaveEmail email (contacts_of ts) → (a : Changes) → (AllByRecursion (IsPlain email) (short_form to ∷ []) → AreChangesBy to email (short_form to ∷ []) a)
      → (fits to (tally_of first).contact && list_all (are_enough a h to) ts) ≡ (fits to (tally_of first).contact && are_answered (plus h (short_form to ∷ [])) to (contacts_of ts))
  short_tried email all a given = elim (fits to (tally_of first).contact) as (λ b. fits to (tally_of first).contact ≡ b → (b && list_all (are_enough a h to) ts) ≡ (b && are_answered (plus h (short_form to ∷ [])) to (contacts_of ts))) [
    | true ↦ λ fitting.
        let same = same_bytes (folded to.email) (folded first.email.now) (and_parts (is_some (name_unless_empty to)) (bytes_eq (folded to.email) (folded first.email.now)) fitting).1 in
        enough_all h to email (short_form to ∷ []) a ts all (given ((refl, λ i. ((same ∙ first_email email ts first is all) i, None)), tt))
    | false ↦ λ _. refl
  ] refl

  pub plain_tried : are_answered h to (contacts_of ts) ≡ false → (email : Text) → HaveEmail email (contacts_of ts) → (a : Changes) (short : Mapping) → short ≡ short_form to → (AllByRecursion (IsPlain email) (short ∷ []) → AreChangesBy to email (short ∷ []) a)
      → (b : Bool) → (fits to (tally_of first).contact && list_all (are_enough a h to) ts) ≡ b → (if b then short_form to else long_form to (tally_of first).contact) ∷ [] ≡ plain_entries h to (contacts_of ts)
  plain_tried unanswered email all a short is_short given b tried = sym (plain_first ∙ (λ i. if unanswered i then []
      else (if (sym (short_tried email all a (subst (λ x. AllByRecursion (IsPlain email) (x ∷ []) → AreChangesBy to email (x ∷ []) a) is_short given)) ∙ tried) i then short_form to else long_form to (tally_of first).contact) ∷ []))

-- ==== contacts of a group, part by part

abbrev pub part_entries : List Text → Histories → Contact → Vec TheTally → List Mapping
part_entries shared h to part = entries_for_email shared h to (contacts (tallies_in part))

-- all entries without an old name are for the email
pub plain_entries_plain : (h : Histories) (to : Contact) (email : Text) (cs : List Contact) → HaveEmail email cs → AllByRecursion (IsPlain email) (plain_entries h to cs)
plain_entries_plain h to email cs all = each_plain (IsPlain email) to h cs (all_weaker cs one all)
  where
    one : (c : Contact) → folded c.email ≡ email → OfPlain (IsPlain email) to c
    one c is = search rules

pub unowned_are : (shared : List Text) (h : Histories) (ts : List TheTally) → contacts_of (filter (λ t. not (needs_own_entry shared h (tally_of t).contact)) ts) ≡ filter (λ c. not (needs_own_entry shared h c)) (contacts_of ts)
unowned_are shared h ts = search (rules, filter-map)

-- the contacts that need no entries of their own have the same old email
pub unowned_email : (shared : List Text) (h : Histories) (email : Text) (ts us : List TheTally) → us ≡ filter (λ t. not (needs_own_entry shared h (tally_of t).contact)) ts → HaveEmail email (contacts_of ts)
    → HaveEmail email (contacts_of us) × (contacts_of us ≡ filter (λ c. not (needs_own_entry shared h c)) (contacts_of ts))
unowned_email shared h email ts us is all =
    let same = ap contacts_of is ∙ unowned_are shared h ts in
    (subst (HaveEmail email) (sym same) (all_filtered (λ c. not (needs_own_entry shared h c)) (λ c. folded c.email ≡ email) (λ c. folded c.email ≡ email) (λ c is _. is) (contacts_of ts) all), same)

listed_sliced : (plain : Option Entry) (entries slice : List Entry) → entries ≡ slice → MatchOption plain (slice ≡ []) (λ x. slice ≡ x ∷ []) → map mapping_of entries ≡ listed plain
listed_sliced None entries slice same is = ap (map mapping_of) (same ∙ is)
listed_sliced (Some x) entries slice same is = ap (map mapping_of) (same ∙ is)

pub begun : (shared : List Text) (h : Histories) (to : Contact) (email : Text) (ts us : List TheTally) (plain : Option Entry) (entries slice : List Entry) (a : Changes) → us ≡ filter (λ t. not (needs_own_entry shared h (tally_of t).contact)) ts → HaveEmail email (contacts_of ts)
    → listed plain ≡ plain_entries h to (contacts_of us) → entries ≡ slice → MatchOption plain (slice ≡ []) (λ x. slice ≡ x ∷ []) → (AllByRecursion (IsPlain email) (listed plain) → AreChangesBy to email (listed plain) a)
    → ArePushed h to (entries_for_email shared h to (contacts_of ts)) (contacts_of ts) (map mapping_of entries) a
begun shared h to email ts us plain entries slice a is all plain_is same sliced changed =
    let ones = unowned_email shared h email ts us is all in
    let pushed = listed_sliced plain entries slice same sliced in
    record {
      email = email;
      one_email = all;
      changes = subst (λ l. AreChangesBy to email l a) (sym pushed) (changed (subst (AllByRecursion (IsPlain email)) (sym plain_is) (plain_entries_plain h to email (contacts_of us) ones.0)));
      completed = ap (λ p. p ++ named_entries (plus h p) to (contacts_of ts)) (pushed ∙ plain_is ∙ ap (plain_entries h to) ones.1);
    }

one_email : (cs : List Contact) (email : Text) → HaveOneEmail (of_old_email email cs)
one_email cs email =
    (email, all_filtered (λ c. bytes_eq email (folded c.email)) (λ c. Unit {0}) (λ c. folded c.email ≡ email) (λ c _ same. sym (same_bytes email (folded c.email) same)) cs (all_of (λ c. Unit {0}) (λ c. tt) cs))

pub are_parts : (cs : List Contact) (parts : List (Vec TheTally)) → map (λ p. contacts (tallies_in p)) parts ≡ map (λ email. of_old_email email cs) (distinct (map (λ c. folded c.email) cs)) → All IsPart parts
are_parts cs parts are =
    let emails = distinct (map (λ c. folded c.email) cs) in
    All-from_recursion IsPart parts (all_map (λ (p : Vec TheTally). contacts (tallies_in p)) HaveOneEmail parts
    (subst (AllByRecursion HaveOneEmail) (sym are)
    (all_mapped (λ email. of_old_email email cs) HaveOneEmail emails (all_of (λ email. HaveOneEmail (of_old_email email cs)) (one_email cs) emails))))

pub parts_whole : (shared : List Text) (h : Histories) (to : Contact) (cs : List Contact) (parts : List (Vec TheTally)) → map (λ p. contacts (tallies_in p)) parts ≡ map (λ email. of_old_email email cs) (distinct (map (λ c. folded c.email) cs))
    → flat_map (part_entries shared h to) parts ≡ entries_to shared h to cs
parts_whole shared h to cs parts are =
    sym (flat_map-map (entries_for_email shared h to) (λ (p : Vec TheTally). contacts (tallies_in p)) parts) ∙ ap (flat_map (entries_for_email shared h to)) are
    ∙ flat_map-map (entries_for_email shared h to) (λ email. of_old_email email cs) (distinct (map (λ c. folded c.email) cs))

-- ==== entries that are read are accepted

abbrev AreAccepted : List Mapping → Type 0
AreAccepted = AllByRecursion (λ e. is_accepted e ≡ true)

pub ours_accepted : (buffer : Text) → accepted (mappings_of buffer) ≡ mappings_of buffer
ours_accepted buffer =
    let whole = mappings_of-located_lines 0 (buffer ∷ []) in
    filter_all is_accepted (mappings_of buffer) (subst AreAccepted (whole ∙ append-nil (mappings_of buffer))
    (all_mapped (λ (x : LocatedMapping). x.entry) (λ e. is_accepted e ≡ true) (located (located_lines (buffer ∷ []))) (located_accepted (located_lines (buffer ∷ [])))))

-- ---- those that git reads

part_accepted : (p : Text) → IfSome (part_entry p) (λ e. is_accepted e ≡ true)
unfolding entry_of_text entry_of_first
part_accepted p = search rules

parts_accepted : (ps : List Text) → AreAccepted (filter_map part_entry ps)
parts_accepted [] = tt
parts_accepted (p ∷ ps) = search (rules, parts_accepted ps, part_accepted p)

pub line_accepted : (line : Text) → accepted (git_entries line) ≡ git_entries line
unfolding git_entries
line_accepted line = filter_all is_accepted (filter_map part_entry (parts line)) (parts_accepted (parts line))

-- ==== what is suggested, group by group

-- ---- all suggested entries are accepted

entries_accepted : (shared : List Text) (to : Contact) (h : Histories) (cs : List Contact) → AreAccepted (entries_to shared h to cs)
entries_accepted shared to h cs = search (rules, all_joined, all_of, each_for_email)

group_accepted : (shared : List Text) (base h : Histories) (g : List Tally) → AreAccepted (group_entries shared base h g)
group_accepted shared base h g = elim (are_cut (wanted_entries shared base h g)) as (λ b. AreAccepted (if b then [] else wanted_entries shared base h g))
    [ true ↦ tt | false ↦ entries_accepted shared (proper_answer shared h g) base (contacts g) ]

-- the entries of a table, whose history are these
pub entries_in : (history : List LocatedMapping) (now items : List LocatedEntry) → history ≡ map located_of now → now ≡ items → entries history ≡ map (λ x. mapping_of x.entry) items
entries_in history now items is same = ap entries (is ∙ ap (map located_of) same) ∙ map-map (λ (x : LocatedMapping). x.entry) located_of items

-- ---- what was suggested

-- the entries of groups are accepted
pub groups_accepted : (shared : List Text) (base h : Histories) (gs : List (List Tally)) → accepted (flat_map (group_entries shared base h) gs) ≡ flat_map (group_entries shared base h) gs
groups_accepted shared base h gs = filter_all is_accepted (flat_map (group_entries shared base h) gs)
    (all_joined (λ e. is_accepted e ≡ true) (group_entries shared base h) gs (all_of (λ g. AreAccepted (group_entries shared base h g)) (group_accepted shared base h) gs))

-- ---- without entries

-- a contact is its own answer
pub unanswered : (h : List Mapping) (t : Tally) → h ≡ [] → t ≡ answered h t
unanswered h t none = ap (λ h. answered h t) (sym none)

-- in git, too
pub git_unanswered : (h : Histories) (t : Tally) → h.gits ≡ [] → t ≡ git_answered h t
git_unanswered h t none = ap (λ g. git_answered (record { ours = h.ours; gits = g }) t) (sym none)
