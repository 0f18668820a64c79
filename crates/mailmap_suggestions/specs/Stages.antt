-- What the stages suggest, as the code has them.
use Rattle.std.specs.Prelude.{◌≡◌, ◌++◌, List}
use Rattle.std.specs.List.{flat_map}
use Rattle.mailmap_contacts.specs.Contacts.{Contact, Tally}
use Rattle.mailmap_entries.specs.Folding.{Text}
use Rattle.mailmap_entries.specs.Semantics.{accepted}
use Rattle.mailmap_suggestions.specs.Forms.{Histories, plus}
use Rattle.mailmap_suggestions.specs.Links.{login_marks, name_marks}
use Rattle.mailmap_suggestions.specs.LinkViews.{AreLoginKeys}
use Rattle.mailmap_suggestions.specs.Suggestions.{HasClassesBy, Kind, Stage, Suggestion, email_kind, login_kind}
use Rattle.mailmap_suggestions.specs.Suggestions.{name_kind, stage_suggestions, still_suggested}
use Rattle.mailmap_suggestions.specs.declared.suggestions.Common.{Common}
use Rattle.mailmap_suggestions.specs.declared.suggestions.Common.TheVariants.{Email, Login, Name}

abbrev pub stage : List Text → List Tally → Histories → Histories → (Contact → Text) → Stage
stage shared ts base h class = record { shared = shared; tallies = ts; class = class; base = base; grouped = h }

-- the kind of a group of some contacts
abbrev pub kind_by : Common → List Text → Histories → List Tally → List Tally → Kind
kind_by Email shared h ts g = email_kind shared h g
kind_by Name shared h ts g = name_kind h g
kind_by (Login keys) shared h ts g = login_kind shared h ts g

-- the keys of logins are those of these contacts
abbrev pub HasKeysOf : Common → List Text → Histories → List Tally → Type 0
HasKeysOf Email shared h ts = Unit {0}
HasKeysOf Name shared h ts = Unit {0}
HasKeysOf (Login keys) shared h ts = AreLoginKeys shared h ts keys

-- those by names, for these mailmaps
abbrev pub AreByName : List Text → List Tally → Histories → List Suggestion → Type 0
AreByName shared ts h found = (class : Contact → Text) × HasClassesBy name_marks (stage shared ts h h class)
    × (found ≡ stage_suggestions (name_kind h) (stage shared ts h h class))

-- those by logins, for mailmaps with all entries; the entries are made for `base`
abbrev pub AreByLogin : List Text → List Tally → Histories → Histories → List Suggestion → Type 0
AreByLogin shared ts base all found = (class : Contact → Text) × HasClassesBy login_marks (stage shared ts base all class)
    × (found ≡ stage_suggestions (login_kind shared all ts) (stage shared ts base all class))

abbrev pub added : Histories → List Suggestion → Histories
added h found = plus h (accepted (flat_map (λ s. s.entries) found))

-- `new` has the suggestions of `old`, and then those of both stages without what is remembered
abbrev pub AddsLater : List Text → List Text → Histories → List Tally → List Suggestion → List Suggestion → Type 0
AddsLater shared lines h ts old new = (names : List Suggestion) × (logins : List Suggestion) × AreByName shared ts h names
    × AreByLogin shared ts h (added h names) logins
    × (new ≡ (old ++ flat_map (still_suggested lines) names) ++ flat_map (still_suggested lines) logins)
