-- What a list of mappings means: its keys, its normal list, and its answers to signatures. The oldest mapping is first.
use Rattle.std.specs.Prelude.{◌≡◌, Bool, ◌||◌, if◌then◌else◌, List, [], ◌∷◌, map, is_some, unwrap_or, Option, Some}
use Rattle.std.specs.Prelude.{None}
use Rattle.std.specs.Option.{option_map, option_and_then, option_or, option_cmp}
use Rattle.std.specs.List.{All, filter, filter_map, list_any}
use Rattle.std.specs.List.Sorted.{IsStrictlySortedBy}
use Rattle.std.specs.declared.cmp.Ordering.{Ordering}
use Rattle.std.specs.Ordering.{ordering_then, eq_by_cmp}
use Rattle.mailmap_entries.specs.Entries.{Mapping}
use Rattle.mailmap_entries.specs.Folding.{Text, folded, text_cmp}

-- ---- keys

-- the folded old email, and the folded old name if there is one
abbrev pub Key : Type 0
Key = Text × Option Text

abbrev pub key : Mapping → Key
key e = (folded e.old_email, option_map folded e.old_name)

-- by email, then no name before any name, then by name
abbrev pub key_cmp : Key → Key → Ordering
key_cmp a b = ordering_then (text_cmp a.0 b.0) (option_cmp text_cmp a.1 b.1)

-- ---- the mappings of an email and of a key

abbrev pub is_accepted : Mapping → Bool
is_accepted e = is_some e.new_name || is_some e.new_email

abbrev pub accepted : List Mapping → List Mapping
accepted h = filter is_accepted h

-- the accepted entries for a folded old email
abbrev pub of_email : List Mapping → Text → List Mapping
of_email h email = filter (λ e. eq_by_cmp text_cmp email (folded e.old_email)) (accepted h)

-- the accepted entries for a key
abbrev pub of_key : List Mapping → Key → List Mapping
of_key h k = filter (λ e. eq_by_cmp key_cmp k (key e)) (accepted h)

abbrev pub has_key : List Mapping → Key → Bool
has_key es k = list_any (eq_by_cmp key_cmp k) (map key es)

abbrev pub first : {X : Type 0} → List X → Option X
first [] = None
first (x ∷ xs) = Some x

abbrev pub last : {X : Type 0} → List X → Option X
last [] = None
last (x ∷ xs) = Some (unwrap_or (last xs) x)

-- the field of the last entry that has it
abbrev pub last_given : (Mapping → Option Text) → List Mapping → Option Text
last_given field es = last (filter_map field es)

-- a new name and a new email, if there are any
pub record Fields : Type 0 where
  pub name : Option Text
  pub email : Option Text

abbrev pub new_fields : Mapping → Fields
new_fields e = record { name = e.new_name; email = e.new_email }

abbrev pub no_fields : Fields
no_fields = record { name = None; email = None }

-- the last new name and the last new email among an email's entries without an old name, each on its own
abbrev pub given_fields : List Mapping → Text → Fields
given_fields h email = record {
  name = last_given (λ e. e.new_name) (of_key h (email, None));
  email = last_given (λ e. e.new_email) (of_key h (email, None));
}

-- both new fields of the last entry for a key
abbrev pub last_fields : List Mapping → Key → Option Fields
last_fields h k = option_map new_fields (last (of_key h k))

-- how the first accepted entry for an email spells it
abbrev pub spelling : List Mapping → Text → Option Text
spelling h email = option_map (λ e. e.old_email) (first (of_email h email))

-- ---- the normal list

abbrev pub mapping_with : Fields → Option Text → Text → Mapping
mapping_with f name email = record { new_name = f.name; new_email = f.email; old_name = name; old_email = email }

-- the one entry that represents all entries of a key
abbrev pub value : List Mapping → Key → Mapping
value h (email, None) = mapping_with (given_fields h email) None (unwrap_or (spelling h email) [])
value h (email, Some name) = mapping_with (unwrap_or (last_fields h (email, Some name)) no_fields)
    (option_and_then (λ e. e.old_name) (first (of_key h (email, Some name)))) (unwrap_or (spelling h email) [])

-- n strictly ascends by key, has exactly the keys of the accepted entries of h, and each of its entries is the value of
-- its key
pub record IsNormal (h n : List Mapping) : Type 0 where
  pub ascending : IsStrictlySortedBy key_cmp (map key n)
  pub keys : (k : Key) → has_key n k ≡ has_key (accepted h) k
  pub values : All (λ e. e ≡ value h (key e)) n

-- ---- answers to signatures

-- the stored spelling of an email, unless the signature has exactly that one
abbrev pub respelled : Text → Text → Option Text
respelled stored email = if eq_by_cmp text_cmp stored email then None else Some stored

abbrev pub unless_empty : Fields → Option Fields
unless_empty f = if is_some f.name || is_some f.email then Some f else None

-- the answer for an email, given its fields and its stored spelling, if there is one
abbrev pub fields_with_spelling : Text → Fields → Option Text → Option Fields
fields_with_spelling email f None = None
fields_with_spelling email f (Some stored) =
    unless_empty (record { name = f.name; email = option_or f.email (respelled stored email) })

abbrev pub answer_of : List Mapping → Text → Text → Option Fields
answer_of h name email =
    let f = unwrap_or (last_fields h (folded email, Some (folded name))) (given_fields h (folded email)) in
    fields_with_spelling email f (spelling h (folded email))

-- the fields that replace a name and an email, none if there is no answer
abbrev pub fields_for : List Mapping → Text → Text → Fields
fields_for h name email = unwrap_or (answer_of h name email) no_fields
