-- What tables hold at an index, and after a row was put at a place.
use Rattle.std.proofs.Common.{◌≡◌, ◌+◌, ◌≤◌, ◌<◌, get_or, ℕ, List, [], ◌∷◌, map, length, set, sym, ap, ◌∙◌, arith}
use Rattle.std.proofs.Common.{Option, Some, None, option_map, refl, subst, Result, Ok, Err}
use Rattle.std.proofs.lemmas.Grind.{common_steps}
use Rattle.std.specs.Option.{ForSome, option_to_list}
use Rattle.std.specs.List.{insert, slice_get}
use Rattle.std.specs.List.Sorted.{IsSearchInRange, IsStrictlySortedBy}
use Rattle.std.proofs.lemmas.List.{length-map, set-get_or}
use Rattle.std.proofs.lemmas.List.Elements.{All-from_recursion}
use Rattle.std.proofs.lemmas.List.Sums.{sum_by-cons}
use Rattle.std.proofs.lemmas.Option.{get_or_from_slice_get, slice_get-get_or, slice_get-map}
use Rattle.mailmap_entries.specs.Folding.{Text, folded, text_cmp}
use Rattle.mailmap_entries.specs.Prefixes.{key_prefix}
use Rattle.mailmap_tables.specs.Groups.{Contents, EmailGroup, folded_name, listing, name_total, unnamed_entries}
use Rattle.mailmap_tables.specs.KeySearch.{placed}
use Rattle.mailmap_tables.specs.Pool.{EmailInPool, NameInPool, Row, TextsInPool, contents, fields_of, group_of, prefix_of}
use Rattle.mailmap_tables.specs.Pool.{row_group, spelled, stored_name, with_group_at}
use Rattle.mailmap_tables.specs.RowTexts.{old_span}
use Rattle.mailmap_tables.specs.Rows.{AreRows, AreTables, IsRow, emails_of, names_of, rows_of}
use Rattle.mailmap_tables.specs.declared.rows.EmailRow.{EmailRow}
use Rattle.mailmap_tables.specs.declared.texts.RowTexts.{RowTexts}
use Rattle.mailmap_tables.proofs.KeySearch.{all_placed, map-placed}
use Rattle.mailmap_tables.proofs.Ranges.{emails_inserted, emails_named, inserted_cover, inserted_follow, later, length-rows_of}
use Rattle.mailmap_tables.proofs.Ranges.{name_follow, name_placed, names_inserted, new_row, row_at, row_from, rows_laid_out}
use Rattle.mailmap_tables.proofs.Ranges.{tables_laid_out, texts_cover, texts_set}

-- ---- a row at a place

module _ {pool : Text} (rows : List Row) {prefixes : List ℕ} (h : AreRows pool rows prefixes) {v : Contents}
    (is : contents pool rows ≡ v) (r : Result ℕ ℕ) (f : Row) where
  pub contents-placed : contents pool (placed rows r f) ≡ record v { groups = placed v.groups r (row_group v.pool f) }
  contents-placed = rw (map-placed (row_group pool) rows r f, ← is) refl

  pub rows-placed : IsRow pool f → (new : List ℕ) → new ≡ placed prefixes r (prefix_of (row_group pool f))
      → AreRows pool (placed rows r f) new
  rows-placed its new prefixed = record {
    each = all_placed (IsRow pool) rows r f h.each its;
    prefix_each = prefixed ∙ (λ j. placed (h.prefix_each j) r (prefix_of (row_group pool f)))
        ∙ sym (ap (map prefix_of) (map-placed (row_group pool) rows r f)
        ∙ map-placed prefix_of (map (row_group pool) rows) r (row_group pool f));
  }

-- ---- the row of an email

module _ (pool : Text) (es : List EmailRow) (ns : List RowTexts) (v : Contents) (is : contents pool (rows_of es ns) ≡ v) where
  pub row_count_is : length v.groups ≡ length es
  row_count_is = omega (
    arith,
    ap (λ (w : Contents). length w.groups) (sym is),
    length-map (rows_of es ns) (row_group pool),
    length-rows_of es ns,
  )

module _ {pool : Text} (es : List EmailRow) (ns : List RowTexts) {prefixes : List ℕ} (h : AreTables pool es ns prefixes)
    {v : Contents} (is : contents pool (rows_of es ns) ≡ v) {i : ℕ} {e : EmailRow} (lt : i < length v.groups)
    (read : e ≡ get_or es i e) where
  abbrev row : Row
  row = row_from es ns i e

  pub within : i < length es
  within = omega (arith, lt, row_count_is pool es ns v is)

  pub row_read : get_or (rows_of es ns) i row ≡ row
  row_read = row_at es ns i e row within read

  pub is_row : IsRow pool row
  is_row = rw row_read at (All-from_recursion (IsRow pool) (rows_of es ns) h.rows.each i row
      (omega (arith, within, length-rows_of es ns)))

  pub is_row_seen : IsRow v.pool row
  is_row_seen = rw (← is) is_row

  pub group_seen : slice_get v.groups i ≡ Some (row_group v.pool row)
  group_seen =
      let lt_rows : i < length (rows_of es ns) = omega (arith, within, length-rows_of es ns) in
      ap (λ (w : Contents). slice_get w.groups i) (sym is) ∙ slice_get-map (row_group pool) (rows_of es ns) i
      ∙ ap (option_map (row_group pool)) (slice_get-get_or (rows_of es ns) i row lt_rows)
      ∙ ap (λ x. Some (row_group pool x)) row_read ∙ ap (λ (w : Contents). Some (row_group w.pool row)) is

  pub prefix_seen : (d : ℕ) → get_or prefixes i d ≡ prefix_of (row_group v.pool row)
  prefix_seen d = ap (λ l. get_or l i d) (h.rows.prefix_each ∙ ap (λ (w : Contents). map prefix_of w.groups) is)
      ∙ get_or_from_slice_get (map prefix_of v.groups) i _ d (slice_get-map prefix_of v.groups i
      ∙ ap (option_map prefix_of) group_seen)

  -- an edit of the row
  pub edited : (edit : EmailGroup → EmailGroup) (f : Row) → row_group v.pool f ≡ edit (row_group v.pool row)
      → ForSome (slice_get v.groups i) (λ g. contents pool (set (rows_of es ns) i f) ≡ with_group_at v i (edit g))
  edited edit f does g at = contents-placed (rows_of es ns) h.rows is (Ok i) f
      ∙ ap (with_group_at v i) (does ∙ ap edit (let seen = group_seen in cc))

  pub rows-set : (f : Row) → IsRow pool f → spelled pool (old_span f.texts) ≡ spelled pool (old_span e.texts)
      → AreRows pool (set (rows_of es ns) i f) prefixes
  rows-set f its same =
      let prefix : prefix_of (row_group pool f) ≡ get_or prefixes i 0 =
      ap (λ t. key_prefix 16 (folded t)) same ∙ sym (rw (← is) at (prefix_seen 0)) in
      rows-placed (rows_of es ns) h.rows is (Ok i) f its prefixes
      (sym (ap (set prefixes i) prefix ∙ set-get_or prefixes i 0))

  -- with other texts
  pub texts_tables : (t : RowTexts) → TextsInPool (length v.pool) t
      → ForSome (slice_get v.groups i) (λ g. spelled v.pool (old_span t) ≡ g.old_email)
      → AreTables pool (set es i (record e { texts = t })) ns prefixes
  texts_tables t lies same = tables_laid_out _ ns (set (rows_of es ns) i (record row { texts = t }))
      (texts_set h.ranges i e within read t) (texts_cover h.ranges i e within read t)
      (rows-set (record row { texts = t }) (record {
        in_pool = record { email_lies = rw (← is) at lies; names_lie = is_row.in_pool.names_lie };
        ascending = is_row.ascending;
      }) (rw (← is) at (same _ group_seen)))

  pub texts_contents : (t : RowTexts) → ForSome (slice_get v.groups i) (λ g. spelled v.pool (old_span t) ≡ g.old_email)
      → ForSome (slice_get v.groups i) (λ g. contents pool (rows_of (set es i (record e { texts = t })) ns)
      ≡ with_group_at v i (record g { unnamed = fields_of v.pool t }))
  texts_contents t same g at = ap (contents pool) (rows_laid_out _ ns (set (rows_of es ns) i (record row { texts = t }))
      (texts_set h.ranges i e within read t) (texts_cover h.ranges i e within read t))
      ∙ edited (λ g. record g { unnamed = fields_of v.pool t }) (record row { texts = t })
      (λ j. record { old_email = same _ group_seen j; unnamed = fields_of v.pool t; names = map (stored_name v.pool) row.names })
      g at

  -- with a name put among its names
  module _ (p : Result ℕ ℕ) (name : RowTexts) (place : ForSome (slice_get v.groups i) (λ g. IsSearchInRange p (length g.names))) where
    abbrev named : Row
    named = record row { names = placed row.names p name }

    pub name_within : IsSearchInRange p (length row.names)
    name_within = rw length-map at (place _ group_seen)

    named_follow : emails_named es i p ≡ emails_of 0 (set (rows_of es ns) i named)
    named_follow = name_follow h.ranges i e within read p name name_within

    named_cover : placed ns (later e.names_start p) name ≡ names_of (set (rows_of es ns) i named)
    named_cover = name_placed h.ranges i e within read p name name_within

    pub named_tables : NameInPool (length v.pool) name → ForSome (slice_get v.groups i) (λ g. IsStrictlySortedBy text_cmp
        (map folded_name (placed g.names p (stored_name v.pool name))))
        → AreTables pool (emails_named es i p) (placed ns (later e.names_start p) name) prefixes
    named_tables lies up = tables_laid_out _ _ (set (rows_of es ns) i named) named_follow named_cover
        (rows-set named (record {
          in_pool = record {
            email_lies = is_row.in_pool.email_lies;
            names_lie = all_placed _ row.names p name is_row.in_pool.names_lie (rw (← is) at lies);
          };
          ascending = subst (λ l. IsStrictlySortedBy text_cmp (map folded_name l))
              (sym (map-placed (stored_name pool) row.names p name)) (rw (← is) at (up _ group_seen));
        }) refl)

    pub named_contents : ForSome (slice_get v.groups i)
        (λ g. contents pool (rows_of (emails_named es i p) (placed ns (later e.names_start p) name))
        ≡ with_group_at v i (record g { names = placed g.names p (stored_name v.pool name) }))
    named_contents g at = ap (contents pool) (rows_laid_out _ _ (set (rows_of es ns) i named) named_follow named_cover)
        ∙ edited (λ g. record g { names = placed g.names p (stored_name v.pool name) }) named
        (ap (λ l. record (row_group v.pool row) { names = l }) (map-placed (stored_name v.pool) row.names p name)) g at

-- ---- a new email

new_ascends : (pool : Text) (texts : RowTexts) (name : Option RowTexts)
    → IsStrictlySortedBy text_cmp (map folded_name (row_group pool (new_row texts name)).names)
unfolding IsStrictlySortedBy
new_ascends pool texts None = tt
new_ascends pool texts (Some name) = (tt, tt)

module _ {pool : Text} (es : List EmailRow) (ns : List RowTexts) {prefixes : List ℕ} (h : AreTables pool es ns prefixes)
    {v : Contents} (is : contents pool (rows_of es ns) ≡ v) {i : ℕ} (le : i ≤ length v.groups) (texts : RowTexts)
    (name : Option RowTexts) where
  pub le_emails : i ≤ length es
  le_emails = omega (arith, le, row_count_is pool es ns v is)

  pub inserted_tables : EmailInPool v.pool texts (option_to_list name) → (new : List ℕ)
      → new ≡ insert prefixes i (prefix_of (group_of v.pool texts (option_to_list name)))
      → AreTables pool (emails_inserted es ns i texts name) (names_inserted es ns i name) new
  inserted_tables lies new prefixed = tables_laid_out _ _ (insert (rows_of es ns) i (new_row texts name))
      (inserted_follow h.ranges i le_emails texts name) (inserted_cover h.ranges i le_emails texts name)
      (rows-placed (rows_of es ns) h.rows is (Err i) (new_row texts name) (record {
        in_pool = rw (← is) at lies;
        ascending = new_ascends pool texts name;
      }) new (rw (← is) at prefixed))

  pub inserted_contents : contents pool (rows_of (emails_inserted es ns i texts name) (names_inserted es ns i name))
      ≡ record v { groups = insert v.groups i (group_of v.pool texts (option_to_list name)) }
  inserted_contents = ap (contents pool) (rows_laid_out _ _ (insert (rows_of es ns) i (new_row texts name))
      (inserted_follow h.ranges i le_emails texts name) (inserted_cover h.ranges i le_emails texts name))
      ∙ contents-placed (rows_of es ns) h.rows is (Err i) (new_row texts name)

-- ---- the number of rows, and why the listing is no longer

-- an email has at most one entry for all names
unnamed_one : (g : EmailGroup) → length (unnamed_entries g) ≤ 1
unnamed_one g = grind arith

-- there are no more entries than emails and names
pub listing_most : (gs : List EmailGroup) → length (listing gs) ≤ length gs + name_total gs
listing_most [] = omega arith
listing_most (g ∷ gs) = grind (arith, common_steps, listing_most gs, unnamed_one, sum_by-cons)
