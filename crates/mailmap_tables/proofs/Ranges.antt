-- Emails whose names follow each other in one list, and edits of both lists.
use Rattle.std.proofs.Common.{◌≡◌, ◌+◌, ◌-◌, ◌≤◌, ◌<◌, ℕ, zero, suc, List, [], ◌∷◌, ◌++◌, map, take, drop, get_or, set}
use Rattle.std.proofs.Common.{length, Option, Some, None, Result, Ok, Err, refl, sym, ap, subst, ◌∙◌, arith, append_assoc}
use Rattle.std.proofs.Common.{length-append}
use Rattle.std.proofs.Math.Seq.{drop-append_seam, set-append_seam, take-append_seam}
use Rattle.std.proofs.Math.Nat.{add-zero, zero-add}
use Rattle.std.proofs.Math.Numerals.{add-one}
use Rattle.std.proofs.lemmas.Grind.{common_steps, flat_map-append}
use Rattle.std.proofs.lemmas.List.{length-set, length-take-le, set-append_left, set-append_right, set-get_or}
use Rattle.std.proofs.lemmas.List.{take-append-drop}
use Rattle.std.proofs.lemmas.List.Edits.{insert-append_left, insert-append_right, length-insert}
use Rattle.std.proofs.lemmas.List.Sums.{sum_by-cons}
use Rattle.std.specs.List.{AllByRecursion, insert}
use Rattle.std.specs.Option.{option_to_list}
use Rattle.std.specs.List.Sorted.{IsSearchInRange}
use Rattle.mailmap_entries.specs.Folding.{Text}
use Rattle.mailmap_tables.specs.Groups.{name_total}
use Rattle.mailmap_tables.specs.KeySearch.{placed}
use Rattle.mailmap_tables.specs.Pool.{Row, row_group}
use Rattle.mailmap_tables.specs.Rows.{AreRanges, emails_of, names_of, names_start, raised, raised_from, rows_of}
use Rattle.mailmap_tables.specs.Rows.{AreRows, AreTables}
use Rattle.mailmap_tables.specs.declared.texts.RowTexts.{RowTexts}
use Rattle.mailmap_tables.specs.declared.rows.EmailRow.{EmailRow}
use Rattle.mailmap_tables.proofs.KeySearch.{after, all_placed, index_of, new_parts}

-- ---- the two lists of some rows

names_of-append : (xs ys : List Row) → names_of (xs ++ ys) ≡ names_of xs ++ names_of ys
names_of-append xs ys = flat_map-append (λ r. r.names) xs ys

emails_of-append : (n : ℕ) (xs ys : List Row)
    → emails_of n (xs ++ ys) ≡ emails_of n xs ++ emails_of (n + length (names_of xs)) ys
emails_of-append n [] ys = ap (λ k. emails_of k ys) (omega arith)
emails_of-append n (x ∷ xs) ys =
    let starts : (n + length x.names) + length (names_of xs) ≡ n + length (x.names ++ names_of xs) =
    omega (arith, length-append x.names (names_of xs)) in
    ap (λ l. record { texts = x.texts; names_start = n } ∷ l) (emails_of-append (n + length x.names) xs ys
    ∙ ap (λ k. emails_of (n + length x.names) xs ++ emails_of k ys) starts)

-- from the first on
all-append : (xs ys : List Row) → emails_of 0 (xs ++ ys) ≡ emails_of 0 xs ++ emails_of (length (names_of xs)) ys
all-append xs ys = emails_of-append 0 xs ys ∙ ap (λ k. emails_of 0 xs ++ emails_of k ys) (zero-add (length (names_of xs)))

length-emails_of : (n : ℕ) (rows : List Row) → length (emails_of n rows) ≡ length rows
length-emails_of n [] = refl
length-emails_of n (r ∷ rows) = ap suc (length-emails_of (n + length r.names) rows)

emails_raised : (n : ℕ) (rows : List Row) → map raised (emails_of n rows) ≡ emails_of (n + 1) rows
emails_raised n [] = refl
emails_raised n (r ∷ rows) =
    let next : (n + length r.names) + 1 ≡ (n + 1) + length r.names = omega arith in
    ap (λ l. record { texts = r.texts; names_start = n + 1 } ∷ l) (emails_raised (n + length r.names) rows
    ∙ ap (λ k. emails_of k rows) next)

starts : (n : ℕ) (rows : List Row) (ns : List RowTexts) (i : ℕ) → i ≤ length rows
    → length ns ≡ n + length (names_of rows) → names_start (emails_of n rows) ns i ≡ n + length (names_of (take i rows))
starts n [] ns zero le all = all
starts n [] ns (suc i) le all = all
starts n (r ∷ rows) ns zero le all = omega arith
starts n (r ∷ rows) ns (suc i) le all =
    starts (n + length r.names) rows ns i (omega arith) (omega (arith, all, length-append r.names (names_of rows)))
    ∙ omega (arith, length-append r.names (names_of (take i rows)))

-- after some names
rows_back : (front : List RowTexts) (rows : List Row) → rows_of (emails_of (length front) rows) (front ++ names_of rows) ≡ rows
rows_back front [] = refl
rows_back front (r ∷ rows) =
    let ns = front ++ (r.names ++ names_of rows) in
    let n = length front + length r.names in
    let count : n ≡ length (front ++ r.names) = sym (length-append front r.names) in
    let next : names_start (emails_of n rows) ns 0 ≡ n = starts n rows ns 0 (omega arith)
    (omega (arith, length-append front (r.names ++ names_of rows), length-append r.names (names_of rows)))
    ∙ omega arith in
    let its : take (names_start (emails_of n rows) ns 0 - length front) (drop (length front) ns) ≡ r.names =
    ap (λ k. take k (drop (length front) ns)) (omega (arith, next))
    ∙ ap (take (length r.names)) (drop-append_seam front (r.names ++ names_of rows))
    ∙ take-append_seam r.names (names_of rows) in
    let rest : rows_of (emails_of n rows) ns ≡ rows =
    ap (λ k. rows_of (emails_of k rows) ns) count
    ∙ ap (rows_of (emails_of (length (front ++ r.names)) rows)) (sym (append_assoc front r.names (names_of rows)))
    ∙ rows_back (front ++ r.names) rows in
    λ i. record { texts = r.texts; names = its i } ∷ rest i

-- the rows of their two lists
pub rows_laid_out : (es : List EmailRow) (ns : List RowTexts) (rows : List Row) → es ≡ emails_of 0 rows
    → ns ≡ names_of rows → rows_of es ns ≡ rows
rows_laid_out es ns rows follow cover = (λ i. rows_of (follow i) (cover i)) ∙ rows_back [] rows

pub laid_out : (es : List EmailRow) (ns : List RowTexts) (rows : List Row) → es ≡ emails_of 0 rows
    → ns ≡ names_of rows → AreRanges es ns
laid_out es ns rows follow cover =
    let back = sym (rows_laid_out es ns rows follow cover) in
    record { follow = follow ∙ ap (emails_of 0) back; cover = cover ∙ ap names_of back }

module _ {pool : Text} {prefixes : List ℕ} (es : List EmailRow) (ns : List RowTexts) (rows : List Row)
    (follow : es ≡ emails_of 0 rows) (cover : ns ≡ names_of rows) where
  pub tables_laid_out : AreRows pool rows prefixes → AreTables pool es ns prefixes
  tables_laid_out are = record {
    ranges = laid_out es ns rows follow cover;
    rows = subst (λ l. AreRows pool l prefixes) (sym (rows_laid_out es ns rows follow cover)) are;
  }

-- ---- the row at an index

pub length-rows_of : (es : List EmailRow) (ns : List RowTexts) → length (rows_of es ns) ≡ length es
length-rows_of [] ns = refl
length-rows_of (e ∷ es) ns = ap suc (length-rows_of es ns)

-- the names of an email, up to an index
abbrev pub names_to : List EmailRow → List RowTexts → EmailRow → ℕ → List RowTexts
names_to es ns e next = take (names_start es ns next - e.names_start) (drop e.names_start ns)

row_read : (es : List EmailRow) (ns : List RowTexts) (i : ℕ) (e : EmailRow) (d : Row) → i < length es → e ≡ get_or es i e
    → get_or (rows_of es ns) i d ≡ record { texts = e.texts; names = names_to es ns e (suc i) }
row_read [] ns i e d lt read = absurd (omega arith)
row_read (x ∷ es) ns zero e d lt read =
    ap (λ (y : EmailRow). record { texts = y.texts; names = names_to es ns y 0 }) (sym read)
row_read (x ∷ es) ns (suc i) e d lt read = row_read es ns i e d (omega arith) read

pub row_at : (es : List EmailRow) (ns : List RowTexts) (i : ℕ) (e : EmailRow) (d : Row) → i < length es
    → e ≡ get_or es i e → get_or (rows_of es ns) i d ≡ record { texts = e.texts; names = names_to es ns e (i + 1) }
row_at es ns i e d lt read = rw add-one (row_read es ns i e d lt read)

start_read : (es : List EmailRow) (ns : List RowTexts) (i : ℕ) (e : EmailRow) → i < length es → e ≡ get_or es i e
    → names_start es ns i ≡ e.names_start
start_read [] ns i e lt read = absurd (omega arith)
start_read (x ∷ es) ns zero e lt read = ap (λ (y : EmailRow). y.names_start) (sym read)
start_read (x ∷ es) ns (suc i) e lt read = start_read es ns i e (omega arith) read

taken_up : (rows : List Row) (i : ℕ) → length (names_of (take i rows)) ≤ length (names_of (take (suc i) rows))
taken_up [] zero = omega arith
taken_up [] (suc i) = omega arith
taken_up (r ∷ rows) zero = omega arith
taken_up (r ∷ rows) (suc i) = omega (
  arith,
  taken_up rows i,
  length-append r.names (names_of (take i rows)),
  length-append r.names (names_of (take (suc i) rows)),
)

taken_most : (rows : List Row) (i : ℕ) → length (names_of (take i rows)) ≤ length (names_of rows)
taken_most [] zero = omega arith
taken_most [] (suc i) = omega arith
taken_most (r ∷ rows) zero = omega arith
taken_most (r ∷ rows) (suc i) = omega (
  arith,
  taken_most rows i,
  length-append r.names (names_of (take i rows)),
  length-append r.names (names_of rows),
)

module _ {es : List EmailRow} {ns : List RowTexts} (h : AreRanges es ns) where
  pub start_is : (i : ℕ) → i ≤ length es → names_start es ns i ≡ length (names_of (take i (rows_of es ns)))
  start_is i le = ap (λ l. names_start l ns i) h.follow
      ∙ starts 0 (rows_of es ns) ns i (omega (arith, le, length-rows_of es ns)) (omega (arith, ap length h.cover))
      ∙ zero-add (length (names_of (take i (rows_of es ns))))

  pub start_at : (i : ℕ) (e : EmailRow) → i < length es → e ≡ get_or es i e
      → e.names_start ≡ length (names_of (take i (rows_of es ns)))
  start_at i e lt read = sym (start_read es ns i e lt read) ∙ start_is i (omega arith)

  pub starts_up : (i : ℕ) (e : EmailRow) → i < length es → e ≡ get_or es i e → e.names_start ≤ names_start es ns (i + 1)
  starts_up i e lt read = rw add-one (omega (
    arith,
    start_at i e lt read,
    start_is (suc i) (omega arith),
    taken_up (rows_of es ns) i,
  ))

  pub starts_most : (i : ℕ) → i ≤ length es → names_start es ns i ≤ length ns
  starts_most i le = omega (arith, start_is i le, taken_most (rows_of es ns) i, ap length h.cover)

-- ---- the number of names

names_total : (pool : Text) (rows : List Row) → name_total (map (row_group pool) rows) ≡ length (names_of rows)
names_total pool [] = refl
names_total pool (r ∷ rows) = grind (arith, common_steps, names_total pool rows, sum_by-cons)

pub names_counted : (pool : Text) {es : List EmailRow} {ns : List RowTexts} → AreRanges es ns
    → name_total (map (row_group pool) (rows_of es ns)) ≡ length ns
names_counted pool {es} {ns} h = names_total pool (rows_of es ns) ∙ sym (ap length h.cover)

-- ---- an edit of one email's row

-- a place among names that come after n others
abbrev pub later : ℕ → Result ℕ ℕ → Result ℕ ℕ
later n (Ok i) = Ok (n + i)
later n (Err i) = Err (n + i)

placed_between : {X : Type 0} (a m b : List X) (r : Result ℕ ℕ) (x : X) → IsSearchInRange r (length m)
    → placed (a ++ (m ++ b)) (later (length a) r) x ≡ a ++ (placed m r x ++ b)
placed_between a m b (Ok i) x lt =
    let there : length a + i - length a ≡ i = omega arith in
    set-append_right a (m ++ b) (length a) (length a + i) x refl (omega arith)
    ∙ ap (λ k. a ++ set (m ++ b) k x) there ∙ ap (λ l. a ++ l) (set-append_left m b i x lt)
placed_between a m b (Err i) x le =
    let there : length a + i - length a ≡ i = omega arith in
    insert-append_right a (m ++ b) (length a) (length a + i) x refl (omega arith)
    ∙ ap (λ k. a ++ insert (m ++ b) k x) there ∙ ap (λ l. a ++ l) (insert-append_left m b i x le)

raised_after : (es : List EmailRow) (e : EmailRow) (more : List EmailRow)
    → raised_from (es ++ e ∷ more) (suc (length es)) ≡ es ++ e ∷ map raised more
raised_after [] e more = refl
raised_after (x ∷ es) e more = ap (λ l. x ∷ l) (raised_after es e more)

raised_next : (es : List EmailRow) (e : EmailRow) (more : List EmailRow) (i : ℕ) → length es ≡ i
    → raised_from (es ++ e ∷ more) (i + 1) ≡ es ++ e ∷ map raised more
raised_next es e more i is =
    let next : i + 1 ≡ suc (length es) = omega (arith, is) in ap (raised_from (es ++ e ∷ more)) next ∙ raised_after es e more

-- the row of the email at an index
abbrev pub row_from : List EmailRow → List RowTexts → ℕ → EmailRow → Row
row_from es ns i e = record { texts = e.texts; names = names_to es ns e (i + 1) }

-- the rows with one put at a place
module _ (rows : List Row) (r : Result ℕ ℕ) (f : Row) (within : IsSearchInRange r (length rows)) where
  abbrev before : List RowTexts
  before = names_of (take (index_of r) rows)

  names_with : names_of (placed rows r f) ≡ before ++ (f.names ++ names_of (after rows r))
  names_with = ap names_of (new_parts f rows r within) ∙ names_of-append (take (index_of r) rows) (f ∷ after rows r)

  emails_with : emails_of 0 (placed rows r f) ≡ emails_of 0 (take (index_of r) rows)
      ++ record { texts = f.texts; names_start = length before } ∷ emails_of (length before + length f.names) (after rows r)
  emails_with = ap (emails_of 0) (new_parts f rows r within)
      ∙ all-append (take (index_of r) rows) (f ∷ after rows r)

module _ {es : List EmailRow} {ns : List RowTexts} (h : AreRanges es ns) (i : ℕ) (e : EmailRow) (lt : i < length es)
    (read : e ≡ get_or es i e) where
  abbrev its : Row
  its = row_from es ns i e

  lt_rows : i < length (rows_of es ns)
  lt_rows = omega (arith, lt, length-rows_of es ns)

  same_rows : set (rows_of es ns) i its ≡ rows_of es ns
  same_rows = ap (set (rows_of es ns) i) (sym (row_at es ns i e its lt read)) ∙ set-get_or (rows_of es ns) i its

  abbrev lower : List RowTexts
  lower = names_of (take i (rows_of es ns))

  abbrev higher : List Row
  higher = drop (i + 1) (rows_of es ns)

  abbrev emails_below : List EmailRow
  emails_below = emails_of 0 (take i (rows_of es ns))

  below_count : length emails_below ≡ i
  below_count = length-emails_of 0 (take i (rows_of es ns))
      ∙ length-take-le i (rows_of es ns) (omega (arith, lt, length-rows_of es ns))

  start_here : e.names_start ≡ length lower
  start_here = start_at h i e lt read

  names_parts : ns ≡ lower ++ (its.names ++ names_of higher)
  names_parts = h.cover ∙ ap names_of (sym same_rows) ∙ names_with (rows_of es ns) (Ok i) its lt_rows

  emails_parts : es ≡ emails_below ++ e ∷ emails_of (length lower + length its.names) higher
  emails_parts = h.follow ∙ ap (emails_of 0) (sym same_rows) ∙ emails_with (rows_of es ns) (Ok i) its lt_rows
      ∙ ap (λ k. emails_below ++ record { texts = e.texts; names_start = k }
      ∷ emails_of (length lower + length its.names) higher) (sym start_here)

  -- its names are within all names
  pub names_within : e.names_start + length its.names ≤ length ns
  names_within = omega (
    arith,
    start_here,
    ap length names_parts,
    length-append lower (its.names ++ names_of higher),
    length-append its.names (names_of higher),
  )

  -- other texts of the email
  pub texts_set : (t : RowTexts)
      → set es i (record e { texts = t }) ≡ emails_of 0 (set (rows_of es ns) i (record its { texts = t }))
  texts_set t =
      let more = emails_of (length lower + length its.names) higher in
      ap (λ l. set l i (record e { texts = t })) emails_parts
      ∙ ap (λ k. set (emails_below ++ e ∷ more) k (record e { texts = t })) (sym below_count)
      ∙ set-append_seam emails_below e more (record e { texts = t })
      ∙ ap (λ k. emails_below ++ record { texts = t; names_start = k } ∷ more) start_here
      ∙ sym (emails_with (rows_of es ns) (Ok i) (record its { texts = t }) lt_rows)

  pub texts_cover : (t : RowTexts) → ns ≡ names_of (set (rows_of es ns) i (record its { texts = t }))
  texts_cover t = names_parts ∙ sym (names_with (rows_of es ns) (Ok i) (record its { texts = t }) lt_rows)

  -- a name put among those of the email
  module _ (p : Result ℕ ℕ) (name : RowTexts) (within : IsSearchInRange p (length its.names)) where
    abbrev put : Row
    put = record its { names = placed its.names p name }

    pub name_placed : placed ns (later e.names_start p) name ≡ names_of (set (rows_of es ns) i put)
    name_placed = (λ j. placed (names_parts j) (later (start_here j) p) name)
        ∙ placed_between lower its.names (names_of higher) p name within
        ∙ sym (names_with (rows_of es ns) (Ok i) put lt_rows)

  pub name_set_follow : (j : ℕ) (name : RowTexts) → j < length its.names
      → es ≡ emails_of 0 (set (rows_of es ns) i (record its { names = set its.names j name }))
  name_set_follow j name less = emails_parts
      ∙ (λ k. emails_below ++ record { texts = e.texts; names_start = start_here k }
      ∷ emails_of (length lower + sym (length-set its.names j name) k) higher)
      ∙ sym (emails_with (rows_of es ns) (Ok i) (record its { names = set its.names j name }) lt_rows)

  pub name_inserted_follow : (j : ℕ) (name : RowTexts) → j ≤ length its.names
      → raised_from es (i + 1) ≡ emails_of 0 (set (rows_of es ns) i (record its { names = insert its.names j name }))
  name_inserted_follow j name le =
      let n = length lower + length its.names in
      let count : n + 1 ≡ length lower + length (insert its.names j name) =
      omega (arith, length-insert its.names j name le) in
      ap (λ l. raised_from l (i + 1)) emails_parts
      ∙ raised_next emails_below e (emails_of n higher) i below_count
      ∙ ap (λ l. emails_below ++ e ∷ l) (emails_raised n higher ∙ ap (λ k. emails_of k higher) count)
      ∙ ap (λ k. emails_below ++ record { texts = e.texts; names_start = k }
      ∷ emails_of (length lower + length (insert its.names j name)) higher) start_here
      ∙ sym (emails_with (rows_of es ns) (Ok i) (record its { names = insert its.names j name }) lt_rows)

-- the emails after a name was put at a place among those of the email at an index
abbrev pub emails_named : List EmailRow → ℕ → Result ℕ ℕ → List EmailRow
emails_named es i (Ok j) = es
emails_named es i (Err j) = raised_from es (i + 1)

pub name_follow : {es : List EmailRow} {ns : List RowTexts} (h : AreRanges es ns) (i : ℕ) (e : EmailRow)
    → i < length es → e ≡ get_or es i e → (p : Result ℕ ℕ) (name : RowTexts)
    → IsSearchInRange p (length (row_from es ns i e).names) → emails_named es i p
    ≡ emails_of 0 (set (rows_of es ns) i (record (row_from es ns i e) { names = placed (row_from es ns i e).names p name }))
name_follow h i e lt read (Ok j) name within = name_set_follow h i e lt read j name within
name_follow h i e lt read (Err j) name within = name_inserted_follow h i e lt read j name within

-- ---- a new email

abbrev pub new_row : RowTexts → Option RowTexts → Row
new_row texts name = record { texts = texts; names = option_to_list name }

module _ {es : List EmailRow} {ns : List RowTexts} (h : AreRanges es ns) (i : ℕ) (le : i ≤ length es) (texts : RowTexts) where
  abbrev rows : List Row
  rows = rows_of es ns

  abbrev new_email : EmailRow
  new_email = record { texts = texts; names_start = names_start es ns i }

  le_rows : i ≤ length rows
  le_rows = omega (arith, le, length-rows_of es ns)

  abbrev lower_names : List RowTexts
  lower_names = names_of (take i rows)

  abbrev lower_emails : List EmailRow
  lower_emails = emails_of 0 (take i rows)

  lower_count : length lower_emails ≡ i
  lower_count = length-emails_of 0 (take i rows) ∙ length-take-le i rows le_rows

  start_there : names_start es ns i ≡ length lower_names
  start_there = start_is h i le

  two_parts : es ≡ lower_emails ++ emails_of (length lower_names) (drop i rows)
  two_parts = h.follow ∙ ap (emails_of 0) (sym (take-append-drop i rows)) ∙ all-append (take i rows) (drop i rows)

  two_parts_of_names : ns ≡ lower_names ++ names_of (drop i rows)
  two_parts_of_names = h.cover ∙ ap names_of (sym (take-append-drop i rows)) ∙ names_of-append (take i rows) (drop i rows)

  email_inserted : insert es i new_email ≡ lower_emails ++ new_email ∷ emails_of (length lower_names) (drop i rows)
  email_inserted =
      let more = emails_of (length lower_names) (drop i rows) in
      let first : i - i ≡ 0 = omega arith in
      ap (λ l. insert l i new_email) two_parts
      ∙ insert-append_right lower_emails more i i new_email lower_count (omega arith)
      ∙ ap (λ k. lower_emails ++ insert more k new_email) first

  parts_with : (f : Row) → f.texts ≡ texts → emails_of 0 (insert rows i f)
      ≡ lower_emails ++ new_email ∷ emails_of (length lower_names + length f.names) (drop i rows)
  parts_with f same = emails_with rows (Err i) f le_rows
      ∙ (λ k. lower_emails ++ record { texts = same k; names_start = sym start_there k }
      ∷ emails_of (length lower_names + length f.names) (drop i rows))

  pub unnamed_follow : insert es i new_email ≡ emails_of 0 (insert rows i (new_row texts None))
  unnamed_follow = email_inserted
      ∙ ap (λ k. lower_emails ++ new_email ∷ emails_of k (drop i rows)) (sym (add-zero (length lower_names)))
      ∙ sym (parts_with (new_row texts None) refl)

  pub unnamed_cover : ns ≡ names_of (insert rows i (new_row texts None))
  unnamed_cover = two_parts_of_names ∙ sym (names_with rows (Err i) (new_row texts None) le_rows)

  pub named_follow : (name : RowTexts)
      → raised_from (insert es i new_email) (i + 1) ≡ emails_of 0 (insert rows i (new_row texts (Some name)))
  named_follow name =
      ap (λ l. raised_from l (i + 1)) email_inserted
      ∙ raised_next lower_emails new_email (emails_of (length lower_names) (drop i rows)) i lower_count
      ∙ ap (λ l. lower_emails ++ new_email ∷ l) (emails_raised (length lower_names) (drop i rows))
      ∙ sym (parts_with (new_row texts (Some name)) refl)

  pub named_cover : (name : RowTexts)
      → insert ns (names_start es ns i) name ≡ names_of (insert rows i (new_row texts (Some name)))
  named_cover name =
      let more = names_of (drop i rows) in
      let first : length lower_names - length lower_names ≡ 0 = omega arith in
      (λ k. insert (two_parts_of_names k) (start_there k) name)
      ∙ insert-append_right lower_names more (length lower_names) (length lower_names) name refl (omega arith)
      ∙ ap (λ k. lower_names ++ insert more k name) first
      ∙ sym (names_with rows (Err i) (new_row texts (Some name)) le_rows)

-- the emails with a new one at an index, and all names
abbrev pub emails_inserted : List EmailRow → List RowTexts → ℕ → RowTexts → Option RowTexts → List EmailRow
emails_inserted es ns i texts None = insert es i (record { texts = texts; names_start = names_start es ns i })
emails_inserted es ns i texts (Some name) =
    raised_from (insert es i (record { texts = texts; names_start = names_start es ns i })) (i + 1)

abbrev pub names_inserted : List EmailRow → List RowTexts → ℕ → Option RowTexts → List RowTexts
names_inserted es ns i None = ns
names_inserted es ns i (Some name) = insert ns (names_start es ns i) name

pub inserted_follow : {es : List EmailRow} {ns : List RowTexts} (h : AreRanges es ns) (i : ℕ) → i ≤ length es
    → (texts : RowTexts) (name : Option RowTexts)
    → emails_inserted es ns i texts name ≡ emails_of 0 (insert (rows_of es ns) i (new_row texts name))
inserted_follow h i le texts None = unnamed_follow h i le texts
inserted_follow h i le texts (Some name) = named_follow h i le texts name

pub inserted_cover : {es : List EmailRow} {ns : List RowTexts} (h : AreRanges es ns) (i : ℕ) → i ≤ length es
    → (texts : RowTexts) (name : Option RowTexts)
    → names_inserted es ns i name ≡ names_of (insert (rows_of es ns) i (new_row texts name))
inserted_cover h i le texts None = unnamed_cover h i le texts
inserted_cover h i le texts (Some name) = named_cover h i le texts name

-- ---- starts that can be raised

starts_few : (n : ℕ) (rows : List Row) (most : ℕ) → n + length (names_of rows) < most
    → AllByRecursion (λ (e : EmailRow). e.names_start < most) (emails_of n rows)
starts_few n [] most lt = tt
starts_few n (r ∷ rows) most lt =
    let count = length-append r.names (names_of rows) in
    (omega (arith, lt), starts_few (n + length r.names) rows most (omega (arith, lt, count)))

-- no start is above the number of all names
pub few_starts : {es : List EmailRow} {ns : List RowTexts} → AreRanges es ns → (most : ℕ) → length ns < most
    → AllByRecursion (λ (e : EmailRow). e.names_start < most) es
few_starts {es} {ns} h most lt = subst (AllByRecursion (λ (e : EmailRow). e.names_start < most)) (sym h.follow)
    (starts_few 0 (rows_of es ns) most (omega (arith, lt, ap length h.cover)))

pub few_inserted : {es : List EmailRow} {ns : List RowTexts} → AreRanges es ns → (most : ℕ) → length ns < most
    → (i : ℕ) → i ≤ length es → (texts : RowTexts) → AllByRecursion (λ (e : EmailRow). e.names_start < most)
    (insert es i (record { texts = texts; names_start = names_start es ns i }))
few_inserted {es} {ns} h most lt i le texts =
    all_placed (λ (e : EmailRow). e.names_start < most) es (Err i) (record { texts = texts; names_start = names_start es ns i })
    (few_starts h most lt) (omega (arith, lt, starts_most h i le))
