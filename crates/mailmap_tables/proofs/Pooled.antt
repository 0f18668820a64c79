-- What tables represent when the pool grows. The names of what still holds then end in `_on`.
use Rattle.std.proofs.lemmas.Grind.{common_steps}
use Rattle.std.proofs.Common.{◌≡◌, ◌≤◌, ℕ, List, ◌++◌, append_assoc, map, length, Option, option_map, length-append}
use Rattle.std.proofs.Common.{sym, ap, subst, ◌∙◌, arith}
use Rattle.std.specs.Option.{ForSome}
use Rattle.std.specs.List.{AllByRecursion}
use Rattle.std.specs.List.Sorted.{IsStrictlySortedBy}
use Rattle.mailmap_entries.specs.Folding.{Text, text_cmp}
use Rattle.mailmap_entries.proofs.Parts.{all_weaker, map_alike}
use Rattle.mailmap_tables.specs.Groups.{Contents, EmailGroup, folded_name}
use Rattle.mailmap_tables.specs.Pool.{EmailInPool, Extends, IsGrown, LiesIn, NameInPool, Row, TextsInPool, contents, fields_of}
use Rattle.mailmap_tables.specs.Pool.{stored_name, prefix_of, row_group, spelled}
use Rattle.mailmap_tables.specs.Rows.{AreRows}
use Rattle.mailmap_tables.specs.RowTexts.{old_span}
use Rattle.mailmap_tables.specs.declared.texts.Span.{Span}
use Rattle.mailmap_tables.specs.declared.texts.RowTexts.{RowTexts}

module _ (a b : Text) (to : Extends a b) where
  pub grown : length a ≤ length b
  grown = omega (arith, ap length to.1, length-append a to.0)

  pub spelled_on : (s : Span) → LiesIn (length a) s → spelled b s ≡ spelled a s
  spelled_on s lies = grind (arith, common_steps)

  pub options_on : (o : Option Span) → ForSome o (LiesIn (length a)) → option_map (spelled b) o ≡ option_map (spelled a) o
  options_on o lies = grind (arith, spelled_on)

  -- rows have the same texts
  pub fields_on : (t : RowTexts) → TextsInPool (length a) t → fields_of b t ≡ fields_of a t
  fields_on t lies = grind (arith, options_on)

  stored_names_on : (rs : List RowTexts) → AllByRecursion (NameInPool (length a)) rs
      → map (stored_name b) rs ≡ map (stored_name a) rs
  stored_names_on rs all = map_alike (stored_name b) (stored_name a) rs
      (all_weaker rs (λ r lies. cc (spelled_on (old_span r) lies.texts.old, fields_on r lies.texts)) all)

  group_on : (r : Row) → EmailInPool a r.texts r.names → row_group b r ≡ row_group a r
  group_on r its = cc (
    spelled_on (old_span r.texts) its.email_lies.old,
    fields_on r.texts its.email_lies,
    stored_names_on r.names its.names_lie,
  )

  pub texts_lie_on : (t : RowTexts) → TextsInPool (length a) t → TextsInPool (length b) t
  texts_lie_on t lies = grind (arith, common_steps, grown)

  email_on : (r : Row) → EmailInPool a r.texts r.names → EmailInPool b r.texts r.names
  email_on r lies = record {
    email_lies = texts_lie_on r.texts lies.email_lies;
    names_lie = all_weaker r.names (λ n its. record {
      texts = texts_lie_on n its.texts;
      new_email = its.new_email;
    }) lies.names_lie;
  }

  module _ (rows : List Row) {prefixes : List ℕ} (h : AreRows a rows prefixes) where
    groups_same : map (row_group b) rows ≡ map (row_group a) rows
    groups_same = map_alike (row_group b) (row_group a) rows (all_weaker rows (λ r its. group_on r its.in_pool) h.each)

    pub rows_on : AreRows b rows prefixes
    rows_on = record {
      each = all_weaker rows (λ r its. record {
        in_pool = email_on r its.in_pool;
        ascending = subst (λ (g : EmailGroup). IsStrictlySortedBy text_cmp (map folded_name g.names))
            (sym (group_on r its.in_pool)) its.ascending;
      }) h.each;
      prefix_each = h.prefix_each ∙ ap (map prefix_of) (sym groups_same);
    }

    pub contents_on : (t : Contents) → contents a rows ≡ t
        → contents b rows ≡ record t { pool = t.pool ++ to.0 }
    contents_on t is = (λ i. record { pool = to.1 i; groups = groups_same i })
        ∙ ap (λ (v : Contents). record v { pool = v.pool ++ to.0 }) is

pub grown_through : (a b c : Contents) → IsGrown a b → IsGrown b c → IsGrown a c
grown_through a b c p q = (
  p.0 ++ q.0,
  q.1 ∙ ap (λ (v : Contents). record v { pool = v.pool ++ q.0 }) p.1 ∙ (λ i. record a { pool = append_assoc a.pool p.0 q.0 i }),
)
