use Rattle.std.proofs.Common.{ap}
use Rattle.std.specs.Ordering.{eq_by_cmp}
use Rattle.mailmap_entries.specs.Folding.{folded, text_cmp}
use Rattle.mailmap_entries.specs.Semantics.{first, key, key_cmp}
use Rattle.mailmap_redundancy.specs.Origins.{entries_of_email}
use Rattle.mailmap_redundancy.specs.Summaries.{IsKnown, email_key, key_summary, key_summary_of, first_of, located_mapping_of}
use Rattle.mailmap_redundancy.specs.Redundancy.{entries_of_key}
use Rattle.mailmap_redundancy.proofs.Numbered.{unequal_emails, unequal_keys}
use Rattle.mailmap_redundancy.proofs.Rows.{all_with, email_keys, known, not_with, row_changed}
use Rattle.mailmap_redundancy.proofs.table.Table.put.Goals as goal

pub returns : goal.returns
returns c = λ keys xs ys up n t grown says.
    let x = located_mapping_of c.args.x.now in
    record {
      of_keys = row_changed keys (λ k. k) key_summary_of (λ k. key_summary (entries_of_key xs k))
          (λ k. key_summary (entries_of_key ys k)) _ (key x.entry) _ _ up (λ a b e. e) t.of_keys n.own
          (ap (λ s. s.of_key) says) (λ k other. ap key_summary
          (not_with xs x (λ y. eq_by_cmp key_cmp k (key y.entry)) ys grown (unequal_keys k (key x.entry) other)));
      of_emails = row_changed keys email_key first_of (λ email. first (entries_of_email xs email))
          (λ email. first (entries_of_email ys email)) _ (folded x.entry.old_email) _ _ up email_keys t.of_emails
          n.of_email (ap (λ s. s.spelling) says) (λ email other. ap first
          (not_with xs x (λ y. eq_by_cmp text_cmp email (folded y.entry.old_email)) ys grown
          (unequal_emails email (folded x.entry.old_email) other)));
      known = all_with xs x (IsKnown keys) ys grown t.known (known keys c.args.x.now n);
    }
