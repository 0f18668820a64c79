use Rattle.std.proofs.Common.{rules}
use Rattle.mailmap_entries.specs.Entries.{mapping_of}
use Rattle.mailmap_entries.specs.Semantics.{Key, key}
use Rattle.mailmap_redundancy.specs.Summaries.{IsPushed, email_key}
use Rattle.mailmap_redundancy.proofs.Numbered.{email_pushed, keeps, key_pushed}
use Rattle.mailmap_redundancy.proofs.keys.AscendingKeys.add.Goals as goal

pub returns : goal.returns
returns c =
    let k : Key = key (mapping_of c.args.entry.now) in
    let between = c.push_above.new.keys.items in
    let keys = c.push_above-2.new.keys.items in
    let p : IsPushed c.args.self.now.keys.items (email_key k.0) c.in_ok-push_above.field-0 between = search rules in
    let q : IsPushed between k c.in_ok-push_above-2.field-0 keys = search rules in
    let done = key_pushed _ _ _ k _ (email_pushed _ _ _ k _ c.requires.ascending c.requires.up p) q in
    record {
      ascending = rw c.unwrap_or-self.ensures done.0;
      last = done.1;
      keeps = λ l i is. keeps _ _ k _ q l i (keeps _ _ _ _ p l i is);
    }
