use Rattle.mailmap_entries.proofs.Results.{if_ok_map}
use Rattle.mailmap_entries.proofs.Unique.{normal_unique}
use Rattle.mailmap_tables.specs.Groups.{Contents, listing}
use Rattle.mailmap_tables.proofs.Grouped.{groups_accepted, groups_normal}
use Rattle.mailmap_tables.proofs.merge.rebuilt.Goals as goal

pub built-requires : goal.built-requires
built-requires c = rw (c.deref.ensures.value, c.in_ok-listed.ensures) (groups_accepted c.args.tables.now.groups)

pub returns : goal.returns
returns c =
    let existing = c.args.tables.now.groups in
    if_ok_map c.built.result _ _ (λ (made : Contents) d. (
      d.groups,
      normal_unique (listing existing) (listing made.groups) (listing existing)
          (rw (c.deref.ensures.value, c.in_ok-listed.ensures) at d.normal) (groups_normal existing c.requires),
    )) c.built.ensures
