use Rattle.std.proofs.Common.{◌<◌, ◌≡◌, Bool, false, true, length, refl, subst, arith}
use Rattle.std.proofs.lemmas.List.{drop_all}
use Rattle.mailmap_redundancy.specs.Redundancy.{done}
use Rattle.mailmap_redundancy.specs.Summaries.{IsTried, located_mapping_of, located_mappings}
use Rattle.mailmap_redundancy.proofs.Rows.{email_within, key_within, numbered_at, tried}
use Rattle.mailmap_redundancy.proofs.passes.drop_redundant_once.Goals as goal
use Rattle.mailmap_redundancy.proofs.passes.drop_redundant_once.Goals.{then-append_unless_redundant+in_ok-push, else-append_unless_redundant}

pub append_unless_redundant-requires-clause-key : goal.append_unless_redundant-requires-clause-key
append_unless_redundant-requires-clause-key c = key_within _ _ c.requires.numbered _ _ (omega arith) c.x-item.is _ _ c.loop-x.invariant.table

pub append_unless_redundant-requires-clause-email : goal.append_unless_redundant-requires-clause-email
append_unless_redundant-requires-clause-email c = email_within _ _ c.requires.numbered _ _ (omega arith) c.x-item.is _ _ c.loop-x.invariant.table

pub loop-x-preserved : goal.loop-x-preserved
loop-x-preserved c =
    let keys = c.args.keys.now in
    let x = c.x-item.result in
    let so = c.loop-x.invariant in
    let kept = c.loop-x.kept.items in
    let within : c.loop-x.x-index < length c.args.entries.now = omega arith in
    let n = numbered_at keys c.args.entries.now c.requires.numbered c.loop-x.x-index x within c.x-item.is in
    let after = c.append_unless_redundant.new.table in
    let passing = tried keys c.args.entries.now c.requires.numbered c.loop-x.x-index x within c.x-item.is n
    c.loop-x.later_ones.items c.loop-x.table kept so c.pop.new.self.items c.in-Some.later c.in-Some.ensures.items in
    let is : (b : Bool) → c.append_unless_redundant.result ≡ b
    → IsTried keys (located_mappings kept) (located_mapping_of x) c.in-Some.later b after =
    λ b is. subst (λ (t : Bool). IsTried keys (located_mappings kept) (located_mapping_of x) c.in-Some.later t after) is
    (c.append_unless_redundant.ensures keys (located_mappings kept) c.requires.ascending n so.table) in
    elim c.if-append_unless_redundant.branch [
      | then-append_unless_redundant+in_ok-push w ↦ rw w.kept-is
          (passing true after w.push.new.self.items w.in_ok-push.ensures.items (is true w.if-append_unless_redundant.true))
      | else-append_unless_redundant w ↦ rw w.kept-is
          (passing false after kept refl (is false w.if-append_unless_redundant.false))
    ]

pub returns-clause-passed : goal.returns-clause-passed
returns-clause-passed c =
    c.loop-x.invariant.left _ (rw (drop_all c.loop-x.x-index c.args.entries.now c.loop-x-test.false) (done _))
