use Rattle.std.proofs.Common.{length-set, append-nil, ap, subst, sym, take, take_all, ◌∙◌, arith}
use Rattle.std.proofs.lemmas.List.{take_more, take_more_set}
use Rattle.std.proofs.lemmas.List.Elements.{recursion_from_All}
use Rattle.std.proofs.lemmas.Result.{on_ok_weaker}
use Rattle.mailmap_entries.specs.Semantics.{IsNormal, accepted}
use Rattle.mailmap_entries.proofs.Building.{is_merged}
use Rattle.mailmap_tables.proofs.Grouped.{groups_normal}
use Rattle.mailmap_snapshot.specs.Sources.{merged_mappings}
use Rattle.mailmap_snapshot.proofs.Sources.{marked_one, none_merged}
use Rattle.mailmap_snapshot.proofs.snapshot.Snapshot.merge_sources.Goals as goal

pub loop-i-init : goal.loop-i-init
unfolding merged_mappings
loop-i-init c =
    let own = subst (λ n. IsNormal n n) c.self.view_is (groups_normal c.self.inside.tables.groups c.self.invariant) in
    record { long = sym c.requires; own = own; marked = record { normal = rw (append-nil c.args.self.now) own; marks = tt } }

pub loop-i-preserved : goal.loop-i-preserved
loop-i-preserved c =
    let i = c.loop-i.i in
    let sources = c.args.sources.now in
    let made = c.loop-i.made in
    let s = c.index-sources-i.result in
    let r = c.merge_source.result in
    record {
      long = length-set made i c.is_ok.result ∙ c.loop-i.invariant.long;
      own = c.loop-i.invariant.own;
      marked = rw (take_more sources i s c.loop-i-test.true, sym c.index-sources-i.is, take_more_set made i c.is_ok.result (omega arith), c.is_ok.ensures.value)
          (marked_one c.args.self.now (take i sources) s (take i made) c.loop-i.self c.merge_source.new.self r c.loop-i.invariant.marked
          (on_ok_weaker r (λ m. m.history) c.merge_source.ensures.ok) c.merge_source.ensures.err c.merge_source.ensures.out_of_memory);
    }

pub returns : goal.returns
returns c =
    let done = rw (take_all c.loop-i.i c.args.sources.now (omega arith), take_all c.loop-i.i c.loop-i.made (omega arith)) at c.loop-i.invariant.marked in
    let merged = is_merged c.args.self.now _ c.loop-i.self c.loop-i.invariant.own done.normal in
    record {
      merged = merged;
      none_made = λ none. merged.unchanged (ap accepted (none_merged c.args.sources.now c.loop-i.made (recursion_from_All _ c.loop-i.made none)));
      never_out_of_memory = done.marks;
      marks = c.loop-i.invariant.long ∙ c.requires;
    }
