use Rattle.std.proofs.Common.{◌∙◌, ap, subst, sym}
use Rattle.mailmap_names.specs.Keys.{telling_words}
use Rattle.mailmap_entries.specs.Texts.{texts}
use Rattle.mailmap_names.specs.Private.{AreSorted}
use Rattle.mailmap_names.proofs.Searches.{found_is}
use Rattle.mailmap_names.proofs.names.Name.has_word.Goals as goal

pub returns : goal.returns
returns c =
    let sorted = subst AreSorted (sym c.deref.ensures.value) c.args.self.now.telling_sorted in
    let read = ap texts c.deref.ensures.value ∙ c.args.self.now.telling_read in
    c.is_ok.ensures.value
    ∙ found_is c.deref.result.now c.args.word.now.items sorted c.binary_search.result (telling_words c.args.self.now.text.now)
    c.binary_search.ensures.bound c.binary_search.ensures.position read
