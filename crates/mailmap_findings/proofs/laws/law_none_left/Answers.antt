use Rattle.std.proofs.Common.{◌++◌, subst}
use Rattle.mailmap_entries.specs.Semantics.{IsNormal}
use Rattle.mailmap_findings.proofs.Concatenated.{AreWhole, texts, without_one}
use Rattle.mailmap_findings.proofs.Pruned.{lines_whole, mappings_of_text, none_can_go}
use Rattle.mailmap_findings.proofs.laws.law_none_left.Goals as goal

pub returns-clause-entries : goal.returns-clause-entries
returns-clause-entries c = none_can_go

pub returns-clause-text : goal.returns-clause-text
returns-clause-text c buffer text a b l e n m pruned whole given with_l without =
    none_can_go buffer text a b l e n m pruned whole given with_l (subst (λ h. IsNormal h m) (mappings_of_text (a ++ b)
    (without_one a b l (subst (λ ls. AreWhole (texts ls)) whole (lines_whole text)))) without)
