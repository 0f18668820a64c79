use Rattle.std.proofs.Common.{arith, rules, ◌≡◌, ◌↔◌, true}
use Rattle.mailmap_findings.specs.Findings.{kind_of}
use Rattle.mailmap_findings.specs.contracts.verify.FindingKindPartialEq as derived
use Rattle.mailmap_findings.specs.declared.verify.FindingKind as the_kind
use Rattle.mailmap_findings.specs.declared.verify.FindingKind.TheVariants as kind
use Rattle.mailmap_findings.proofs.Verified.{contact_decides, position_decides, positions_decide}
use Rattle.mailmap_findings.proofs.laws.equal.law_equal_kinds.Goals as goal

equal : (a b : the_kind.FindingKind) → (derived.TheImpl.ghosts.eq a b ≡ true) ↔ (kind_of a ≡ kind_of b)
equal (kind.ItselfMapped c t p q) (kind.ItselfMapped d u r s) =
    grind (arith, (contact_decides c d), (contact_decides t u), position_decides, positions_decide)
equal a b = search rules

pub returns-clause-kinds : goal.returns-clause-kinds
returns-clause-kinds c = equal
