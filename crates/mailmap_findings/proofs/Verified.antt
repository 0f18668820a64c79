-- From the results of parsing and of without_redundant to those of verify and prune, also for buffers without lines;
-- and when findings and explanations are equal.
use Rattle.std.proofs.Common.{◌≡◌, List, [], Result, IfOk, sym, subst, arith, Decides, Option, Bor, nat_eq, option_copied, rules}
use Rattle.std.specs.Prelude.{◌&&◌}
use Rattle.mailmap_entries.specs.Folding.{Text}
use Rattle.mailmap_redundancy.specs.Redundancy.{AreEffective, done, settled}
use Rattle.mailmap_findings.specs.Findings.{contact_of}
use Rattle.mailmap_findings.specs.Positions.{located_lines, located, same_position}
use Rattle.std.specs.Option.{option_eq}
use lib.Pointwise.{pointwise}
use Rattle.mailmap_redundancy.specs.declared.located.Position.{Position}
use Rattle.mailmap_findings.specs.Explanations.{explained, explained_by}
use Rattle.mailmap_findings.specs.declared.explain.Explanation.{Explanation}
use Rattle.mailmap_findings.specs.declared.verify.Contact as the_contact

-- carries a property of the expected value over to a successful result
pub if_given : {V E X : Type 0} (r : Result V E) (read : V → X) (P : X → Type 0) (given : X) → IfOk r (λ v. read v ≡ given) → ((x : X) → x ≡ given → P x) → IfOk r (λ v. P (read v))
if_given r read P given is h = grind arith

-- ---- buffers without lines

pub no_line : (buffers : List Text) → located_lines buffers ≡ [] → AreEffective (located (located_lines buffers)) []
no_line buffers none = subst (λ ls. AreEffective (located ls) []) (sym none) (settled [] (done []))

-- ---- equal explanations

pub texts_decide : (o p : Option (Bor Text)) → Decides (option_eq (λ x y. pointwise nat_eq x.now y.now) o p) (option_copied o ≡ option_copied p)
texts_decide o p = search rules

pub position_decides : (a b : Position) → Decides (same_position a b) (a ≡ b)
position_decides a b = grind arith

pub positions_decide : (o p : Option Position) → Decides (option_eq same_position o p) (o ≡ p)
positions_decide o p = grind arith

pub explanations_decide : (a b : Explanation) → Decides (option_eq (λ x y. pointwise nat_eq x.now y.now) a.name b.name
    && (option_eq (λ x y. pointwise nat_eq x.now y.now) a.email b.email && (same_position a.first b.first
    && option_eq same_position a.second b.second))) ((explained a ≡ explained b) × (explained_by a ≡ explained_by b))
explanations_decide a b = grind (arith, texts_decide, positions_decide)

-- ---- findings

pub contact_decides : (a b : the_contact.Contact)
    → Decides (option_eq (λ x y. pointwise nat_eq x.now y.now) a.name b.name && pointwise nat_eq a.email.now b.email.now) (contact_of a ≡ contact_of b)
contact_decides a b = search rules
