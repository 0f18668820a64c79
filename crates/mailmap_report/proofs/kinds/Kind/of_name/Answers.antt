use Rattle.std.proofs.Common.{rules, ◌≡◌, ◌∙◌, List, [], ◌∷◌, Some, IfSome, ap, refl, sym, tests}
use Rattle.std.specs.List.{find}
use Rattle.std.specs.Str.{bytes_eq}
use Rattle.std.proofs.lemmas.Bool.{cond_both}
use Rattle.std.proofs.lemmas.Iterator.{YieldsList-from_slice}
use Rattle.std.proofs.lemmas.Iterator.Search.{find_from_yields_List}
use Rattle.std.proofs.lemmas.Slice.Eq.{bytes_eq-Decides}
use Rattle.mailmap_entries.specs.Folding.{Text}
use Rattle.mailmap_report.specs.Kinds.{kind_name, kind_named, kinds}
use Rattle.mailmap_report.specs.declared.kinds.Kind.{Kind}
use Rattle.mailmap_report.specs.declared.kinds.Kind.TheVariants.{NoEmail}
use Rattle.mailmap_report.proofs.kinds.Kind.of_name.Goals as goal
use Rattle.mailmap_report.proofs.kinds.Kind.of_name.Goals.{After-copied}

found : (c : After-copied) → c.copied.result ≡ kind_named c.args.name.now
found c = c.copied.ensures
    ∙ find_from_yields_List (λ k. bytes_eq (kind_name k) c.args.name.now) _ _ c.find.result c.find.ensures.ran (YieldsList-from_slice kinds cc) (λ x b q k. search (rules, tests))

-- what a search finds has the name
found_named : (name : Text) (ks : List Kind) → IfSome (find (λ k. bytes_eq (kind_name k) name) ks) (λ kind. kind_name kind ≡ name)
found_named name [] = tt
found_named name (k ∷ ks) = cond_both (bytes_eq (kind_name k) name) (Some k) (find (λ k. bytes_eq (kind_name k) name) ks) (λ r. IfSome r (λ kind. kind_name kind ≡ name)) (bytes_eq-Decides (kind_name k) name).0 (λ e. found_named name ks)

-- no earlier kind has the same name
itself_named : (kind : Kind) → kind_named (kind_name kind) ≡ Some kind
itself_named NoEmail = refl
itself_named _ = refl

pub returns-clause-first : goal.returns-clause-first
returns-clause-first c = found c

pub returns-clause-named : goal.returns-clause-named
returns-clause-named c = rw (found c) (found_named c.args.name.now kinds)

pub returns-clause-each : goal.returns-clause-each
returns-clause-each c = λ kind named. found c ∙ ap kind_named (sym named) ∙ itself_named kind
