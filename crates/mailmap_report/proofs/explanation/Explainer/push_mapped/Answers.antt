use Rattle.std.proofs.Common.{rules, ◌≡◌, ◌++◌, ◌∙◌, List, ℕ, Vec, Global, ap, append_assoc, codes, map}
use Rattle.mailmap_entries.specs.Folding.{Text}
use Rattle.std.proofs.lemmas.Result.{on_ok_weaker}
use Rattle.mailmap_grammar.specs.CanonicalText.{contact_with}
use Rattle.mailmap_findings.specs.Explanations.{explained}
use Rattle.mailmap_redundancy.specs.Origins.{origins}
use Rattle.mailmap_entries.specs.Semantics.{answer_of}
use Rattle.mailmap_redundancy.specs.Redundancy.{entries}
use Rattle.mailmap_report.specs.Explained.{Grounds, mapped_text}
use Rattle.mailmap_report.specs.Report.{positions_text}
use Rattle.mailmap_report.proofs.explanation.Explainer.push_mapped.Goals as goal

-- the text after a contact that is mapped, piece by piece
mapped_pieces : (old one two three new is_text who by_text positions : Text) → one ≡ old ++ is_text → two ≡ one ++ who → three ≡ two ++ by_text → new ≡ three ++ positions
    → new ≡ old ++ (is_text ++ who ++ by_text ++ positions)
mapped_pieces old one two three new is_text who by_text positions a b c d =
    let to_who : two ≡ old ++ (is_text ++ who) = b ∙ ap (λ t. t ++ who) a ∙ append_assoc old is_text who in
    let to_by : three ≡ old ++ (is_text ++ who ++ by_text) = c ∙ ap (λ t. t ++ by_text) to_who ∙ append_assoc old (is_text ++ who) by_text in
    d ∙ ap (λ t. t ++ positions) to_by ∙ append_assoc old (is_text ++ who ++ by_text) positions

pub returns : goal.returns
returns c =
    let items : Vec ℕ Global → List ℕ = λ path. path.items in
    let old = c.args.text.now.items in
    let name = c.args.name.now in
    let email = c.args.email.now in
    let s = c.self.inside in
    let paths = map items s.paths.now in
    let found = explained c.in-Some.found in
    let g = origins s.explanations.kept name email in
    let who : c.push_contact.new.text.items ≡ c.extend_from_slice-2.new.self.items ++ contact_with found name email = search rules in
    on_ok_weaker c.push_positions.result (λ e.
    mapped_pieces old c.extend_from_slice-2.new.self.items c.push_contact.new.text.items c.extend_from_slice-3.new.self.items c.push_positions.new.text.items (codes " is ") (contact_with found name email) (codes " by ")
    _ c.in_ok-extend_from_slice.ensures.items who c.in_ok-extend_from_slice-2.ensures.items e
    ∙ ap (λ ps. old ++ (codes " is " ++ contact_with found name email ++ codes " by " ++ positions_text paths ps)) c.in-Some.ensures.positions
    ∙ ap (λ o. old ++ mapped_text paths g o name email) c.in-Some.ensures.fields
    ∙ ap (λ (x : Grounds). old ++ mapped_text x.paths (origins x.kept name email) (answer_of (entries x.history) name email) name email) c.self.view_is)
    c.push_positions.ensures
