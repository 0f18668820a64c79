use Rattle.std.specs.Prelude.{Option}
use Rattle.std.proofs.Common.{◌≡◌, ◌∙◌, ℕ, [], ◌∷◌, ◌++◌, ap, append-nil, append_assoc, codes, decimal, drop, length, subst, sym}
use Rattle.std.proofs.lemmas.Result.{on_err_weaker, on_ok_weaker}
use Rattle.mailmap_entries.proofs.Results.{on_err}
use Rattle.mailmap_snapshot.specs.Folding.{Text}
use Rattle.command_line.specs.Printing.{IsUnderway}
use Rattle.command_line.proofs.Printed.{text-broken, text-printed, underway-none}
use Rattle.shown_text.specs.Shown.{shown}
use Rattle.mailmap_shortlog.specs.Answers.{printed}
use Rattle.mailmap_shortlog.specs.Shortlog.{six_columns}
use Rattle.mailmap_shortlog.proofs.shortlog.print_line.Goals as goal

abbrev feed : Text
feed = 10 ∷ []

-- a count in six columns, and a tab
abbrev tabbed : Text → Text
tabbed digits = (drop (length digits) (codes "      ") ++ digits) ++ 9 ∷ []

-- a line in three texts: the count with its tab, what is shown of the answer, and a line feed
in_three : (held count text : Text) → held ++ ((count ++ 9 ∷ text) ++ feed) ≡ held ++ ((count ++ 9 ∷ []) ++ (text ++ feed))
in_three held count text = simp append_assoc

module _ (held digits text : Text) (n : ℕ) (is : digits ≡ decimal n) where
  abbrev line : Text
  line = held ++ ((six_columns n ++ 9 ∷ text) ++ feed)

  begun : (a : Option Text) → IsUnderway line a a (held ++ (tabbed digits ++ (text ++ feed)))
  begun a =
      let same : held ++ (tabbed digits ++ (text ++ feed)) ≡ line = sym (in_three held (drop (length digits) (codes "      ") ++ digits) text)
      ∙ ap (λ d. held ++ (((drop (length d) (codes "      ") ++ d) ++ 9 ∷ text) ++ feed)) is in
      subst (λ t. IsUnderway t a a (held ++ (tabbed digits ++ (text ++ feed)))) same underway-none

  counted : {a b : Option Text} {later : Text} → IsUnderway (held ++ tabbed digits) a b later → IsUnderway line a b (later ++ (text ++ feed))
  counted {a} = text-printed held (tabbed digits) (text ++ feed) (begun a)

  said : {a b c : Option Text} {next later : Text} → IsUnderway (held ++ tabbed digits) a b next → IsUnderway (next ++ text) b c later → IsUnderway line a c (later ++ feed)
  said {next = next} first = text-printed next text feed (counted first)

  ended : {a b c d : Option Text} {next later last : Text} → IsUnderway (held ++ tabbed digits) a b next → IsUnderway (next ++ text) b c later → IsUnderway (later ++ feed) c d last → IsUnderway line a d last
  ended {a} {d = d} {later = later} {last} first second third = subst (IsUnderway line a d) (append-nil last) (text-printed later feed [] (said first second) third)

pub returns-in_err-print_pieces-clause-err : goal.returns-in_err-print_pieces-clause-err
returns-in_err-print_pieces-clause-err g c =
    let held = c.args.printer.now in
    let text = shown (printed c.args.answer.now.0) in
    let digits = c.args.digits.now in
    on_err c.from_residual.result _ (text-broken _ held (tabbed digits) (text ++ feed)
    (begun held digits text c.args.answer.now.1.count c.requires (g.W.Write.contents c.args.output.now))
    (rw c.count_parts.ensures at c.in_err-print_pieces.ensures.err))

pub returns-in_err-print_shown_pieces-clause-err : goal.returns-in_err-print_shown_pieces-clause-err
returns-in_err-print_shown_pieces-clause-err g c =
    let text = shown (printed c.args.answer.now.0) in
    on_err c.from_residual-in_err-print_shown_pieces.result _ (text-broken _ c.print_pieces.new.printer text feed
    (counted c.args.printer.now c.args.digits.now text c.args.answer.now.1.count c.requires (rw c.count_parts.ensures at c.in_ok-print_pieces.ensures.ok))
    (rw c.parts.ensures.shown at c.in_err-print_shown_pieces.ensures.err))

pub returns-clause-ok : goal.returns-clause-ok
returns-clause-ok g c =
    let text = shown (printed c.args.answer.now.0) in
    on_ok_weaker c.print.result (ended c.args.printer.now c.args.digits.now text c.args.answer.now.1.count c.requires
    (rw c.count_parts.ensures at c.in_ok-print_pieces.ensures.ok) (rw c.parts.ensures.shown at c.in_ok-print_shown_pieces.ensures.ok)) c.print.ensures.ok

pub returns-clause-err : goal.returns-clause-err
returns-clause-err g c =
    let text = shown (printed c.args.answer.now.0) in
    let before = said c.args.printer.now c.args.digits.now text c.args.answer.now.1.count c.requires
    (rw c.count_parts.ensures at c.in_ok-print_pieces.ensures.ok) (rw c.parts.ensures.shown at c.in_ok-print_shown_pieces.ensures.ok) in
    on_err_weaker c.print.result (λ broken. text-broken _ c.print_shown_pieces.new.printer feed [] before broken) c.print.ensures.err
