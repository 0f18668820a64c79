use Rattle.std.proofs.Common.{rules, ◌≡◌, ◌∙◌, ◌||◌, [], Err, ap, append-nil, false, inl, inr, refl, take, true}
use Rattle.std.proofs.KnownBytes.{Consumes-kept, Consumes-nil, Consumes-trans}
use Rattle.std.proofs.lemmas.List.Folds.{list_any-append}
use Rattle.command_line.specs.GitLog.{has_feed}
use Rattle.command_line.proofs.GitLog.{no_feed}
use Rattle.command_line.proofs.start.read_first_line.Goals as goal

pub loop-init : goal.loop-init
loop-init g c = rw c.new-start.ensures.items (Consumes-nil (g.R.Read.remaining c.args.input.now), refl)

pub returns-in_err-count-clause-breaks_off : goal.returns-in_err-count-clause-breaks_off
returns-in_err-count-clause-breaks_off g c =
    let failed : c.from_residual.result ≡ Err c.in_err-count.field-0.0 = search rules in
    rw failed (λ of. (
      c.loop.start.items,
      Consumes-kept (g.R.Read.remaining c.args.input.now) (g.R.Read.remaining c.loop.input) (g.R.Read.remaining c.read_part.new.reader) c.loop.start.items c.loop.invariant.0 c.in_err-count.ensures.err,
      no_feed c.loop.start.items c.loop.invariant.1,
    ))

pub returns-then-count-eq0-clause-reads : goal.returns-then-count-eq0-clause-reads
returns-then-count-eq0-clause-reads g c =
    rw (append-nil c.loop.start.items) at (Consumes-trans (g.R.Read.remaining c.args.input.now) (g.R.Read.remaining c.loop.input) (g.R.Read.remaining c.read_part.new.reader) c.loop.start.items [] c.loop.invariant.0
    (rw c.if-count-eq0.true at c.in_ok-count.ensures.part))

pub returns-then-count-eq0-clause-whole : goal.returns-then-count-eq0-clause-whole
returns-then-count-eq0-clause-whole g c = inr (c.in_ok-count.ensures.end c.if-count-eq0.true (search rules))

pub returns-then-contains-clause-reads : goal.returns-then-contains-clause-reads
returns-then-contains-clause-reads g c = rw c.in_ok-extend_from_slice.ensures.items
    (Consumes-trans (g.R.Read.remaining c.args.input.now) (g.R.Read.remaining c.loop.input) (g.R.Read.remaining c.read_part.new.reader) c.loop.start.items (take c.in_ok-count.count c.read_part.new.buffer) c.loop.invariant.0 c.in_ok-count.ensures.part)

pub returns-then-contains-clause-whole : goal.returns-then-contains-clause-whole
returns-then-contains-clause-whole g c =
    let part = take c.in_ok-count.count c.read_part.new.buffer in
    let has : has_feed part ≡ true = search rules in
    inl (ap has_feed c.in_ok-extend_from_slice.ensures.items ∙ list_any-append _ c.loop.start.items part
    ∙ ap (λ b. b || has_feed part) c.loop.invariant.1 ∙ has)

pub loop-preserved : goal.loop-preserved
loop-preserved g c =
    let part = take c.in_ok-count.count c.read_part.new.buffer in
    let none : has_feed part ≡ false = search rules in (
      rw c.in_ok-extend_from_slice.ensures.items
          (Consumes-trans (g.R.Read.remaining c.args.input.now) (g.R.Read.remaining c.loop.input) (g.R.Read.remaining c.read_part.new.reader) c.loop.start.items part c.loop.invariant.0 c.in_ok-count.ensures.part),
      ap has_feed c.in_ok-extend_from_slice.ensures.items ∙ list_any-append _ c.loop.start.items part
          ∙ ap (λ b. b || has_feed part) c.loop.invariant.1 ∙ none,
    )

pub returns-clause-breaks_off : goal.returns-clause-breaks_off
returns-clause-breaks_off g c = λ of. (c.loop.start.items, c.loop.invariant.0, no_feed c.loop.start.items c.loop.invariant.1)
