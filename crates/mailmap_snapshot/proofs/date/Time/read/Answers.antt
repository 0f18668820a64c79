-- The text is split at its first space, which is the one before the offset.
use Rattle.std.proofs.Common.{arith, rules, w32, w64, FitsSigned}
use Rattle.std.proofs.lemmas.Int.{to_z-of_z}
use Rattle.std.proofs.lemmas.Str.Pattern.{split_parts}
use Rattle.mailmap_snapshot.proofs.Times.{Spells-no_space, Spells-cut}
use Rattle.mailmap_snapshot.proofs.date.Time.read.Goals as goal

pub returns-in_err-seconds : goal.returns-in_err-seconds
returns-in_err-seconds c =
    let parts = split_parts 32 c.args.text.now c.split_once.result c.split_once.ensures.cases (omega arith) in
    rw c.from_residual.ensures (Spells-no_space c.args.text.now (rw c.in_err-seconds.was at parts))

pub returns-in_err-read_seconds : goal.returns-in_err-read_seconds
returns-in_err-read_seconds c =
    let parts = split_parts 32 c.args.text.now c.split_once.result c.split_once.ensures.cases (omega arith) in
    rw c.from_residual-in_err-read_seconds.ensures (λ time s. c.in_err-read_seconds.ensures time.seconds (Spells-cut (rw c.in_ok-seconds.was at parts) time s).0)

pub returns-in_err-read_offset : goal.returns-in_err-read_offset
returns-in_err-read_offset c =
    let parts = split_parts 32 c.args.text.now c.split_once.result c.split_once.ensures.cases (omega arith) in
    rw c.from_residual-in_err-read_offset.ensures (λ time s. c.in_err-read_offset.ensures time.offset (Spells-cut (rw c.in_ok-seconds.was at parts) time s).1)

pub returns : goal.returns
returns c =
    let parts = split_parts 32 c.args.text.now c.split_once.result c.split_once.ensures.cases (omega arith) in
    let cut = rw c.in_ok-seconds.was at parts in
    let seconds = c.in_ok-read_seconds.ensures in
    let offset = c.in_ok-read_offset.ensures in
    let small : FitsSigned w32 c.in_ok-read_offset.field-0 = search rules in
    record {
      front = c.in_ok-seconds.seconds.now;
      back = c.in_ok-seconds.offset.now;
      whole = cut.0;
      seconds = rw (to_z-of_z w64 c.in_ok-read_seconds.field-0 seconds.fits) seconds;
      offset = rw (to_z-of_z w32 c.in_ok-read_offset.field-0 small) offset;
    }
