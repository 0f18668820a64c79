use Rattle.std.proofs.Common.{◌∙◌, ap, map}
use Rattle.std.proofs.lemmas.Result.{IfOk-weaker}
use Rattle.mailmap_names.specs.Private.{ascii_runs}
use Rattle.mailmap_names.proofs.Ascii.{plain_runs}
use Rattle.mailmap_names.proofs.words.plain_ascii_words.Goals as goal

pub returns : goal.returns
returns c = λ plain.
    let runs = ap (map (λ run. run.now)) c.deref-2.ensures.value ∙ c.in_ok-ascii_runs.ensures ∙ ap ascii_runs (c.deref.ensures.value ∙ c.in_ok-lower.ensures.ok) in
    IfOk-weaker c.ascii_texts.result _ _ (λ _ found. found ∙ runs ∙ plain_runs c.args.text.now plain) c.ascii_texts.ensures
