use Rattle.mailmap_shortlog.proofs.shortlog.listed_answers.Goals as goal

pub returns : goal.returns
returns c =
    let listed = c.in_ok-listed.ensures in
    record {
      answers = c.in_ok-answers.answers.entries;
      tallied = c.in_ok-answers.ensures;
      once = listed.once;
      moved = listed.moved;
      in_order = listed.in_order;
    }
