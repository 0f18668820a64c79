use Rattle.mailmap_names.proofs.WordLemmas.{begins_with_via-five}
use Rattle.mailmap_names.proofs.words.begins_with_via.Goals as goal

pub returns-in-len5-up : goal.returns-in-len5-up
returns-in-len5-up c =
    begins_with_via-five _ _ _ _ _ _ _ _ c.args.text.now c.in-len5-up.len_at_least
    c.before-item.is c.v-item.is c.i-item.is c.a-item.is c.after-item.is
    c.to_ascii_lowercase.ensures.value c.to_ascii_lowercase-in-len5-up.ensures.value
    c.to_ascii_lowercase-in-len5-up-2.ensures.value
