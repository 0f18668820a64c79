use Rattle.std.proofs.Common.{sym}
use Rattle.mailmap_entries.proofs.Alike.{same_normal, alike_answer, alike_back}
use Rattle.mailmap_entries.proofs.Building.{built_normal, normal_condensed}
use Rattle.mailmap_entries.proofs.Normal.{alike_normal, normal_self}
use Rattle.mailmap_entries.proofs.Reorder.{alike_reordered}
use Rattle.mailmap_entries.proofs.Unique.{no_shorter, normal_unique}
use Rattle.mailmap_entries.proofs.semantics.law_headline.Goals as goal

pub returns : goal.returns
returns c h n built =
    let d = built_normal h n built in
    let own = normal_self h n d in
    record {
      normal = d;
      rebuilds = (own, λ m is. normal_unique n m n is own);
      shortest = λ l is. no_shorter l n is;
      condensed = λ a b e m parts is. normal_condensed h n a b e m d parts is;
      reordered = λ g same. same_normal h g n (alike_reordered h g (λ email. sym (same email))) d;
      answers = λ name email. alike_answer n h name email (alike_back h n (alike_normal h n d));
    }
