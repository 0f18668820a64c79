-- The words so far, with the remarks that are left, are all of them.
use Rattle.std.proofs.Common.{◌≡◌, map}
use Rattle.mailmap_report.specs.Report.{remark_notice}
use Rattle.gix_mailmap_c.specs.Notices.{with_notices, words_of}
use Rattle.gix_mailmap_c.proofs.notices.push_remarks.Given as goal

abbrev pub invariant-loop-remark : goal.invariant-loop-remark
invariant-loop-remark l =
    with_notices (words_of l.words) (map (remark_notice (map (λ name. name.items) l.names)) l.remark-iterator)
    ≡ with_notices (words_of l.fn.words) (map (remark_notice (map (λ name. name.items) l.names)) l.fn.remarks)
