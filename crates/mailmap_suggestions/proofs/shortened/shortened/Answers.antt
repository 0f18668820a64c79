use Rattle.std.proofs.Common.{arith}
use Rattle.mailmap_suggestions.proofs.Shortening.{whole}
use Rattle.mailmap_suggestions.proofs.shortened.shortened.Goals as goal

pub returns-then-text-le-LIMIT : goal.returns-then-text-le-LIMIT
returns-then-text-le-LIMIT c = whole 256 c.args.text.now (omega arith)
