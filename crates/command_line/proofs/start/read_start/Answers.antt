use Rattle.std.proofs.Common.{rules, ◌≡◌, false, true}
use Rattle.command_line.specs.GitLog.{is_commit_line, is_git_log}
use Rattle.command_line.proofs.GitLog.{line_of_all}
use Rattle.command_line.proofs.start.read_start.Goals as goal

pub returns-then-is_git_log-clause-git_log : goal.returns-then-is_git_log-clause-git_log
returns-then-is_git_log-clause-git_log g c = λ is.
    let start = c.in_ok-start.start.items in
    let is_log : is_git_log start ≡ true = search rules in
    line_of_all (λ line. is_commit_line line ≡ true) (g.R.Read.remaining c.args.input.now) (g.R.Read.remaining c.read_first_line.new.input) start c.in_ok-start.ensures.reads c.in_ok-start.ensures.whole is_log

pub returns-clause-contacts : goal.returns-clause-contacts
returns-clause-contacts g c =
    let start = c.in_ok-start.start.items in
    let is_log : is_git_log start ≡ false = search rules in
    line_of_all (λ line. is_commit_line line ≡ false) (g.R.Read.remaining c.args.input.now) (g.R.Read.remaining c.read_first_line.new.input) start c.in_ok-start.ensures.reads c.in_ok-start.ensures.whole is_log
