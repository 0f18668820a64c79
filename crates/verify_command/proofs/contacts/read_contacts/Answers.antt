use Rattle.std.proofs.Common.{rules, ◌≡◌, false, true}
use Rattle.verify_command.specs.Task.{is_dash}
use Rattle.verify_command.proofs.Failing.{file_log}
use Rattle.verify_command.proofs.contacts.read_contacts.Goals as goal

pub returns-in-Ok-count_contacts-clause-refuses : goal.returns-in-Ok-count_contacts-clause-refuses
returns-in-Ok-count_contacts-clause-refuses g c =
    let contacts = c.args.request.now.contacts.items in
    let none : is_dash contacts ≡ false = search rules in
    file_log (g.F.FileSystem.at c.args.system.now) contacts (g.R.Read.remaining c.args.input.now) _ false none
    (rw c.as_slice-contacts.ensures.value at c.in-Ok.ensures.opened) c.in-Ok-count_contacts.ensures.contacts

pub returns-in-Err-GitLog-clause-fails : goal.returns-in-Err-GitLog-clause-fails
returns-in-Err-GitLog-clause-fails g c =
    let contacts = c.args.request.now.contacts.items in
    let none : is_dash contacts ≡ false = search rules in
    file_log (g.F.FileSystem.at c.args.system.now) contacts (g.R.Read.remaining c.args.input.now) _ true none
    (rw c.as_slice-contacts.ensures.value at c.in-Ok.ensures.opened) (c.in-Err-GitLog.ensures.git_log (search rules))
