-- How a run over contacts can fail, and that contacts in git log's own format do.
use Rattle.std.proofs.Common.{◌≡◌, ◌⊎◌, ◌∙◌, ⊎_elim, ◌&&◌, List, Option, Bool, ap, false, inl, refl, subst, sym, true}
use Rattle.mailmap_entries.specs.Folding.{Text}
use Rattle.command_line.specs.declared.failure.Failure.TheVariants.{File, GitLog, Input, Memory, Output}
use Rattle.command_line.specs.Failures.{IsOfInput}
use Rattle.command_line.specs.Files.{AtPath, Bytes, Fails, Opens, Unknown}
use Rattle.command_line.specs.declared.failure.Failure.{Failure}
use Rattle.verify_command.specs.Arguments.{is_dash, reads_contacts, takes_contacts}
use Rattle.verify_command.specs.Task.{AreLog, AreMailmaps, EndsPrinting, FailsFor, FailsForContacts, FailsToExplain, HasLog, IsLog, IsLogIn, Wanted}
use Rattle.verify_command.specs.InPlace.{FailsInPlace}
use Rattle.verify_command.specs.declared.asked.Mode.{Mode}
use Rattle.verify_command.specs.declared.asked.Mode.TheVariants.{Help, Version, Verify, Prune, PruneInPlace, Explain, Contacts, Suggest}
use Rattle.verify_command.specs.declared.failure.TaskFailure.{TaskFailure}
use Rattle.verify_command.specs.declared.failure.TaskFailure.TheVariants.{Run, Contacts as NoContacts, TooManyFiles, ReadOtherwise, Unreplaced}

-- what is known of the contacts is known before the mailmaps are read
pub log_before : (mode : Mode) (at : Text → AtPath) (contacts : Text) (input between : Option Text) (is_log : Bool)
    → takes_contacts mode ≡ true → (is_dash contacts ≡ true → between ≡ input)
    → AreLog at contacts between is_log → HasLog mode at contacts input is_log
log_before Contacts at contacts input between is_log takes same known =
    ((λ dash. subst (λ i. IsLog i is_log) (same dash) (known.0 dash)), known.1)
log_before Suggest at contacts input between is_log takes same known =
    ((λ dash. subst (λ i. IsLog i is_log) (same dash) (known.0 dash)), known.1)
log_before Help at contacts input between is_log takes same known = cc
log_before Version at contacts input between is_log takes same known = cc
log_before Verify at contacts input between is_log takes same known = cc
log_before Prune at contacts input between is_log takes same known = cc
log_before PruneInPlace at contacts input between is_log takes same known = cc
log_before Explain at contacts input between is_log takes same known = cc

-- other modes have no contacts
pub no_log : (mode : Mode) (at : Text → AtPath) (contacts : Text) (input : Option Text) → takes_contacts mode ≡ false
    → ¬ (mode ≡ Explain) → HasLog mode at contacts input false
no_log Explain at contacts input takes other = absurd (other refl)
no_log Contacts at contacts input takes other = cc
no_log Suggest at contacts input takes other = cc
no_log Help at contacts input takes other = refl
no_log Version at contacts input takes other = refl
no_log Verify at contacts input takes other = refl
no_log Prune at contacts input takes other = refl
no_log PruneInPlace at contacts input takes other = refl

reads_dash : (mode : Mode) (contacts : Text) → takes_contacts mode ≡ true → is_dash contacts ≡ true
    → reads_contacts mode contacts ≡ true
reads_dash Contacts contacts takes dash = dash
reads_dash Suggest contacts takes dash = dash
reads_dash Help contacts takes dash = cc
reads_dash Version contacts takes dash = cc
reads_dash Verify contacts takes dash = cc
reads_dash Prune contacts takes dash = cc
reads_dash PruneInPlace contacts takes dash = cc
reads_dash Explain contacts takes dash = cc

-- reading contacts fails, or what follows
pub contacts_failed : (at : Text → AtPath) (input between : Option Text) (w : Wanted) (mailmaps : List Text)
    (e : TaskFailure) → takes_contacts w.mode ≡ true → AreMailmaps at input w mailmaps
    → (is_dash w.contacts ≡ true → between ≡ input)
    → EndsPrinting e ⊎ FailsForContacts at w.contacts between e → FailsFor at input w e
contacts_failed at input between w mailmaps (Run (File number cause)) takes are same fails = absurd (⊎_elim (λ x. x) (λ x. x) fails)
contacts_failed at input between w mailmaps (Run (Input cause)) takes are same fails =
    ⊎_elim (λ x. absurd x) (λ dash. inl (reads_dash w.mode w.contacts takes dash)) fails
contacts_failed at input between w mailmaps (Run GitLog) takes are same fails =
    ⊎_elim (λ x. absurd x) (λ known. log_before w.mode at w.contacts input between true takes same known) fails
contacts_failed at input between w mailmaps (Run Memory) takes are same fails = tt
contacts_failed at input between w mailmaps (Run Output) takes are same fails = tt
contacts_failed at input between w mailmaps TooManyFiles takes are same fails = absurd (⊎_elim (λ x. x) (λ x. x) fails)
contacts_failed at input between w mailmaps (NoContacts cause) takes are same fails =
    ⊎_elim (λ x. absurd x) (λ f. (mailmaps, are, takes, f)) fails
contacts_failed at input between w mailmaps (ReadOtherwise position) takes are same fails = absurd (⊎_elim (λ x. x) (λ x. x) fails)
contacts_failed at input between w mailmaps (Unreplaced index cause) takes are same fails = absurd (⊎_elim (λ x. x) (λ x. x) fails)

log_explained : (mode : Mode) (at : Text → AtPath) (contacts : Text) (input : Option Text) (is_log : Bool) → mode ≡ Explain
    → IsLog input is_log → HasLog mode at contacts input is_log
log_explained Explain at contacts input is_log is known = known
log_explained Help at contacts input is_log is known = cc
log_explained Version at contacts input is_log is known = cc
log_explained Verify at contacts input is_log is known = cc
log_explained Prune at contacts input is_log is known = cc
log_explained PruneInPlace at contacts input is_log is known = cc
log_explained Contacts at contacts input is_log is known = cc
log_explained Suggest at contacts input is_log is known = cc

-- the contacts on the input are explained
pub explained_before : (mode : Mode) (at : Text → AtPath) (contacts : Text) (input between : Option Text) (is_log : Bool)
    → mode ≡ Explain → between ≡ input → IsLog between is_log → HasLog mode at contacts input is_log
explained_before mode at contacts input between is_log is same known =
    log_explained mode at contacts input is_log is (subst (λ i. IsLog i is_log) same known)

reads_explained : (mode : Mode) (contacts : Text) → mode ≡ Explain → reads_contacts mode contacts ≡ true
reads_explained mode contacts is = ap (λ m. reads_contacts m contacts) is

pub explaining_fails : (at : Text → AtPath) (input between : Option Text) (w : Wanted) (e : TaskFailure)
    → w.mode ≡ Explain → between ≡ input → FailsToExplain between e → FailsFor at input w e
explaining_fails at input between w (Run (Input cause)) is same fails = inl (reads_explained w.mode w.contacts is)
explaining_fails at input between w (Run GitLog) is same fails = explained_before w.mode at w.contacts input between true is same fails
explaining_fails at input between w (Run Memory) is same fails = tt
explaining_fails at input between w (Run Output) is same fails = tt
explaining_fails at input between w (Run (File number cause)) is same fails = absurd fails
explaining_fails at input between w TooManyFiles is same fails = absurd fails
explaining_fails at input between w (NoContacts cause) is same fails = absurd fails
explaining_fails at input between w (ReadOtherwise position) is same fails = absurd fails
explaining_fails at input between w (Unreplaced index cause) is same fails = absurd fails

-- ---- the failures of pruning

pub in_place_fails : (at : Text → AtPath) (input : Option Text) (w : Wanted) (e : TaskFailure) → w.mode ≡ PruneInPlace
    → FailsInPlace at w.paths e → FailsFor at input w e
in_place_fails at input w (Run (File number cause)) is fails =
    ((λ _. fails), λ default. let no : false ≡ true = sym (ap (λ m. takes_contacts m && w.by_default) is) ∙ default in cc)
in_place_fails at input w (Run (Input cause)) is fails = absurd fails.1
in_place_fails at input w (Run GitLog) is fails = absurd fails.1
in_place_fails at input w (Run Memory) is fails = tt
in_place_fails at input w (Run Output) is fails = tt
in_place_fails at input w TooManyFiles is fails = absurd fails.1
in_place_fails at input w (NoContacts cause) is fails = absurd fails.1
in_place_fails at input w (ReadOtherwise position) is fails = inl (is, fails)
in_place_fails at input w (Unreplaced index cause) is fails = is

-- nothing is printed, so printing can't fail
pub not_of_output : (at : Text → AtPath) (paths : List Text) (e : TaskFailure) → FailsInPlace at paths e → ¬ (e ≡ Run Output)
not_of_output at paths e fails is = (subst (FailsInPlace at paths) is fails).1

-- ---- the failures of explaining

pub not_output : (e : Failure) → IsOfInput e ⊎ ((e ≡ Memory) ⊎ (e ≡ GitLog)) → ¬ (e ≡ Output)
not_output e only is = ⊎_elim (subst IsOfInput is) (⊎_elim (λ memory. cc) (λ log. cc)) only

pub start_fails : (input : Option Text) (e : Failure) → IsOfInput e ⊎ ((e ≡ Memory) ⊎ (e ≡ GitLog))
    → (e ≡ GitLog → IsLog input true) → FailsToExplain input (Run e)
start_fails input (Input cause) only log = tt
start_fails input GitLog only log = log refl
start_fails input Memory only log = tt
start_fails input Output only log = tt
start_fails input (File number cause) only log = absurd (⊎_elim (λ x. x) (⊎_elim (λ is. cc) (λ is. cc)) only)

pub answering_fails : (input : Option Text) (e : Failure) → IsOfInput e ⊎ ((e ≡ Memory) ⊎ (e ≡ Output))
    → FailsToExplain input (Run e)
answering_fails input (Input cause) only = tt
answering_fails input Memory only = tt
answering_fails input Output only = tt
answering_fails input GitLog only = absurd (⊎_elim (λ x. x) (⊎_elim (λ is. cc) (λ is. cc)) only)
answering_fails input (File number cause) only = absurd (⊎_elim (λ x. x) (⊎_elim (λ is. cc) (λ is. cc)) only)

-- ---- the failures of reading contacts

-- what is known of a reader is known of the file that it reads
pub opened_log : (held : AtPath) (left : Option Text) (is_log : Bool) → Opens held left → IsLog left is_log → IsLogIn held is_log
opened_log (Bytes bytes) left is_log opens known = subst (λ l. IsLog l is_log) opens known
opened_log (Fails cause) left is_log opens known = absurd opens
opened_log Unknown left is_log opens known = tt

pub file_log : (at : Text → AtPath) (contacts : Text) (input left : Option Text) (is_log : Bool) → is_dash contacts ≡ false
    → Opens (at contacts) left → IsLog left is_log → AreLog at contacts input is_log
file_log at contacts input left is_log none opens known =
    ((λ dash. absurd (let no : true ≡ false = sym dash ∙ none in cc)), λ _. opened_log (at contacts) left is_log opens known)

pub input_log : (at : Text → AtPath) (contacts : Text) (input : Option Text) (is_log : Bool) → is_dash contacts ≡ true
    → IsLog input is_log → AreLog at contacts input is_log
input_log at contacts input is_log dash known =
    ((λ _. known), λ none. absurd (let no : true ≡ false = sym dash ∙ none in cc))

pub input_failed : (at : Text → AtPath) (contacts : Text) (input : Option Text) (e : Failure) → is_dash contacts ≡ true
    → IsOfInput e ⊎ ((e ≡ Memory) ⊎ (e ≡ GitLog)) → (e ≡ GitLog → IsLog input true)
    → FailsForContacts at contacts input (Run e)
input_failed at contacts input (Input cause) dash only log = dash
input_failed at contacts input GitLog dash only log = input_log at contacts input true dash (log refl)
input_failed at contacts input Memory dash only log = tt
input_failed at contacts input Output dash only log = absurd (⊎_elim (λ x. x) (⊎_elim (λ is. cc) (λ is. cc)) only)
input_failed at contacts input (File number cause) dash only log = absurd (⊎_elim (λ x. x) (⊎_elim (λ is. cc) (λ is. cc)) only)
