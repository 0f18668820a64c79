-- What a run has written, what it has read, and how it can fail.
use Rattle.std.proofs.Common.{◌≡◌, ◌⊎◌, ⊎_elim, Ok, Err, Bool, ◌&&◌, List, [], Option, Result, OnErr, ap, false, inl, inr, not, refl, subst, sym, true}
use Rattle.std.specs.Prelude.{IfErr, IfOk, IfSome}
use Rattle.std.proofs.lemmas.Result.{IfOk-weaker}
use Rattle.std.specs.Io.KnownBytes.{Appends, Consumes}
use Rattle.std.proofs.KnownBytes.{Appends-nil}
use Rattle.mailmap_entries.specs.Folding.{Text}
use Rattle.mailmap_grammar.specs.Lines.{HoldsNo}
use Rattle.verify_command.proofs.EachLine.{no_lines}
use Rattle.command_line.specs.Answering.{AnswersAll, AnswersAllRead, AnswersRead, LeavesLines}
use Rattle.command_line.specs.Failures.{IsOfFile, IsOfInput}
use Rattle.command_line.specs.declared.failure.Failure.{Failure}
use Rattle.command_line.specs.declared.failure.Failure.TheVariants.{File, GitLog, Input, Memory, Output}
use Rattle.command_line.specs.Files.{AreRead, AtPath}
use Rattle.command_line.specs.Printing.{AppendsFront, Prints}
use Rattle.command_line.specs.declared.outcome.Outcome.{Outcome}
use Rattle.command_line.specs.declared.outcome.Outcome.TheVariants.{Clean}
use Rattle.verify_command.specs.Arguments.{can_be_mailmap, has_none}
use Rattle.mailmap_report.specs.Explained.{AreGrounds, Grounds, each_line, explained_line}
use Rattle.mailmap_report.specs.Report.{Piece, text_of}
use Rattle.verify_command.specs.Task.{AreContacts, AreMailmaps, EndsPrinting, ExplainsBy, FailsToRead, FromContacts, IsKnown, Leaves, LeavesExplained}
use Rattle.verify_command.specs.InPlace.{PrunesFiles, Replaced}
use Rattle.verify_command.specs.Task.{LeavesFor, ReplacesFor, Says, Wanted, WithContacts, is_dash, outcome_of, reads_mailmap, takes_contacts}
use Rattle.verify_command.specs.declared.asked.Mode.{Mode}
use Rattle.verify_command.specs.declared.asked.Mode.TheVariants.{Help, Version, Verify, Prune, PruneInPlace, Explain, Contacts, Suggest}
use Rattle.verify_command.specs.declared.failure.TaskFailure.{TaskFailure}
use Rattle.verify_command.specs.declared.failure.TaskFailure.TheVariants.{Run, TooManyFiles}

-- ---- what is written

-- the text of the run is also one of another kind
pub leaves_weaker : {W : Type 0} {b : Bool} {P Q : Outcome → Text → Type 0} {contents : W → Option Text} {old new : W} {r : Result Outcome TaskFailure} → ((outcome : Outcome) (text : Text) → P outcome text → Q outcome text) → Leaves b P contents old new r → Leaves b Q contents old new r
leaves_weaker {r = r} f l = record {
  prints = IfOk-weaker r _ _ (λ o p. (p.0, f o p.0 p.1, p.2)) l.prints;
  breaks_off = λ is. let p = l.breaks_off is in (p.0, (p.1.0, f p.0 p.1.0 p.1.1, p.1.2));
  memory = λ is. ⊎_elim inl (λ p. inr (p.0, (p.1.0, (p.1.1.0, f p.1.0 p.1.1.0 p.1.1.1, p.1.1.2)))) (l.memory is);
  silent = l.silent;
}

-- standard input isn't the mailmap if it has the contacts
pub no_mailmap : (mode : Mode) (contacts : Text) (none : Bool) → takes_contacts mode ≡ true → is_dash contacts ≡ true → (can_be_mailmap mode contacts && none) ≡ false
no_mailmap Contacts contacts none takes dash = ap (λ d. not d && none) dash
no_mailmap Suggest contacts none takes dash = refl
no_mailmap _ contacts none takes dash = cc

-- what is made from mailmaps, and from the contacts that were read after these
pub left_with : {W : Type 0} {b : Bool} {contents : W → Option Text} {old new : W} {r : Result Outcome TaskFailure}
    (IsMade : List Text → Text → Outcome → Text → Type 0) (at : Text → AtPath) (input between : Option Text) (w : Wanted)
    (mailmaps : List Text) → takes_contacts w.mode ≡ true → (reads_mailmap w ≡ false → between ≡ input)
    → AreMailmaps at input w mailmaps → Leaves b (FromContacts (IsMade mailmaps) at w.contacts between) contents old new r
    → Leaves b (WithContacts IsMade at input w) contents old new r
left_with IsMade at input between w mailmaps takes unread are l =
    let none = no_mailmap w.mode w.contacts (has_none w.paths) takes in
    let known : (lines : Text) → AreContacts at w.contacts between lines → AreContacts at w.contacts input lines =
    λ lines read. ((λ dash. subst (λ i. IfSome i (λ bytes. lines ≡ bytes)) (unread (none dash)) (read.0 dash)), read.1) in
    leaves_weaker (λ o t made. (mailmaps, are, (made.0, known made.0 made.1, made.2))) l

-- ---- runs that write one text, or nothing

pub known_whole : {W : Type 0} {contents : W → Option Text} {old new : W} (b : Bool) (text : Text)
    → Appends (contents old) (contents new) text → Leaves b (IsKnown text) contents old new (Ok Clean)
known_whole b text all =
    record { prints = (text, (refl, refl), all); breaks_off = λ of. cc; memory = λ of. cc; silent = λ of. cc }

-- a failure before anything is written
pub left_silent : {W : Type 0} {b : Bool} {P : Outcome → Text → Type 0} {contents : W → Option Text} {old new : W}
    (e : Failure) → ¬ (e ≡ Output) → new ≡ old → Leaves b P contents old new (Err (Run e))
left_silent Output other same = absurd (other refl)
left_silent Memory other same =
    record { prints = tt; breaks_off = λ of. cc; memory = λ _. inl same; silent = λ _ _ _. same }
left_silent (File number cause) other same =
    record { prints = tt; breaks_off = λ of. cc; memory = λ of. cc; silent = λ _ _ _. same }
left_silent (Input cause) other same =
    record { prints = tt; breaks_off = λ of. cc; memory = λ of. cc; silent = λ _ _ _. same }
left_silent GitLog other same =
    record { prints = tt; breaks_off = λ of. cc; memory = λ of. cc; silent = λ _ _ _. same }

explained_silent : {W : Type 0} {contents : W → Option Text} {old new : W} (at : Text → AtPath) (paths : List Text)
    (unread left : Option Text) (e : Failure) → ¬ IsOfInput e → ¬ (e ≡ Output) → new ≡ old
    → LeavesExplained at paths unread left contents old new (Err (Run e))
explained_silent at paths unread left Output no_input other same = absurd (other refl)
explained_silent at paths unread left (Input cause) no_input other same = absurd (no_input tt)
explained_silent at paths unread left Memory no_input other same = record {
  prints = tt;
  breaks_off = λ of. cc;
  input_fails = λ cause of. cc;
  memory_fails = λ _. inl same;
  silent = λ of. same;
}
explained_silent at paths unread left GitLog no_input other same = record {
  prints = tt;
  breaks_off = λ of. cc;
  input_fails = λ cause of. cc;
  memory_fails = λ of. cc;
  silent = λ of. same;
}
explained_silent at paths unread left (File number cause) no_input other same = record {
  prints = tt;
  breaks_off = λ of. cc;
  input_fails = λ cause of. cc;
  memory_fails = λ of. cc;
  silent = λ of. same;
}

left_silent_for : {W : Type 0} (contents : W → Option Text) {old new : W} (mode : Mode) (at : Text → AtPath)
    (unread left : Option Text) (w : Wanted) (e : Failure) → (mode ≡ Explain → ¬ IsOfInput e) → ¬ (e ≡ Output)
    → new ≡ old → LeavesFor mode at unread left w contents old new (Err (Run e))
left_silent_for contents Explain at unread left w e no_input other same =
    explained_silent at w.paths unread left e (no_input refl) other same
left_silent_for contents Help at unread left w e no_input other same = left_silent e other same
left_silent_for contents Version at unread left w e no_input other same = left_silent e other same
left_silent_for contents Verify at unread left w e no_input other same = left_silent e other same
left_silent_for contents Prune at unread left w e no_input other same = left_silent e other same
left_silent_for contents PruneInPlace at unread left w e no_input other same = left_silent e other same
left_silent_for contents Contacts at unread left w e no_input other same = left_silent e other same
left_silent_for contents Suggest at unread left w e no_input other same = left_silent e other same

input_is_mailmap : (at : Text → AtPath) (w : Wanted) (e : Failure) → FailsToRead at w e → IsOfInput e → reads_mailmap w ≡ true
input_is_mailmap at w (Input cause) fails of = fails
input_is_mailmap at w (File number cause) fails of = absurd of
input_is_mailmap at w Memory fails of = absurd of
input_is_mailmap at w Output fails of = absurd of
input_is_mailmap at w GitLog fails of = absurd of

output_reads_nothing : (at : Text → AtPath) (w : Wanted) (e : Failure) → FailsToRead at w e → ¬ (e ≡ Output)
output_reads_nothing at w Output fails is = fails
output_reads_nothing at w (File number cause) fails is = cc
output_reads_nothing at w (Input cause) fails is = cc
output_reads_nothing at w Memory fails is = cc
output_reads_nothing at w GitLog fails is = cc

-- the mailmaps can't be read
pub unread_mailmaps : {W : Type 0} (contents : W → Option Text) {old new : W} (at : Text → AtPath)
    (unread left : Option Text) (w : Wanted) (e : Failure) → FailsToRead at w e → new ≡ old
    → LeavesFor w.mode at unread left w contents old new (Err (Run e))
unread_mailmaps contents at unread left w e fails same =
    let no_input : w.mode ≡ Explain → ¬ IsOfInput e = λ is of.
    let reads : false ≡ true = subst (λ m. (can_be_mailmap m w.contacts && has_none w.paths) ≡ true) is (input_is_mailmap at w e fails of) in cc in
    left_silent_for contents w.mode at unread left w e no_input (output_reads_nothing at w e fails) same

-- memory runs out before anything is written
pub no_memory : {W : Type 0} (contents : W → Option Text) {old new : W} (at : Text → AtPath)
    (unread left : Option Text) (w : Wanted) → new ≡ old
    → LeavesFor w.mode at unread left w contents old new (Err (Run Memory))
no_memory contents at unread left w same = left_silent_for contents w.mode at unread left w Memory (λ is of. of) (λ is. cc) same

-- several files are refused before anything is read
pub too_many_left : {W : Type 0} {b : Bool} {P : Outcome → Text → Type 0} {contents : W → Option Text} {old new : W}
    → new ≡ old → Leaves b P contents old new (Err TooManyFiles)
too_many_left same = record { prints = tt; breaks_off = λ of. cc; memory = λ of. cc; silent = λ _ _ _. same }

-- pruning in place prints nothing
pub nothing_left : {W : Type 0} {contents : W → Option Text} (old : W) (r : Result Outcome TaskFailure)
    → IfOk r (λ o. o ≡ Clean) → IfErr r (λ e. ¬ (e ≡ Run Output)) → Leaves false (IsKnown []) contents old old r
nothing_left {contents = contents} old (Ok o) clean fails = record {
  prints = ([], (refl, clean), Appends-nil (contents old));
  breaks_off = λ of. cc;
  memory = λ of. cc;
  silent = λ of. cc;
}
nothing_left old (Err e) clean fails =
    record {
      prints = tt;
      breaks_off = λ of. let same : e ≡ Run Output = cc in absurd (fails same);
      memory = λ _. inl refl;
      silent = λ _ _ _. refl;
    }

pub all_replaced : {D : Type 0} (has : D → List Replaced → Type 0) (old new : D) (r : Result Outcome TaskFailure) (mode : Mode)
    (at : Text → AtPath) (w : Wanted) → mode ≡ PruneInPlace → PrunesFiles has at w.paths old new r
    → ReplacesFor mode has at w old new r
all_replaced has old new r mode at w is prunes = subst (λ m. ReplacesFor m has at w old new r) (sym is) prunes

-- what is known of a mode
pub in_mode : {W : Type 0} (contents : W → Option Text) (old new : W) (r : Result Outcome TaskFailure)
    (at : Text → AtPath) (unread left : Option Text) (w : Wanted) {mode known : Mode} → mode ≡ known
    → LeavesFor known at unread left w contents old new r → LeavesFor mode at unread left w contents old new r
in_mode contents old new r at unread left w is l =
    subst (λ m. LeavesFor m at unread left w contents old new r) (sym is) l

-- the mode that is left
pub only_verify : (mode : Mode) → ¬ (mode ≡ Help) → ¬ (mode ≡ Version) → ¬ (mode ≡ Prune) → ¬ (mode ≡ PruneInPlace)
    → ¬ (mode ≡ Explain) → ¬ (mode ≡ Contacts) → ¬ (mode ≡ Suggest) → mode ≡ Verify
only_verify Verify help version prune in_place explain contacts suggest = refl
only_verify Help help version prune in_place explain contacts suggest = absurd (help refl)
only_verify Version help version prune in_place explain contacts suggest = absurd (version refl)
only_verify Prune help version prune in_place explain contacts suggest = absurd (prune refl)
only_verify PruneInPlace help version prune in_place explain contacts suggest = absurd (in_place refl)
only_verify Explain help version prune in_place explain contacts suggest = absurd (explain refl)
only_verify Contacts help version prune in_place explain contacts suggest = absurd (contacts refl)
only_verify Suggest help version prune in_place explain contacts suggest = absurd (suggest refl)

-- pieces were printed, or a prefix of their text
pub left_pieces : {W : Type 0} {contents : W → Option Text} {old new : W} (pieces : List Piece)
    (r : Result Outcome TaskFailure)
    → IfOk r (λ o. (o ≡ outcome_of pieces) × Appends (contents old) (contents new) (text_of pieces))
    → OnErr r (AppendsFront (contents old) (contents new) (text_of pieces)) → IfErr r EndsPrinting
    → Leaves true (λ o text. Says o text pieces) contents old new r
left_pieces pieces (Ok o) ok err only =
    record { prints = (_, (refl, ok.0), ok.1); breaks_off = λ of. cc; memory = λ of. cc; silent = λ of. cc }
left_pieces pieces (Err (Run Output)) ok err only = record {
  prints = tt;
  breaks_off = λ _. (_, (_, (refl, refl), err));
  memory = λ of. cc;
  silent = λ _ no. absurd (no refl);
}
left_pieces pieces (Err (Run Memory)) ok err only = record {
  prints = tt;
  breaks_off = λ of. cc;
  memory = λ _. inr (refl, (_, (_, (refl, refl), err)));
  silent = λ _ _ no. absurd (no refl);
}
left_pieces pieces (Err _) ok err only = absurd only

-- ---- what explaining has written

no_file : (e : Failure) → IsOfInput e ⊎ ((e ≡ Memory) ⊎ (e ≡ Output)) → IsOfFile e → ⊥
no_file (File number cause) only of = ⊎_elim (λ x. x) (⊎_elim (λ is. cc) (λ is. cc)) only
no_file _ only of = of

no_log : (e : Failure) → IsOfInput e ⊎ ((e ≡ Memory) ⊎ (e ≡ Output)) → Run e ≡ Run GitLog → ⊥
no_log e only is =
    let same : e ≡ GitLog = cc in
    ⊎_elim (subst IsOfInput same) (⊎_elim (λ memory. cc) (λ output. cc)) only

module _ (at : Text → AtPath) (paths mailmaps : List Text) (g : Grounds) (read : AreRead at paths mailmaps) (are : AreGrounds paths mailmaps g) where
  by : (IsText : (Text → Text) → Text → Type 0) (before after : Option Text)
      → Prints (IsText (each_line (explained_line g))) before after → Prints (ExplainsBy at paths IsText) before after
  by IsText before after p = (p.0, (mailmaps, read, (g, are, p.1)), p.2)

  -- all lines were explained
  pub explained : {W T : Type 0} (unread left : Option Text) (contents : W → Option Text) (old new : W) (x : T)
      → LeavesLines (each_line (explained_line g)) unread left (contents old) (contents new) (Ok x)
      → LeavesExplained at paths unread left contents old new (Ok Clean)
  explained unread left contents old new x l = record {
    prints = (by (λ answers. AnswersAll answers unread) (contents old) (contents new) l.prints, refl);
    breaks_off = λ is. cc;
    input_fails = λ cause is. cc;
    memory_fails = λ is. cc;
    silent = tt;
  }

  pub explaining_failed : {W T : Type 0} (unread left : Option Text) (contents : W → Option Text) (old new : W)
      (e : Failure) → IsOfInput e ⊎ ((e ≡ Memory) ⊎ (e ≡ Output))
      → LeavesLines {T = T} (each_line (explained_line g)) unread left (contents old) (contents new) (Err e)
      → LeavesExplained at paths unread left contents old new (Err (Run e))
  explaining_failed unread left contents old new e only l = record {
    prints = tt;
    breaks_off = λ is. let p = l.breaks_off cc in (p.0, (mailmaps, read, (g, are, p.1)), p.2);
    input_fails = λ cause is. let same : e ≡ Input cause = cc in
        by (λ answers. AnswersAllRead answers unread left) (contents old) (contents new)
        (l.input_fails (subst IsOfInput (sym same) tt));
    memory_fails = λ is. inr (by (λ answers. AnswersRead answers unread left) (contents old) (contents new)
        (l.memory_fails cc));
    silent = λ of. absurd (⊎_elim (no_file e only) (no_log e only) of);
  }

  -- reading fails before the first line has ended, memory runs out, or the contacts are git log's own format
  pub start_failed : {W : Type 0} (unread left : Option Text) (contents : W → Option Text) (old : W) (e : Failure)
      → (IsOfInput e → (bytes : Text) × Consumes unread left bytes × HoldsNo 10 bytes) → ¬ (e ≡ Output)
      → LeavesExplained at paths unread left contents old old (Err (Run e))
  start_failed unread left contents old e breaks other = record {
    prints = tt;
    breaks_off = λ is. let same : e ≡ Output = cc in absurd (other same);
    input_fails = λ cause is. let same : e ≡ Input cause = cc in
        let begun = breaks (subst IsOfInput (sym same) tt) in
        by (λ answers. AnswersAllRead answers unread left) (contents old) (contents old) (
          [],
          ([], begun.0, record { consumed = begun.1; ends = inl refl; no_feed = begun.2 }, no_lines (explained_line g)),
          Appends-nil (contents old),
        );
    memory_fails = λ is. inl refl;
    silent = λ of. refl;
  }
