-- Findings in mailmaps and contacts in words.
use Rattle.std.specs.Prelude.{◌≡◌, ◌++◌, ◌⊎◌, ◌∷◌, ℕ, List, [], Option, None, Some, length, map, unwrap_or}
use Rattle.mailmap_entries.specs.Folding.{Text}
use Rattle.mailmap_findings.specs.Findings.{AreFindings, Finding}
use Rattle.mailmap_findings.specs.Positions.{whole_lines}
use Rattle.mailmap_findings.specs.Remarks.{AreRemarks, Remark}
use Rattle.mailmap_report.specs.Json.{FileLine, Named, Notice, no_name}
use Rattle.mailmap_report.specs.Kinds.{kind_level, kind_name, level_name}
use Rattle.mailmap_report.specs.Report.{contact_notice, finding_notice, remark_notice}
use Rattle.mailmap_suggestions.specs.ContactFindings.{AreContactFindings, ContactFinding}
use Rattle.gix_mailmap_c.specs.Buffers.{ArePut, IsOutOfMemory}
use Rattle.gix_mailmap_c.specs.declared.notices.Mention.{Mention}
use Rattle.gix_mailmap_c.specs.declared.notices.Noticed.{Noticed}
use Rattle.gix_mailmap_c.specs.declared.notices.Words as declared
use Rattle.gix_mailmap_c.specs.declared.parsing.Place.{Place}

abbrev pub other_file : Option FileLine → Text
other_file None = []
other_file (Some other) = other.file

abbrev pub other_line : Option FileLine → ℕ
other_line None = 0
other_line (Some other) = other.line

-- the place of a text that begins at this offset
abbrev pub placed : ℕ → Text → Place
placed start text = record { start = start; len = length text }

-- a buffer of texts with a name, and with a name and an email
abbrev pub with_name : Text → Named → Text
with_name texts n = texts ++ unwrap_or n.name []

abbrev pub with_both : Text → Named → Text
with_both texts n = with_name texts n ++ unwrap_or n.email []

-- the places that they have there
abbrev pub mention : Text → Named → Mention
mention texts n = record {
  name = placed (length texts) (unwrap_or n.name []);
  email = placed (length (with_name texts n)) (unwrap_or n.email []);
  count = unwrap_or n.count 0;
}

-- findings in words, and the buffer of their texts
pub record Words : Type 0 where
  pub listed : List Noticed
  pub texts : Text

-- the specification's view of words
abbrev pub words_of : declared.Words → Words
words_of w = record { listed = w.listed.items; texts = w.texts.items }

abbrev pub no_words : Words
no_words = record { listed = []; texts = [] }

-- a buffer of texts with one more
abbrev pub with_file : Text → Notice → Text
with_file texts n = texts ++ n.place.file

abbrev pub with_level : Text → Notice → Text
with_level texts n = with_file texts n ++ level_name (kind_level n.kind)

abbrev pub with_kind : Text → Notice → Text
with_kind texts n = with_level texts n ++ kind_name n.kind

abbrev pub with_message : Text → Notice → Text
with_message texts n = with_kind texts n ++ n.message

abbrev pub with_other : Text → Notice → Text
with_other texts n = with_message texts n ++ other_file n.other

abbrev pub with_named : Text → Notice → Text
with_named texts n = with_both (with_other texts n) n.named

-- one finding more: its texts follow those that are there
abbrev pub with_notice : Words → Notice → Words
with_notice w n = record {
  listed = w.listed ++ record {
    line = n.place.line;
    other_line = other_line n.other;
    file = placed (length w.texts) n.place.file;
    level = placed (length (with_file w.texts n)) (level_name (kind_level n.kind));
    kind = placed (length (with_level w.texts n)) (kind_name n.kind);
    message = placed (length (with_kind w.texts n)) n.message;
    other_file = placed (length (with_message w.texts n)) (other_file n.other);
    named = mention (with_other w.texts n) n.named;
    beside = mention (with_named w.texts n) (unwrap_or n.beside no_name);
  } ∷ [];
  texts = with_both (with_named w.texts n) (unwrap_or n.beside no_name);
}

abbrev pub with_notices : Words → List Notice → Words
with_notices w [] = w
with_notices w (n ∷ ns) = with_notices (with_notice w n) ns

-- each finding in the mailmaps, in order
pub record AreWordsOf (names mailmaps : List Text) (w : Words) : Type 0 where
  pub found : List Finding
  pub whole : AreFindings mailmaps found
  pub words : w ≡ with_notices no_words (map (finding_notice names) found)

-- each finding in the mailmaps and each line that no contact needs, in order, and after these each finding about the
-- contacts
pub record AreWordsBeside (names mailmaps : List Text) (file contacts : Text) (w : Words) : Type 0 where
  pub remarks : List Remark
  pub are_remarks : AreRemarks mailmaps contacts remarks
  pub found : List ContactFinding
  pub about : AreContactFindings mailmaps (whole_lines contacts) found
  pub words : w ≡ with_notices no_words (map (remark_notice names) remarks ++ map (contact_notice file) found)

-- the words are written if both parts fit, and these are the lengths that they need
pub record PutsWords (w : Words) (before after : List Noticed) (texts_before texts_after : Text)
    (needed texts_needed status : ℕ) : Type 0 where
  pub counted : needed ≡ length w.listed
  pub texts_counted : texts_needed ≡ length w.texts
  pub put : ArePut w.listed before after w.texts texts_before texts_after status

-- out of memory, and the buffers are unchanged
pub record NoWords (before after : List Noticed) (texts_before texts_after : Text) (needed texts_needed status : ℕ) : Type 0
  where
    pub listed : IsOutOfMemory before after needed status
    pub texts : IsOutOfMemory texts_before texts_after texts_needed status

-- words with the property P are written if they fit; or memory ran out
abbrev pub ArePutWords : (Words → Type 0) → List Noticed → List Noticed → Text → Text → ℕ → ℕ → ℕ → Type 0
ArePutWords P before after texts_before texts_after needed texts_needed status =
    ((w : Words) × P w × PutsWords w before after texts_before texts_after needed texts_needed status)
    ⊎ NoWords before after texts_before texts_after needed texts_needed status
