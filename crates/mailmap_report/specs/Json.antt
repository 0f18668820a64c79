-- What is reported at a line, as JSON.
use Rattle.std.specs.Prelude.{◌++◌, ℕ, Bool, true, false, [], ◌∷◌, Option, Some, None, codes}
use Rattle.std.specs.Option.{option_copied, option_map}
use Rattle.std.specs.Str.{is_utf8}
use Rattle.bstr.specs.Text.{replaced_at}
use Rattle.memchr.specs.Find.{matches}
use Rattle.base64.specs.Engines.{standard}
use Rattle.base64.specs.GeneralPurpose.{encode_of}
use Rattle.serde_json.specs.Data.{Data, Members, member, no_members, number, object, put, string, unsigned}
use Rattle.serde_json.specs.Written.{compact_text}
use Rattle.mailmap_entries.specs.Folding.{Text}
use Rattle.mailmap_report.specs.Escapes.{escaped_json}
use Rattle.mailmap_report.specs.Kinds.{kind_level, kind_name, level_name}
use Rattle.mailmap_report.specs.declared.kinds.Kind.{Kind}
use Rattle.mailmap_report.specs.declared.notice.Named.{Named as TheNamed}
use Rattle.mailmap_report.specs.declared.notice.Notice.{Notice as the_notice}
use Rattle.mailmap_report.specs.declared.places.Place.{Place}

-- ---- notices

-- a line of a file
pub record FileLine : Type 0 where
  pub file : Text
  pub line : ℕ

abbrev pub file_line_of : Place → FileLine
file_line_of p = record { file = p.file.now; line = p.line }

-- what a message names: a name and an email, each if it is there, and how often they come
pub record Named : Type 0 where
  pub name : Option Text
  pub email : Option Text
  pub count : Option ℕ

abbrev pub no_name : Named
no_name = record { name = None; email = None; count = None }

-- the specification's view of what is named
abbrev pub named_of : TheNamed → Named
named_of n = record { name = option_copied n.name; email = option_copied n.email; count = n.count }

-- what is reported at a line; `other` is the other line that the message refers to, and `beside` what it names second
pub record Notice : Type 0 where
  pub kind : Kind
  pub place : FileLine
  pub message : Text
  pub other : Option FileLine
  pub named : Named
  pub beside : Option Named

-- the specification's view of a notice
abbrev pub notice_of : the_notice → Notice
notice_of n = record {
  kind = n.kind;
  place = file_line_of n.place;
  message = n.message.items;
  other = option_map file_line_of n.other;
  named = named_of n.named;
  beside = option_map named_of n.beside;
}

-- ---- objects

abbrev pub text_key : Bool → Text
text_key true = codes "text"
text_key false = codes "bytes"

abbrev pub text_in : Bool → Text → Text
text_in true text = text
text_in false text = encode_of standard text

-- A text that is not UTF-8 is in Base64, so nothing of it is lost.
abbrev pub text_data : Text → Data
text_data text = object (member (text_key (is_utf8 text)) (string (text_in (is_utf8 text) text)) no_members)

abbrev pub place_data : FileLine → Data
place_data l =
    object (member (codes "file") (text_data l.file) (member (codes "line") (number (unsigned l.line)) no_members))

-- the members of each notice, in the order of their keys
abbrev pub members : Notice → Members
members n = member (codes "file") (text_data n.place.file) (member (codes "kind") (string (kind_name n.kind))
    (member (codes "level") (string (level_name (kind_level n.kind))) (member (codes "line") (number (unsigned n.place.line))
    (member (codes "message") (text_data n.message) no_members))))

-- and the line that it refers to, if any
abbrev pub with_other : Option FileLine → Members → Members
with_other None ms = ms
with_other (Some other) ms = put (codes "at") (place_data other) ms

-- and a name or an email, if there is one
abbrev pub with_text : Text → Option Text → Members → Members
with_text key None ms = ms
with_text key (Some text) ms = put key (text_data text) ms

abbrev pub with_count : Option ℕ → Members → Members
with_count None ms = ms
with_count (Some count) ms = put (codes "count") (number (unsigned count)) ms

abbrev pub with_named : Named → Members → Members
with_named n ms = with_count n.count (with_text (codes "email") n.email (with_text (codes "name") n.name ms))

-- and what the message names second, if any
abbrev pub with_beside : Option Named → Members → Members
with_beside None ms = ms
with_beside (Some n) ms = put (codes "beside") (object (with_named n no_members)) ms

abbrev pub object_data : Notice → Data
object_data n = object (with_beside n.beside (with_named n.named (with_other n.other (members n))))

-- GitHub takes `##[` anywhere in a line for a command. Only strings in an object can hold it, and may have the number of
-- a character in place of it.
abbrev pub without_commands : Text → Text
without_commands text = replaced_at text 3 (codes "##" ++ 92 ∷ codes "u005b") 0 (matches text (codes "##[") 0)

abbrev pub object_line : Notice → Text
object_line n = escaped_json (without_commands (compact_text (object_data n))) ++ 10 ∷ []
