-- The lines of mailmaps that are behind an answer, and the lines that it needs.
use Rattle.std.specs.Prelude.{◌++◌, if◌then◌else◌, Option, Some, None, List, [], ◌∷◌, is_some, option_to_list}
use Rattle.std.specs.Option.{option_copied, option_map, option_or}
use Rattle.std.specs.Ordering.{match_ordering}
use Rattle.mailmap_entries.specs.Semantics.{Fields}
use Rattle.mailmap_redundancy.specs.Origins.{Origins}
use Rattle.mailmap_redundancy.specs.Redundancy.{LocatedMapping, position_cmp}
use Rattle.mailmap_redundancy.specs.declared.located.Position.{Position}
use Rattle.mailmap_findings.specs.declared.explain.Explanation.{Explanation}
use Rattle.mailmap_findings.specs.declared.explain.Needed.{Needed}

-- in the order of the lines; equal positions count once
abbrev pub in_order : Option Position → Option Position → List Position
in_order (Some a) (Some b) = match_ordering (position_cmp a b) (a ∷ b ∷ []) (a ∷ []) (b ∷ a ∷ [])
in_order a b = option_to_list (option_or a b)

abbrev pub position_of : Option LocatedMapping → Option Position
position_of o = option_map (λ x. x.position) o

-- the lines that an answer needs
abbrev pub needed_positions : Origins → List Position
needed_positions g = in_order (position_of g.name) (position_of (option_or g.email g.spelling))

-- the lines behind the answer's new fields: the one that spells the email only if the email changes
abbrev pub origin_positions : Origins → Fields → List Position
origin_positions g f =
    in_order (position_of g.name) (position_of (if is_some f.email then option_or g.email g.spelling else None))

-- the specification's view of a `Needed`
abbrev pub positions_of : Needed → List Position
positions_of n = option_to_list n.first ++ option_to_list n.second

abbrev pub explained : Explanation → Fields
explained e = record { name = option_copied e.name; email = option_copied e.email }

abbrev pub explained_by : Explanation → List Position
explained_by e = e.first ∷ option_to_list e.second
