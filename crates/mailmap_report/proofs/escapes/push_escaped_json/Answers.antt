use Rattle.std.proofs.Common.{◌≡◌, ◌<◌, ◌∙◌, ◌++◌, ℕ, List, [], ap, append-nil, append_assoc, arith, drop, length, sym, take}
use Rattle.std.proofs.lemmas.List.{nil_from_length}
use Rattle.bstr.specs.Utf8.{decoded}
use Rattle.bstr.proofs.lemmas.PieceLemmas.{piece-bounds, pieces-nil, pieces-step}
use Rattle.mailmap_report.specs.Escapes.{escaped_json, escaped_piece, escaped_pieces}
use Rattle.mailmap_report.proofs.escapes.push_escaped_json.Goals as goal

none_escaped : escaped_json [] ≡ []
none_escaped = ap (λ ps. escaped_pieces ps []) pieces-nil

-- piece by piece
step : (bs : List ℕ) → 0 < length bs
    → escaped_json bs ≡ escaped_piece (decoded bs).char (take (decoded bs).size bs) ++ escaped_json (drop (decoded bs).size bs)
step bs some = ap (λ ps. escaped_pieces ps bs) (pieces-step bs some)

pub split_at-requires : goal.split_at-requires
split_at-requires c =
    let bounds = piece-bounds c.loop-rest.rest.now c.in-len1-up.len_at_least in omega (arith, c.decode-char.ensures.size)

pub loop-rest-smaller : goal.loop-rest-smaller
loop-rest-smaller c =
    let bounds = piece-bounds c.loop-rest.rest.now c.in-len1-up.len_at_least in
    omega (arith, c.decode-char.ensures.size, c.split_at.ensures.back_len)

pub loop-rest-preserved : goal.loop-rest-preserved
loop-rest-preserved c =
    rw (c.in_ok-push_piece.ensures, c.split_at.ensures.front, c.split_at.ensures.back, append_assoc, c.decode-char.ensures.char, c.decode-char.ensures.size)
    (rw (step c.loop-rest.rest.now c.in-len1-up.len_at_least) at c.loop-rest.invariant)

pub returns : goal.returns
returns c =
    let line = c.loop-rest.line.items in
    let none = nil_from_length c.loop-rest.rest.now (omega (arith, c.in_default.len_below)) in
    sym (append-nil line) ∙ ap (λ t. line ++ t) (sym (ap escaped_json none ∙ none_escaped)) ∙ c.loop-rest.invariant
