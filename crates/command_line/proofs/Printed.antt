-- Buffered output: written, held, or cut off by an error.
use Rattle.std.proofs.Common.{◌≡◌, ◌+◌, ◌++◌, ◌∷◌, ◌∙◌, [], ℕ, List, Option, ap, append-nil, append_assoc, arith, flat_map, length, min, refl, subst, sym, take}
use Rattle.std.specs.Io.KnownBytes.{Appends}
use Rattle.std.proofs.KnownBytes.{Appends-nil, Appends-trans}
use Rattle.std.proofs.Math.Seq.{take-append-add}
use Rattle.std.proofs.lemmas.List.{take-append-le, take_min}
use Rattle.command_line.specs.Printing.{IsUnderway}

-- a prefix of a text is a prefix of a longer one
pub Appends-longer : (a b : Option (List ℕ)) (n : ℕ) (x y : List ℕ) → Appends a b (take n x) → (count : ℕ) × Appends a b (take count (x ++ y))
Appends-longer a b n x y h =
    let count = min n (length x) in
    (count, subst (Appends a b) (sym (take-append-le count x y (omega arith) ∙ take_min n x)) h)

-- a text followed by a prefix of another is a prefix of both
pub Appends-both : (a b c : Option (List ℕ)) (x y : List ℕ) (n : ℕ) → Appends a b x → Appends b c (take n y) → (count : ℕ) × Appends a c (take count (x ++ y))
Appends-both a b c x y n all part = (length x + n, subst (Appends a c) (sym (take-append-add x y n)) (Appends-trans a b c x (take n y) all part))

-- ---- a text of which a part is written and a part is held, while the rest is left to be printed

-- before the first piece
pub underway-none : {a : Option (List ℕ)} {text : List ℕ} → IsUnderway text a a text
underway-none {a} = record { written = []; appended = Appends-nil a; whole = refl }

-- a write fails, of a text that is held before what is left
pub underway-broken : {a b : Option (List ℕ)} (c : Option (List ℕ)) {text : List ℕ} (next left : List ℕ) → IsUnderway text a b (next ++ left) → (n : ℕ) × Appends b c (take n next) → (count : ℕ) × Appends a c (take count text)
underway-broken {a} {b} c next left h (n, part) =
    let longer = Appends-longer b c n next left part in
    let both = Appends-both a b c h.written (next ++ left) longer.0 h.appended longer.1 in
    (both.0, subst (λ t. Appends a c (take both.0 t)) (sym h.whole) both.1)

-- flushing writes the rest
pub underway-whole : {a b : Option (List ℕ)} (c : Option (List ℕ)) {text held : List ℕ} → IsUnderway text a b held → Appends b c held → Appends a c text
underway-whole {a} {b} c {held = held} h rest = subst (Appends a c) (sym h.whole) (Appends-trans a b c h.written held h.appended rest)

-- one more text is printed
pub text-printed : {a b c : Option (List ℕ)} {text later : List ℕ} (held x rest : List ℕ) → IsUnderway text a b (held ++ (x ++ rest)) → IsUnderway (held ++ x) b c later → IsUnderway text a c (later ++ rest)
text-printed {a} {b} {c} {later = later} held x rest before more = record {
  written = before.written ++ more.written;
  appended = Appends-trans a b c before.written more.written before.appended more.appended;
  whole = cc (before.whole, more.whole, append_assoc held x rest, append_assoc more.written later rest, append_assoc before.written more.written (later ++ rest));
}

-- a write fails while it is printed
pub text-broken : {a b : Option (List ℕ)} (c : Option (List ℕ)) {text : List ℕ} (held x rest : List ℕ) → IsUnderway text a b (held ++ (x ++ rest)) → (n : ℕ) × Appends b c (take n (held ++ x)) → (count : ℕ) × Appends a c (take count text)
text-broken c held x rest before part = underway-broken c (held ++ x) rest (rw (← append_assoc) at before) part

-- ---- the texts of items, one after another

-- one more item is printed
pub item-printed : {X : Type 0} (f : X → List ℕ) {xs rest : List X} {x : X} {a b c : Option (List ℕ)} {text later : List ℕ} (held : List ℕ) → xs ≡ x ∷ rest → IsUnderway text a b (held ++ flat_map f xs) → IsUnderway (held ++ f x) b c later
    → IsUnderway text a c (later ++ flat_map f rest)
item-printed f {rest = rest} {x} held is before more = text-printed held (f x) (flat_map f rest) (rw is at before) more

-- a write fails while it is printed
pub item-broken : {X : Type 0} (f : X → List ℕ) {xs rest : List X} {x : X} {a b : Option (List ℕ)} (c : Option (List ℕ)) {text : List ℕ} (held : List ℕ) → xs ≡ x ∷ rest → IsUnderway text a b (held ++ flat_map f xs)
    → (n : ℕ) × Appends b c (take n (held ++ f x)) → (count : ℕ) × Appends a c (take count text)
item-broken f {rest = rest} {x} c held is before part = text-broken c held (f x) (flat_map f rest) (rw is at before) part

-- no item is left
pub items-printed : {X : Type 0} (f : X → List ℕ) {xs : List X} {a b : Option (List ℕ)} {text : List ℕ} (held : List ℕ) → xs ≡ [] → IsUnderway text a b (held ++ flat_map f xs) → IsUnderway text a b held
items-printed f held none h = rw (none, append-nil) at h
