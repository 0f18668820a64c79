-- Writing lists into a buffer, one after another.
use Rattle.std.proofs.Common.{◌≡◌, ℕ, ◌+◌, ◌<◌, List, [], ◌∷◌, ◌++◌, length, take, drop, refl, sym, ap, subst, ◌∙◌, append_assoc, append-nil, arith, length-append}
use Rattle.std.proofs.Math.ListN.{set}
use Rattle.std.proofs.lemmas.List.{take_more_set, drop-set-lt, drop-drop, take-append-drop}
use Rattle.gix_mailmap_c.specs.Listed.{IsAfter}

module _ {X : Type 0} where
  -- the part of `all` before `left` is at the front of the buffer, up to `end`; from there on the buffer is unchanged
  pub record Copied (left all : List X) (end : ℕ) (now old : List X) : Type 0 where
    pub until : end + length left ≡ length all
    pub front : take end now ++ left ≡ all
    pub rest : drop end now ≡ drop end old

  -- a list that is unchanged from one index on is unchanged from any later index on
  later : (n k e : ℕ) (xs ys : List X) → e ≡ n + k → drop n xs ≡ drop n ys → drop e xs ≡ drop e ys
  later n k e xs ys at same = rw at (sym (drop-drop k n xs) ∙ ap (drop k) same ∙ drop-drop k n ys)

  pub copied_more : (s left all : List X) (end next : ℕ) (now new old : List X) → Copied (s ++ left) all end now old → IsAfter s end now new next → Copied left all next new old
  copied_more s left all end next now new old c b = record {
    until = omega (arith, c.until, b.until, length-append s left);
    front = ap (λ l. l ++ left) b.front ∙ append_assoc (take end now) s left ∙ c.front;
    rest = b.rest ∙ later end (length s) next now old b.until c.rest;
  }

  pub copied_all : (all : List X) (end : ℕ) (now old : List X) → Copied [] all end now old → now ≡ all ++ drop (length all) old
  copied_all all end now old c =
      let whole : end ≡ length all = omega (arith, c.until) in
      sym (take-append-drop end now) ∙ ap (λ l. l ++ drop end now) (sym (append-nil (take end now)) ∙ c.front)
      ∙ ap (λ l. all ++ l) (c.rest ∙ ap (λ p. drop p old) whole)

  -- two lists, one after the other
  pub after_both : {s t a m b : List X} {start mid end : ℕ} → IsAfter s start a m mid → IsAfter t mid m b end → IsAfter (s ++ t) start a b end
  after_both {s = s} {t = t} {a = a} {m = m} {start = start} {mid = mid} {end = end} p q = record {
    until = omega (arith, p.until, q.until, length-append s t);
    front = q.front ∙ ap (λ l. l ++ t) p.front ∙ append_assoc (take start a) s t;
    rest = q.rest ∙ later mid (length t) end m a q.until p.rest;
  }

  -- one more element
  pub copied_next : {left rest all : List X} {x : X} {index : ℕ} {now old : List X} → left ≡ x ∷ rest → index < length now → Copied left all index now old → Copied rest all (index + 1) (set now index x) old
  copied_next {rest = rest} {all = all} {x = x} {index = index} {now = now} {old = old} is lt c =
      copied_more (x ∷ []) rest all index (index + 1) now (set now index x) old (subst (λ l. Copied l all index now old) is c)
      (record { until = refl; front = take_more_set now index x lt; rest = drop-set-lt (index + 1) now index x (omega arith) })
