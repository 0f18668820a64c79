use Rattle.std.proofs.Common.{◌-◌, ◌+◌, ◌++◌, ◌∙◌, ℕ, List, Option, ap, arith, drop, length, length-drop, subst, sym, take}
use Rattle.std.proofs.Math.Seq.{take-add}
use Rattle.std.proofs.lemmas.List.{take_rest}
use Rattle.std.specs.Io.KnownBytes.{Appends}
use Rattle.std.proofs.KnownBytes.{Appends-kept, Appends-trans}
use Rattle.command_line.proofs.streams.write_unflushed.Goals as goal
use Rattle.command_line.proofs.streams.write_unflushed.Goals.{in-Ok, in-Err}

-- known bytes that grew by the beginning of the text, and then by the front of its rest, grew by the longer front
front_grows : (a b c : Option (List ℕ)) (text : List ℕ) (i n : ℕ) → Appends a b (take i text)
    → Appends b c (take n (take (length text - i) (drop i text))) → Appends a c (take (i + n) text)
front_grows a b c text i n before after =
    subst (Appends a c) (ap (λ l. take i text ++ take n l) (take_rest text i) ∙ sym (take-add i n text)) (Appends-trans a b c _ _ before after)

pub loop-preserved : goal.loop-preserved
loop-preserved g c =
    let text = c.args.text.now in
    let P : ℕ → Type 0 = λ n. Appends (g.W.Write.contents c.args.writer.now) (g.W.Write.contents c.write.new.self) (take n text) in
    elim c.match-write.branch [
      | in-Ok w ↦
          let more = front_grows _ _ _ text c.loop.written w.in-Ok.count c.loop.invariant.1 w.in-Ok.ensures.bytes in
          (omega (arith, w.in-Ok.ensures.bound, ap length (take_rest text c.loop.written), length-drop c.loop.written text), subst P (sym w.written-is) more)
      | in-Err w ↦ (omega arith, subst P (sym w.written-is) (Appends-kept _ _ _ _ c.loop.invariant.1 w.in-Err.ensures.bytes))
    ]
