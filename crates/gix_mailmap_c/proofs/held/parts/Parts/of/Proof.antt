-- `of` opens the box by std's function, and the parts own what this returns.
use Rattle.gix_mailmap_c.proofs.Steps.{◌≡◌, List, [], ◌∷◌, refl, sym, ap, ◌∙◌, inst_fn, bare, Val, vstruct, of_list, SProp, ent, id⊢, never, fst∗, ftrue, fsep, flft, ◌⊑◌, fact, tables, WpFn, sem, Item, ‵, raw, ◌⊛◌, some, later, ◌$◌, ◌∵◌, !, qed, move, drop, use1, join, split, split3, pick, rewrite, fsplit, fjoin, fpick, feq_l, suffices, await, done, whole, sub, agg, stop, fld, no_more, and_then, of_opd, returns, enter, alloc_all, pass_all, free_all, look_at, get, get_in, sets, lands_as, no, Ptr, RawPtr, block_ptr, null_ptr, ptr_val, in_a_block, plain, heard, nothing, only, calls_at, triple_of, says, Stays, stay_dropped, walk_of, ends_at, proved_at, fm, handle_tells, Goes-blank, box_owns, Bx, D, τ, R, P, B, word, box_typed, box_out, box_in}
use Rattle.std.proofs.Common.{◌++◌, subst}
use mir.Syntax.{Args, a_type, dcons, dnil}
use denote.Param.{bounded}
use denote.Struct.Tuple.{Tuple}
use Rattle.core.proofs.alloc.Calls.{token}
use Rattle.std_alloc.specs.contracts.boxed.Box.into_raw_with_allocator as opening
use Rattle.std_alloc.proofs.boxed.Box.into_raw_with_allocator.Met.{met}
use Rattle.gix_mailmap_c.specs.contracts.held.parts.Parts as parts
use Rattle.gix_mailmap_c.specs.contracts.held.parts.Parts.of as f
use Rattle.gix_mailmap_c.proofs.held.parts.Parts.of.Statement.{statement}
use Rattle.gix_mailmap_c.proofs.held.parts.Parts.of.Code as code

pub of_spec : {M : Type 1} → statement M
of_spec 𝓤 𝓛 𝓜 𝓡 wired T A LT LA g d dd dx allocator known glue =
    let 𝓣 = tables 𝓤 𝓛.H 𝓜 𝓡 𝓡.env in
    let E : Bx = record { row = T; laws = LT; al = record { row = A; laws = LA; g = g; d = d; drops = dd } } in
    let types : Args = bounded (a_type ∷ a_type ∷ []) (T, (A, tt)) (dcons d (dcons dd (dcons dx dnil))) in
    let fn = inst_fn types code.function in
    let ended = f.ended T A g d dd dx in let c = f.clauses T A g d dd dx 𝓛 𝓜.mem 𝓡.returns in
    let stays : Stays ended.signature.params ended.kept = (stay_dropped (plain (λ _. B E)) no, tt) in
    let Made = parts.the_row (R E) (P E) g in
    let call = triple_of 𝓛 (opening.signature T A g d dd dx) (opening.spec T A g d dd dx 𝓛 𝓜.mem 𝓡.returns) in
    proved_at 𝓛 ended stays c 𝓜 𝓡 (Goes-blank 𝓛 2 (plain (λ _. B E)) no (λ κs x w. tt), tt)
    (f.Key.name types) fn (code.unfolded 𝓤 𝓛.H 𝓜 𝓡 wired (T, (A, tt)) d dd dx) (λ y _.
    let κs = y.0.0 in let qs = y.0.1 in let given = y.0.3.0 in let heap = given.alloc in
    let Post : Val → SProp 𝓤 = (walk_of 𝓛 ended stays c).post y in
    let Run : List Val → SProp 𝓤 = λ ws. WpFn 𝓤 𝓛.H 𝓣.C 𝓣.Λ fn ws Post in
    let tokens : Item 𝓤 = ‵ (flft κs.0 qs.0) ⊛ ‵ (flft κs.1.0 qs.1.0) ⊛ ‵ ftrue in
    let outlived : Item 𝓤 = raw (fact 𝓤 (κs.0 ⊑ T.lives)) ⊛ raw (fact 𝓤 (κs.1.0 ⊑ A.lives)) ⊛ ‵ ftrue in
    qed 𝓛 ((tokens ⊛ ‵ (fsep ((B E).own_val given y.0.4.0) ftrue)) ∷ outlived ∷ []) ∵ split ! $ move ! (1 ∷ []) $ fsplit ! $
    box_out E ! given y.0.4.0 (λ b o at_heap e is fits. box_in E ! given b o given.value e refl $
    let whole_box = word E at_heap b o in
    let passed : call.Ghost = ((κs, qs, tt, (given, tt), (whole_box ∷ [], tt)), tt) in
    -- [the box; true; the tokens; what outlives them]
    fjoin ! $ move ! (1 ∷ 0 ∷ []) $ join ! $ join ! $ use1 𝓛 (raw (call.pre passed)) (id⊢ 𝓤 _) $
    suffices ! (Run (whole_box ∷ [])) (subst (λ (us : List Val). ent 𝓤 (Run (whole_box ∷ [])) (Run us)) (sym (λ j. is j ++ [])) (id⊢ 𝓤 (Run (whole_box ∷ [])))) $
    enter ! 𝓣.C 𝓣.Λ fn (whole_box ∷ []) Post $
    alloc_all ! (λ l. pass_all ! refl (box_typed E at_heap b o fits, tt) $ sets ! (of_opd ! (get ! refl)) refl (box_typed E at_heap b o fits) $
    calls_at ! (fm 𝓛 𝓜 𝓡) call (met 𝓤 𝓛 𝓜 𝓡 (code.calls-std_alloc::boxed::Box::into_raw_with_allocator 𝓡.env wired) T A LT LA g d dd dx allocator known glue) passed (and_then ! (get ! refl) (no_more !)) (λ u.
    use1 𝓛 (later (some (λ (r : Ptr × A.Denot). (tokens ⊛ ‵ ((Tuple (RawPtr ∷ P E ∷ [])).own_val r (u ∷ [])))
    ⊛ some (λ (_ : (Unit {0} × (Unit {0} × Unit {0})) × Unit {0}). ‵ (fsep (fsep ftrue (fsep ftrue ftrue)) ftrue) ⊛ (raw (fact 𝓤 (r.1 ≡ heap)) ⊛ ‵ (box_owns (token E.al heap) (R E) r.0 given.value)))))) (id⊢ 𝓤 _) $
    await ! tt $ pick ! (λ r. split ! $ move ! (1 ∷ []) $ pick ! (λ _. split3 ! $ drop ! $ heard ! (r.1 ≡ heap) (λ same.
    in_a_block ! r.0 (λ p. box_owns (token E.al heap) (R E) p given.value) (fst∗ 𝓤 (never 𝓤) (sem 𝓛 (token E.al heap (bare (τ E)) null_ptr))) (λ b' o' e'.
    move ! (1 ∷ []) $ split ! $ move ! (1 ∷ []) $ fpick ! (λ words. fsplit ! $ feq_l ! (λ pair. fsplit ! $ feq_l ! (λ first_word. fsplit ! $
    rewrite ! 0 (λ (s : A.Denot). ‵ (A.own_val s words.1.0)) same refl $ handle_tells E.al ! heap words.1.0 (λ back at_back back_fits.
    let typed = box_typed E back b' o' back_fits in
    let whole_again : D E = record { ptr = block_ptr b' o'; alloc = heap; value = given.value } in
    let made : Made.Denot = record { ptr = block_ptr b' o'; alloc = heap; value = given.value } in
    lands_as ! (ap only (pair ∙ (λ j. vstruct (of_list ((first_word ∙ ap (λ (p : Ptr). ptr_val p ∷ []) e') j ++ (at_back j ++ []))) ∷ []))) refl typed $
    sets ! (of_opd ! (get_in ! (fld ! refl (stop !)) (sub ! 0 refl (whole !)))) refl (tt, tt) $
    sets ! (of_opd ! (get_in ! (fld ! refl (stop !)) (sub ! 1 refl (whole !)))) refl back_fits $ sets ! (of_opd ! (get ! refl)) refl back_fits $
    sets ! (agg ! (and_then ! (get ! refl) (and_then ! (get ! refl) (no_more !)))) refl typed $ returns ! (look_at ! 0 refl) $ free_all ! refl $
    -- [the allocator; true; the tokens; the value with its token]
    move ! (3 ∷ []) $ fsplit ! $ box_in E ! whole_again b' o' given.value refl refl $ use1 𝓛 (‵ (Made.own_val made (word E back b' o' ∷ []))) (id⊢ 𝓤 _) $ move ! (1 ∷ []) $ drop ! $
    suffices ! _ (ends_at 𝓛 ended stays c y (word E back b' o') made ((tt, (tt, tt)), tt) (tt, tt)) $ says ! refl $
    nothing ! $ nothing ! $ fjoin ! $ join ! $ move ! (1 ∷ 0 ∷ []) $ join ! $ done !))))))))))))
