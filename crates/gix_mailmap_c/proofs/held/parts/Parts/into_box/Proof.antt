-- `into_box` calls std's function, which requires what the parts own, and returns the box that this makes.
use Rattle.gix_mailmap_c.proofs.Steps.{◌≡◌, List, [], ◌∷◌, refl, sym, ap, inst_fn, Val, vptr, has_ty, SProp, ent, id⊢, ftrue, fsep, flft, ◌⊑◌, fact, tables, WpFn, Item, at_ret, ‵, raw, ◌⊛◌, some, later, ◌$◌, ◌∵◌, !, qed, move, drop, use1, join, split, split3, pick, rewrite, fsplit, fjoin, feq_i, suffices, await, done, whole, sub, stop, fld, no_more, and_then, of_opd, returns, enter, first, blocks, exec, alloc_all, pass_all, free_all, look_at, get, get_in, sets, env, no, block_ptr, plain, heard, nothing, only, triple_of, says, Stays, stay_dropped, walk_of, ends_at, proved_at, fm, Goes-blank, Bx, D, R, P, B, word, box_typed, box_out, box_in}
use Rattle.std.proofs.Common.{T, ◌++◌, subst}
use mir.Syntax.{Body, place, copy, assign, rv_opd, seq, return}
use mir.Val.{WT}
use types.ByLocal.{lands_last}
use denote.Triple.Call.{calls_at_last}
use Rattle.std_alloc.proofs.BoxSteps.Form.{args, box_ty}
use Rattle.std_alloc.specs.contracts.boxed.Box.from_raw as closing
use Rattle.std_alloc.proofs.boxed.Box.from_raw.Met.{met}
use Rattle.gix_mailmap_c.specs.contracts.held.parts.Parts as parts
use Rattle.gix_mailmap_c.specs.contracts.held.parts.Parts.into_box as f
use Rattle.gix_mailmap_c.proofs.held.parts.Parts.into_box.Statement.{statement}
use Rattle.gix_mailmap_c.proofs.held.parts.Parts.into_box.Code as code

-- what is left to run after the call
abbrev rest : Body
rest = seq (assign (place 0 []) (rv_opd (copy (place 4 [])))) return

pub into_box_spec : {M : Type 1} → statement M
into_box_spec 𝓤 𝓛 𝓜 𝓡 wired X A LX LA g d dd allocator known =
    let 𝓣 = tables 𝓤 𝓛.H 𝓜 𝓡 𝓡.env in
    let E : Bx = record { row = X; laws = LX; al = record { row = A; laws = LA; g = g; d = d; drops = dd } } in
    let fn = inst_fn (args E) code.function in
    let ended = f.ended X A g d dd in let c = f.clauses X A g d dd 𝓛 𝓜.mem 𝓡.returns in
    let Given = parts.the_row (R E) (P E) g in
    let stays : Stays ended.signature.params ended.kept = (stay_dropped (plain (λ _. Given)) no, tt) in
    let call = triple_of 𝓛 (closing.signature X A g d dd) (closing.spec X A g d dd 𝓛 𝓜.mem 𝓡.returns) in
    proved_at 𝓛 ended stays c 𝓜 𝓡 (Goes-blank 𝓛 2 (plain (λ _. Given)) no (λ κs x w. tt), tt)
    (f.Key.name (args E)) fn (code.unfolded 𝓤 𝓛.H 𝓜 𝓡 wired (X, (A, tt)) d dd) (λ y _.
    let κs = y.0.0 in let qs = y.0.1 in let heap = y.0.3.0.alloc in let value = y.0.3.0.value in
    let Post : Val → SProp 𝓤 = (walk_of 𝓛 ended stays c).post y in
    let Run : List Val → SProp 𝓤 = λ ws. WpFn 𝓤 𝓛.H 𝓣.C 𝓣.Λ fn ws Post in
    let as_box : D E = record { ptr = y.0.3.0.ptr; alloc = heap; value = value } in
    let tokens : Item 𝓤 = ‵ (flft κs.0 qs.0) ⊛ ‵ (flft κs.1.0 qs.1.0) ⊛ ‵ ftrue in
    let outlived_x : Item 𝓤 = raw (fact 𝓤 (κs.0 ⊑ X.lives)) in let outlived_a : Item 𝓤 = raw (fact 𝓤 (κs.1.0 ⊑ A.lives)) in
    qed 𝓛 ((tokens ⊛ ‵ (fsep ((B E).own_val as_box y.0.4.0) ftrue)) ∷ (outlived_x ⊛ outlived_a ⊛ ‵ ftrue) ∷ []) ∵ split ! $ move ! (1 ∷ []) $ fsplit ! $
    box_out E ! as_box y.0.4.0 (λ b o at_heap e is fits. fjoin ! $
    let packed = word E at_heap b o in
    let passed : call.Ghost = ((κs, qs, tt, (heap, (block_ptr b o, tt)), (at_heap ∷ [], (vptr b o ∷ [], tt))), value) in
    suffices ! (Run (packed ∷ [])) (subst (λ (us : List Val). ent 𝓤 (Run (packed ∷ [])) (Run us)) (sym (λ j. is j ++ [])) (id⊢ 𝓤 (Run (packed ∷ [])))) $
    enter ! 𝓣.C 𝓣.Λ fn (packed ∷ []) Post $ alloc_all ! (λ ls. pass_all ! refl (box_typed E at_heap b o fits, tt) $
    sets ! (of_opd ! (get_in ! (fld ! refl (stop !)) (sub ! 0 refl (whole !)))) refl (tt, tt) $
    sets ! (of_opd ! (get_in ! (fld ! refl (stop !)) (sub ! 1 refl (whole !)))) refl fits $
    first ! $ blocks ! $ sets ! (of_opd ! (get ! refl)) refl fits $
    move ! (4 ∷ []) $ split3 ! $ move ! (2 ∷ []) $ drop ! $ move ! (1 ∷ 2 ∷ []) $ join ! $ move ! (1 ∷ 0 ∷ []) $ join ! $
    -- [what the call requires; the allocator; true; the tokens]
    move ! (2 ∷ []) $ feq_i ! (List Val) (vptr b o ∷ []) (vptr b o ∷ []) refl $ fjoin ! $ move ! (2 ∷ 0 ∷ []) $ fjoin ! $
    move ! (2 ∷ 0 ∷ []) $ join ! $ join ! $ use1 𝓛 (raw (call.pre passed)) (id⊢ 𝓤 _) $
    calls_at_last ! (fm 𝓛 𝓜 𝓡) call (met 𝓤 𝓛 𝓜 𝓡 (code.calls-std_alloc::boxed::Box::from_raw 𝓡.env wired) X A LX LA g d dd allocator known) passed (and_then ! (get ! refl) (and_then ! (get ! refl) (no_more !))) (λ u.
    use1 𝓛 (later (some (λ (r : D E). (tokens ⊛ ‵ ((B E).own_val r (u ∷ [])))
    ⊛ some (λ (_ : Unit {0} × (Unit {0} × Unit {0})). ‵ (fsep ftrue (fsep ftrue ftrue)) ⊛ (raw (fact 𝓤 (r.value ≡ value)) ⊛ raw (fact 𝓤 (r.alloc ≡ heap))))))) (id⊢ 𝓤 _) $
    await ! tt $ pick ! (λ r. split ! $ move ! (1 ∷ []) $ pick ! (λ _. split3 ! $ drop ! $ heard ! (r.value ≡ value) (λ same. drop ! $ split ! $ move ! (1 ∷ []) $
    box_out E ! r (u ∷ []) (λ b' o' back e' is_u back_fits. box_in E ! r b' o' r.value e' refl $ rewrite ! 0 (λ (us : List Val). ‵ ((B E).own_val r us)) (sym is_u) refl $
    let typed : T (has_ty (box_ty E) u) × WT u = subst (λ (s : Val). T (has_ty (box_ty E) s) × WT s) (sym (ap only is_u)) (box_typed E back b' o' back_fits) in
    lands_last ! refl typed $ exec ! 𝓣.C 𝓣.Λ (env fn.locals ls) rest (at_ret (env fn.locals ls) Post) $
    sets ! (of_opd ! (get ! refl)) refl typed $ returns ! (look_at ! 0 refl) $ free_all ! refl $
    suffices ! _ (ends_at 𝓛 ended stays c y u r ((tt, (tt, tt)), tt) (tt, tt)) $ says ! same $
    nothing ! $ nothing ! $ fjoin ! $ join ! $ move ! (1 ∷ 0 ∷ []) $ join ! $ done !))))))))
