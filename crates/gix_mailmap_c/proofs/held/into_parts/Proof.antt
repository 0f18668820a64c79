-- `into_parts` moves two fields, and with them the ownership of what they point to.
use Rattle.gix_mailmap_c.proofs.Steps.{subst, ◌++◌, true, Val, vptr, vbool, vstruct, vcons, vnil, of_list, bare, box_owns, ent, id⊢, fst∗, never, ftrue, fsep, WpFn, tables, sem, fact, Item, ‵, raw, ◌⊛◌, ◌$◌, ◌∵◌, !, qed, by, move, keep, drop, use1, join, split, fsplit, fjoin, feq_l, fpick, rewrite, suffices, done, whole, sub, agg, stop, fld, no_more, and_then, of_opd, returns, enter, alloc_all, pass_all, free_all, look_at, get, get_in, sets, yes, Slot, plain, type_at, Ptr, null_ptr, ptr_val, in_a_block, nothing, heard, says, Stays, stay_dropped, walk_of, ends_at, proved_at, Goes-dropped, and_tt, D, τ, word, box_typed, box_in, α, handle_tells, has_ty, ghosts, ◌≡◌, refl, sym, ap, ◌∙◌, List, [], ◌∷◌}
use Rattle.gix_mailmap_c.specs.Ownership.{owns_content}
use Rattle.gix_mailmap_c.proofs.AsBox.{E}
use Rattle.gix_mailmap_c.specs.contracts.held.Content as Content
use Rattle.gix_mailmap_c.specs.contracts.held.Handle as Handle
use Rattle.gix_mailmap_c.specs.contracts.held.into_parts as f
use Rattle.gix_mailmap_c.proofs.held.into_parts.Statement.{statement}
use Rattle.gix_mailmap_c.proofs.held.into_parts.Code as code

abbrev From : Slot 0
From = plain (λ _. Handle.the_row)

abbrev stayed : Stays f.ended.signature.params f.ended.kept
stayed = (stay_dropped From yes, tt)

pub into_parts_spec : {M : Type 1} → statement M
into_parts_spec 𝓤 𝓛 𝓜 𝓡 wired =
    let 𝓣 = tables 𝓤 𝓛.H 𝓜 𝓡 𝓡.env in let c = f.clauses 𝓛 𝓜.mem 𝓡.returns in
    proved_at 𝓛 f.ended stayed c 𝓜 𝓡 (Goes-dropped 𝓛 0 From yes (λ κs x w. refl), tt)
    f.Key.name code.function (code.unfolded 𝓤 𝓛.H 𝓜 𝓡 wired) (λ z _.
    let Post = (walk_of 𝓛 f.ended stayed c).post z in
    let m = z.0.3.0 in
    let v : D E = record { ptr = m.at; alloc = m.alloc; value = m.content } in
    let To = type_at f.signature.result tt in
    let made : To.Denot = record { ptr = v.ptr; alloc = v.alloc; value = v.value } in
    qed 𝓛 ((‵ ftrue ⊛ ‵ (fsep (Handle.the_row.own_val m z.0.4.0) ftrue)) ∷ raw (fact 𝓤 (m.is_open ≡ true)) ∷ []) ∵ move ! (1 ∷ []) $ heard ! (m.is_open ≡ true) (λ opn. split ! $ drop ! $ fsplit ! $
    fsplit ! $ fpick ! (λ vss. fsplit ! $ feq_l ! (λ ev. fsplit ! $ feq_l ! (λ ep. fsplit ! $ feq_l ! (λ eb. fsplit ! $ handle_tells E.al ! m.alloc vss.1.1.0 (λ hv ea fa.
    -- [the allocator; nothing; what is held; nothing]
    move ! (2 ∷ []) $ rewrite ! 0 (λ t. ‵ (owns_content m.alloc t m.at m.content)) opn refl $
    in_a_block ! m.at (λ p. box_owns (ghosts.dealloc_token m.alloc) Content.the_row p m.content) (fst∗ 𝓤 (never 𝓤) (sem 𝓛 (ghosts.dealloc_token m.alloc (bare (τ E)) null_ptr))) (λ b o e.
    fsplit ! $ box_in E ! v b o v.value e refl $
    let w = word E hv b o in let w' = vstruct (vcons (vptr b o) (vcons (vbool true) (vcons hv vnil))) in
    use1 𝓛 (‵ (To.own_val made (w ∷ []))) (id⊢ 𝓤 _) $ keep ! (0 ∷ []) $
    let is : z.0.4.0 ≡ w' ∷ [] = ev ∙ (λ j. vstruct (of_list ((ep ∙ ap (λ (p : Ptr). ptr_val p ∷ []) e) j ++ ((eb ∙ ap (λ t. vbool t ∷ []) opn) j ++ (ea j ++ [])))) ∷ []) in
    let Γ : List (Item 𝓤) = ‵ (To.own_val made (w ∷ [])) ∷ [] in
    by ! (subst (λ (us : List Val). ent 𝓤 (types.Kit.⋆ 𝓛 Γ) (WpFn 𝓤 𝓛.H 𝓣.C 𝓣.Λ code.function (us ++ []) Post)) (sym is)
    (qed 𝓛 Γ ∵ enter ! 𝓣.C 𝓣.Λ code.function (w' ∷ []) _ $ alloc_all ! (λ ls. pass_all ! refl ((and_tt (has_ty (α E.al) hv) fa.0, (tt, (tt, (fa.1, tt)))), tt) $
    sets ! (of_opd ! (get_in ! (fld ! refl (stop !)) (sub ! 0 refl (whole !)))) refl (tt, tt) $ sets ! (of_opd ! (get_in ! (fld ! refl (stop !)) (sub ! 1 refl (whole !)))) refl (tt, tt) $
    sets ! (of_opd ! (get_in ! (fld ! refl (stop !)) (sub ! 2 refl (whole !)))) refl fa $ sets ! (of_opd ! (get ! refl)) refl (tt, tt) $
    sets ! (agg ! (and_then ! (get ! refl) (and_then ! (get ! refl) (no_more !)))) refl (box_typed E hv b o fa) $ returns ! (look_at ! 0 refl) $ free_all ! refl $
    suffices ! _ (ends_at 𝓛 f.ended stayed c z w made (tt, tt) (tt, tt)) $ says ! refl $
    nothing ! $ nothing ! $ fjoin ! $ join ! $ nothing ! $ join ! $ done !)))))))))))
