-- `opened` moves two fields, and with them the ownership of what they point to.
use Rattle.gix_mailmap_c.proofs.Steps.{subst, ◌++◌, Val, vptr, vbool, vstruct, vcons, vnil, ent, emp, id⊢, ftrue, fsep, WpFn, tables, true, Item, ‵, raw, ◌⊛◌, ◌$◌, ◌∵◌, !, qed, by, move, keep, drop, use1, join, split, fsplit, fjoin, feq_i, fpack, suffices, done, whole, sub, agg, stop, fld, no_more, and_then, of_opd, true_lit, returns, enter, alloc_all, pass_all, free_all, look_at, get, get_in, sets, yes, Slot, plain, type_at, bool, Valss, block_ptr, within, shape, nothing, says, Stays, stay_dropped, walk_of, ends_at, proved_at, Goes-dropped, and_tt, D, B, word, box_typed, box_out, α, has_ty, ghosts, refl, sym, List, [], ◌∷◌, RawPtr}
use Rattle.gix_mailmap_c.proofs.AsBox.{E}
use Rattle.std_heap.specs.contracts.Global as Heap
use Rattle.gix_mailmap_c.specs.contracts.held.Content as Content
use Rattle.gix_mailmap_c.specs.contracts.held.parts.Parts as Parts
use Rattle.gix_mailmap_c.specs.contracts.held.Handle as Handle
use Rattle.gix_mailmap_c.specs.contracts.held.opened as f
use Rattle.gix_mailmap_c.proofs.held.opened.Statement.{statement}
use Rattle.gix_mailmap_c.proofs.held.opened.Code as code

abbrev From : Slot 0
From = plain (λ _. Parts.the_row Content.the_row Heap.the_row ghosts)

abbrev stayed : Stays f.ended.signature.params f.ended.kept
stayed = (stay_dropped From yes, tt)

pub opened_spec : {M : Type 1} → statement M
opened_spec 𝓤 𝓛 𝓜 𝓡 wired =
    let 𝓣 = tables 𝓤 𝓛.H 𝓜 𝓡 𝓡.env in let c = f.clauses 𝓛 𝓜.mem 𝓡.returns in
    proved_at 𝓛 f.ended stayed c 𝓜 𝓡 (Goes-dropped 𝓛 0 From yes (λ κs x w. refl), tt)
    f.Key.name code.function (code.unfolded 𝓤 𝓛.H 𝓜 𝓡 wired) (λ z _.
    let Post = (walk_of 𝓛 f.ended stayed c).post z in
    let v : D E = record { ptr = z.0.3.0.ptr; alloc = z.0.3.0.alloc; value = z.0.3.0.value } in
    let To = type_at f.signature.result tt in
    qed 𝓛 ((‵ ftrue ⊛ ‵ (fsep ((B E).own_val v z.0.4.0) ftrue)) ∷ raw (emp 𝓤) ∷ []) ∵ split ! $ drop ! $ fsplit ! $
    box_out E ! v z.0.4.0 (λ b o hv e ws fa.
    let made : To.Denot = record { at = block_ptr b o; is_open = true; alloc = v.alloc; content = v.value } in
    let w = word E hv b o in let w' = vstruct (vcons (vptr b o) (vcons (vbool true) (vcons hv vnil))) in
    -- [the content; its token; the allocator]
    fjoin ! $ nothing ! $ move ! (2 ∷ 0 ∷ []) $ fjoin ! $ feq_i ! (List Val) (vbool true ∷ []) (vbool true ∷ []) refl $ fjoin ! $
    feq_i ! (List Val) (vptr b o ∷ []) (vptr b o ∷ []) refl $ fjoin ! $ feq_i ! (List Val) (w' ∷ []) (w' ∷ []) refl $ fjoin ! $
    fpack ! (Valss (RawPtr ∷ bool ∷ Heap.the_row ∷ [])) (within (shape Handle.the_type) (block_ptr b o, (true, (((tt, tt), tt), tt))) (w' ∷ [])) (vptr b o ∷ [], (vbool true ∷ [], (hv ∷ [], tt))) $ fjoin ! $
    use1 𝓛 (‵ (To.own_val made (w' ∷ []))) (id⊢ 𝓤 _) $ keep ! (0 ∷ []) $
    let Γ : List (Item 𝓤) = ‵ (To.own_val made (w' ∷ [])) ∷ [] in
    by ! (subst (λ (us : List Val). ent 𝓤 (types.Kit.⋆ 𝓛 Γ) (WpFn 𝓤 𝓛.H 𝓣.C 𝓣.Λ code.function (us ++ []) Post)) (sym ws)
    (qed 𝓛 Γ ∵ enter ! 𝓣.C 𝓣.Λ code.function (w ∷ []) _ $ alloc_all ! (λ ls. pass_all ! refl (box_typed E hv b o fa, tt) $
    sets ! (of_opd ! (get_in ! (fld ! refl (stop !)) (sub ! 0 refl (whole !)))) refl (tt, tt) $ sets ! (of_opd ! (get_in ! (fld ! refl (stop !)) (sub ! 1 refl (whole !)))) refl fa $
    sets ! (of_opd ! (get ! refl)) refl (tt, tt) $
    sets ! (agg ! (and_then ! (get ! refl) (and_then ! (true_lit !) (and_then ! (get ! refl) (no_more !))))) refl (and_tt (has_ty (α E.al) hv) fa.0, (tt, (tt, (fa.1, tt)))) $ returns ! (look_at ! 0 refl) $ free_all ! refl $
    suffices ! _ (ends_at 𝓛 f.ended stayed c z w' made (tt, tt) (tt, tt)) $ says ! (refl, refl) $
    nothing ! $ nothing ! $ fjoin ! $ join ! $ nothing ! $ join ! $ done !)))))
