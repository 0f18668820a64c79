use Rattle.gix_mailmap_c.proofs.Steps.{List, [], ◌∷◌, refl, lit<, Val, vint, id⊢, fsplit, fjoin, move, says, RawPtr, bool, proved, ftrue, ‵, raw, ◌⊛◌, ◌$◌, ◌∵◌, !, qed, done, keep, drop, use1, join, split, feq_i, suffices, enter, lit, no_more, and_then, returns, alloc_all, pass_all, free_all, look_at, get, sets, yes, plain, nothing, Stays, walk_of, stay_dropped, Goes-dropped, ends_at, agg, false_lit, false, emp, fsep, vbool, vstruct, vcons, vnil, w64, fpack, Valss, null_ptr, within, shape}
use Rattle.gix_mailmap_c.specs.declared.held.Content.TheVariants.{Mailmap}
use Rattle.gix_mailmap_c.specs.contracts.held.Handle as Handle
use Rattle.gix_mailmap_c.specs.contracts.held.closed as f
use Rattle.gix_mailmap_c.proofs.held.closed.Statement.{statement}
use Rattle.gix_mailmap_c.proofs.held.closed.Code as code
use Rattle.std.specs.contracts.alloc.Global as heap
use Rattle.std.proofs.alloc.Global.TheLaws as heap_laws

abbrev stayed : Stays f.ended.signature.params f.ended.kept
stayed = (stay_dropped _ yes, tt)

pub closed_spec : {M : Type 1} → statement M
closed_spec 𝓤 𝓛 𝓜 𝓡 wired =
    let c = f.clauses 𝓛 𝓜.mem 𝓡.returns in let W = walk_of 𝓛 f.ended stayed c in
    proved 𝓛 f.ended stayed c 𝓜 𝓡 (Goes-dropped 𝓛 0 (plain (λ _. heap.the_row)) yes (λ κs x w. refl), tt)
    f.Key.name code.function (code.unfolded 𝓤 𝓛.H 𝓜 𝓡 wired)
    (λ κs. ((λ d. heap_laws.lowers.lowered d ∷ []), tt)) (λ κs. (heap_laws.lowers.val_is, tt)) (λ κs qs bounds a _ are.
    let y : W.Ghost = ((κs, qs, bounds, a, (heap_laws.lowers.lowered a.0 ∷ [], tt)), tt) in
    let m : Handle.the_row.Denot = record { at = null_ptr; is_open = false; alloc = a.0; content = Mailmap [] } in
    let hv = heap_laws.lowered a.0 in let w : Val = vstruct (vcons (vint w64 0) (vcons (vbool false) (vcons hv vnil))) in
    qed 𝓛 ((‵ ftrue ⊛ ‵ (fsep (heap.the_row.own_val a.0 (hv ∷ [])) ftrue)) ∷ raw (emp 𝓤) ∷ []) ∵ split ! $ drop ! $ fsplit ! $ keep ! (0 ∷ []) $
    nothing ! $ move ! (1 ∷ 0 ∷ []) $ fjoin ! $ feq_i ! (List Val) (vbool false ∷ []) (vbool false ∷ []) refl $ fjoin ! $
    feq_i ! (List Val) (vint w64 0 ∷ []) (vint w64 0 ∷ []) refl $ fjoin ! $ feq_i ! (List Val) (w ∷ []) (w ∷ []) refl $ fjoin ! $
    fpack ! (Valss (RawPtr ∷ bool ∷ heap.the_row ∷ [])) (within (shape Handle.the_type) (null_ptr, (false, (((tt, tt), tt), tt))) (w ∷ [])) (vint w64 0 ∷ [], (vbool false ∷ [], (hv ∷ [], tt))) $
    nothing ! $ move ! (1 ∷ 0 ∷ []) $ fjoin ! $ use1 𝓛 (‵ (Handle.the_row.own_val m (w ∷ []))) (id⊢ 𝓤 _) $
    enter ! _ _ _ _ _ $ alloc_all ! (λ l. pass_all ! refl ((heap_laws.the_row_laws.lawful 𝓛).typed a.0 _ are.0) $
    sets ! (agg ! (and_then ! (lit ! tt) (and_then ! (false_lit !) (and_then ! (get ! refl) (no_more !))))) refl (tt, (record { fits = lit< tt }, (tt, (((tt, tt), tt), tt)))) $
    returns ! (look_at ! 0 refl) $ free_all ! refl $
    suffices ! _ (ends_at 𝓛 f.ended stayed c y w m (tt, tt) (tt, tt)) $ says ! refl $
    nothing ! $ nothing ! $ join ! $ nothing ! $ done !))
