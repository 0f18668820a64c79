use Rattle.gix_mailmap_c.proofs.Steps.{[], ◌∷◌, refl, proved, fact, vunit, raw, ◌$◌, ◌∵◌, !, qed, done, drop, join, feq_i, suffices, group, enter, of_opd, unit_lit, stop, fld, returns, alloc_all, pass_all, free_all, look_at, sets, yes, plain, nothing, on_entry, Stays, walk_of, stay_dropped, Goes-dropped, ends_at, whole, sub, get_in, rawptr_Lawful}
use Rattle.gix_mailmap_c.specs.contracts.held.discard_closed as f
use Rattle.gix_mailmap_c.proofs.held.discard_closed.Statement.{statement}
use Rattle.gix_mailmap_c.proofs.held.discard_closed.Code as code
use Rattle.gix_mailmap_c.specs.contracts.held.Handle.{the_row as R}
use Rattle.gix_mailmap_c.proofs.held.Handle.TheLaws.{lowers, the_row_laws}

abbrev stayed : Stays f.ended.signature.params f.ended.kept
stayed = (stay_dropped _ yes, tt)

pub discard_closed_spec : {M : Type 1} → statement M
discard_closed_spec 𝓤 𝓛 𝓜 𝓡 wired =
    let c = f.clauses 𝓛 𝓜.mem 𝓡.returns in let W = walk_of 𝓛 f.ended stayed c in
    proved 𝓛 f.ended stayed c 𝓜 𝓡 (Goes-dropped 𝓛 0 (plain (λ _. R)) yes (λ κs x w. refl), tt)
    f.Key.name code.function (code.unfolded 𝓤 𝓛.H 𝓜 𝓡 wired)
    (λ κs. ((λ d. lowers.lowered d ∷ []), tt)) (λ κs. (lowers.val_is, tt)) (λ κs qs bounds a _ are.
    let y : W.Ghost = ((κs, qs, bounds, a, (lowers.lowered a.0 ∷ [], tt)), tt) in
    qed 𝓛 (raw (on_entry 𝓛 f.signature κs qs a y.0.4) ∷ raw (fact 𝓤 _) ∷ []) ∵ drop ! $ drop ! $ enter ! _ _ _ _ _ $
    alloc_all ! (λ l. pass_all ! refl ((the_row_laws.lawful 𝓛).typed a.0 _ are.0) $
    sets ! (of_opd ! (get_in ! (fld ! refl (stop !)) (sub ! 0 refl (whole !)))) refl ((rawptr_Lawful 𝓛).typed a.0.at _ refl).0 $
    sets ! (of_opd ! (get_in ! (fld ! refl (stop !)) (sub ! 1 refl (whole !)))) refl (tt, tt) $
    sets ! (of_opd ! (get_in ! (fld ! refl (stop !)) (sub ! 2 refl (whole !)))) refl (tt, ((tt, tt), tt)) $
    sets ! (of_opd ! (unit_lit !)) refl (tt, tt) $ returns ! (look_at ! 0 refl) $ free_all ! refl $
    suffices ! _ (ends_at 𝓛 f.ended stayed c y vunit tt (tt, tt) (tt, tt)) $
    nothing ! $ feq_i ! _ (vunit ∷ []) _ refl $ nothing ! $ nothing ! $ join ! $ nothing ! $ group ! 3 $ done !))
