-- `content` lends the content behind the pointer. After the borrow the handle has the content that the borrower left.
use Rattle.gix_mailmap_c.proofs.Steps.{◌++◌, true, Ura, full_share, SProp, ent, sep, fst∗, never, Fml, Lft, GName, Share, ftrue, fsep, flft, named, Val, vptr, vbool, vstruct, vcons, vnil, of_list, bare, Memory, Routine, Env, WpFn, Tables, Logic, sem, Fun, fact, tables, tables_of, WpFn-mono, ‵, raw, ◌⊛◌, some, later, at_ret, ◌$◌, ◌∵◌, !, qed, by, move, keep, use1, split, join, pick, await, group, fsplit, fsplit3, fjoin, feq_i, feq_l, fpick, fpack, rewrite, suffices, frame, done, whole, sub, look_in, stop, fld, load, of_opd, first, blocks, exec, returns, enter, addr, alloc_all, pass_all, free_all, look_at, get, through, sets, sets_last, env, no, Valss, part_at, mem, cell_at, part_of, bool, Ptr, RawPtr, ptr_val, null_ptr, block_ptr, in_a_block, MutRef, mut_vals, mut_Tells, plain, mut_ref_to, nothing, heard, opens, within, shape, follows, Part, lends_Part, triple_of, entered, says, Stays, stay_dropped, walk_of, ends_at, walked, walk_Meets, Goes-spent_ref, box_owns, after, τ, handle_tells, ghosts, ◌≡◌, refl, sym, ap, ◌∙◌, List, [], ◌∷◌, ℕ}
use Rattle.std_heap.specs.contracts.Global as Heap
use Rattle.gix_mailmap_c.specs.contracts.held.Content as Content
use Rattle.gix_mailmap_c.specs.Ownership.{owns_content}
use Rattle.gix_mailmap_c.specs.Borrowing.{with_content}
use Rattle.gix_mailmap_c.specs.declared.held.Handle.{Handle}
use Rattle.gix_mailmap_c.specs.contracts.held.Handle as Handle
use Rattle.gix_mailmap_c.specs.contracts.held.lent.content as F
use Rattle.gix_mailmap_c.specs.contracts.held.lent.content.Key.{name as #self}
use Rattle.gix_mailmap_c.proofs.AsBox.{E}
use Rattle.gix_mailmap_c.proofs.held.lent.content.Statement as stated
use Rattle.gix_mailmap_c.proofs.held.lent.content.Code as code

abbrev stayed : Stays (F.ended).signature.params (F.ended).kept
stayed = (stay_dropped (mut_ref_to (0 ∷ []) tt (plain (λ _. Handle.the_row))) no, tt)

-- the machine value of an open handle
abbrev word : Val → ℕ → ℕ → Val
word hv b o = vstruct (vcons (vptr b o) (vcons (vbool true) (vcons hv vnil)))

module _ {M : Type 1} {𝓤 : Ura M} (𝓛 : Logic 𝓤) (at_mem : Memory → SProp 𝓤) (run : Routine → Fun 𝓤) (κ : Lft) (q : Share) (rb ro : ℕ) (γ : GName) (h : Handle) where
  open 𝓛 use {H, A}

  abbrev bound : (walk_of 𝓛 F.ended stayed (F.clauses 𝓛 at_mem run)).Ghost
  bound = (((κ, tt), (q, tt), tt, (record { ref_ptr = (rb, ro); ghost_name = γ; now = h }, tt), (vptr rb ro ∷ [], tt)), tt)

  abbrev Post : Val → SProp 𝓤
  Post = (walk_of 𝓛 F.ended stayed (F.clauses 𝓛 at_mem run)).post bound

  module _ (b o : ℕ) (hv : Val) where
    -- all of the handle but the content
    abbrev Rest : Fml
    Rest = fsep (fsep (ghosts.dealloc_token h.alloc (bare (τ E)) (block_ptr b o)) (Heap.the_row.own_val h.alloc (hv ∷ []))) (cell_at full_share Handle.the_row.mir (word hv b o ∷ []) rb ro)

    back : h.at ≡ block_ptr b o → h.is_open ≡ true → (w : Content.the_row.Denot) → ent 𝓤 (sep 𝓤 (sem 𝓛 ((mem Content.the_row).own_at w b o)) (sem 𝓛 Rest)) (sem 𝓛 ((mem Handle.the_row).own_at (with_content h w) rb ro))
    unfolding part_of
    back at_b opn w =
        qed 𝓛 (‵ (part_at Content.the_row full_share w b o) ∷ ‵ Rest ∷ []) ∵ move ! (1 ∷ []) $ fsplit ! $ fsplit ! $
        -- [the token; the allocator; the word; the content]
        move ! (3 ∷ 0 ∷ []) $ fjoin ! $
        rewrite ! 0 (λ p. ‵ (box_owns (ghosts.dealloc_token h.alloc) Content.the_row p w)) (sym at_b) refl $
        rewrite ! 0 (λ t. ‵ (owns_content h.alloc t h.at w)) (sym opn) refl $
        nothing ! $ move ! (2 ∷ 0 ∷ []) $ fjoin ! $
        feq_i ! (List Val) (vbool true ∷ []) (vbool h.is_open ∷ []) (ap (λ t. vbool t ∷ []) (sym opn)) $ fjoin ! $
        feq_i ! (List Val) (vptr b o ∷ []) (ptr_val h.at ∷ []) (ap (λ (p : Ptr). ptr_val p ∷ []) (sym at_b)) $ fjoin ! $
        feq_i ! (List Val) (word hv b o ∷ []) (word hv b o ∷ []) refl $ fjoin ! $
        fpack ! (Valss (RawPtr ∷ bool ∷ Heap.the_row ∷ [])) (within (shape Handle.the_type) (h.at, (h.is_open, (((tt, tt), tt), tt))) (word hv b o ∷ [])) (vptr b o ∷ [], (vbool true ∷ [], (hv ∷ [], tt))) $
        move ! (0 ∷ 1 ∷ []) $ fjoin ! $ move ! (1 ∷ 0 ∷ []) $ fjoin ! $
        fpack ! (List Val) (λ us. fsep (cell_at full_share Handle.the_row.mir us rb ro) (Handle.the_row.own_val (with_content h w) us)) (word hv b o ∷ []) $ done !

    exits : (γ' : GName)
        → ent 𝓤 (sep 𝓤 (sem 𝓛 ((MutRef (named 0) κ Content.the_row).own_val (record { ref_ptr = (b, o); ghost_name = γ'; now = h.content }) (vptr b o ∷ []))) (sep 𝓤 (A.lft κ q) (sem 𝓛 (follows Handle.the_row Content.the_row γ γ' (with_content h))))) (Post (vptr b o))
    exits γ' =
        qed 𝓛 (‵ ((MutRef (named 0) κ Content.the_row).own_val (record { ref_ptr = (b, o); ghost_name = γ'; now = h.content }) (vptr b o ∷ [])) ∷ ‵ (flft κ q) ∷ ‵ (follows Handle.the_row Content.the_row γ γ' (with_content h)) ∷ []) ∵
        suffices ! _ (ends_at 𝓛 F.ended stayed (F.clauses 𝓛 at_mem run) bound (vptr b o) (record { ref_ptr = (b, o); ghost_name = γ'; now = h.content }) (tt, tt) (tt, tt)) $
        nothing ! $ nothing ! $ fjoin ! $ join ! $ nothing ! $ move ! (2 ∷ 0 ∷ []) $ join ! $ join ! $ frame ! $ says ! refl $ done !

  module _ (𝓣 : Tables 𝓤 𝓛.H) where
    walk : ent 𝓤 ((walk_of 𝓛 F.ended stayed (F.clauses 𝓛 at_mem run)).pre bound) (WpFn 𝓤 H 𝓣.C 𝓣.Λ code.function (vptr rb ro ∷ []) Post)
    walk =
        qed 𝓛 (((‵ (flft κ q) ⊛ ‵ ftrue) ⊛ ‵ ((MutRef (named 0) κ Handle.the_row).own_val (record { ref_ptr = (rb, ro); ghost_name = γ; now = h }) (vptr rb ro ∷ [])) ⊛ ‵ ftrue) ∷ raw (fact 𝓤 (h.is_open ≡ true)) ∷ []) ∵
        move ! (1 ∷ []) $ heard ! (h.is_open ≡ true) (λ opn. split ! $ split ! $ move ! (2 ∷ []) $ split ! $ keep ! (0 ∷ 2 ∷ []) $
        enter ! 𝓣.C 𝓣.Λ code.function (vptr rb ro ∷ []) _ $ alloc_all ! (λ l. pass_all ! refl ((tt, tt), tt) $
        let En : Env 𝓤 H = env code.function.locals l in
        fsplit3 ! $ move ! (1 ∷ 2 ∷ 3 ∷ []) $ opens ! tt Handle.the_row {h = h} rb ro (λ us. move ! (1 ∷ []) $
        fsplit ! $ fpick ! (λ vss. fsplit ! $ feq_l ! (λ ev. fsplit ! $ feq_l ! (λ ep. fsplit ! $ feq_l ! (λ eb. fsplit ! $ handle_tells E.al ! h.alloc vss.1.1.0 (λ hv ea fa.
        -- [the allocator; nothing; what is held; the word; the borrow]
        move ! (2 ∷ []) $ rewrite ! 0 (λ t. ‵ (owns_content h.alloc t h.at h.content)) opn refl $
        in_a_block ! h.at (λ p. box_owns (ghosts.dealloc_token h.alloc) Content.the_row p h.content) (fst∗ 𝓤 (never 𝓤) (sem 𝓛 (ghosts.dealloc_token h.alloc (bare (τ E)) null_ptr))) (λ b o e.
        fsplit ! $
        let is : us ≡ word hv b o ∷ [] = ev ∙ (λ j. vstruct (of_list ((ep ∙ ap (λ (p : Ptr). ptr_val p ∷ []) e) j ++ ((eb ∙ ap (λ t. vbool t ∷ []) opn) j ++ (ea j ++ [])))) ∷ []) in
        rewrite ! 4 (λ (ws : List Val). ‵ (cell_at full_share Handle.the_row.mir ws rb ro)) is refl $
        move ! (1 ∷ 2 ∷ []) $ fjoin ! $ move ! (1 ∷ 0 ∷ 3 ∷ []) $ first ! $ blocks ! $
        sets ! (of_opd ! (load ! (through ! refl (fld ! refl (stop !))) (look_in ! 2 (sub ! 0 refl (whole !))))) refl (tt, tt) $
        sets ! (of_opd ! (get ! refl)) refl (tt, tt) $ sets_last ! (addr ! (through ! refl (stop !))) refl (tt, tt) $
        exec ! 𝓣.C 𝓣.Λ En (after 1 code.function.body) (at_ret En Post) $ sets ! (of_opd ! (get ! refl)) refl (tt, tt) $
        move ! (1 ∷ 2 ∷ []) $ fjoin ! $ move ! (3 ∷ 4 ∷ 5 ∷ 1 ∷ 0 ∷ []) $ group ! 5 $
        use1 𝓛 (later (some (λ (γ' : GName). raw (Part 𝓛 Handle.the_row Content.the_row (with_content h) (named 0) κ q rb ro b o γ (sem 𝓛 (Rest b o hv)) (back b o hv e opn) h.content γ'))))
        (lends_Part 𝓛 Handle.the_row Content.the_row (with_content h) (named 0) κ q rb ro b o γ (sem 𝓛 (Rest b o hv)) (back b o hv e opn) (Handle.the_row.coded.code h) (Handle.the_row.coded.code h) h.content) $ await ! tt $ pick ! (λ γ'.
        returns ! (look_at ! 0 refl) $ free_all ! refl $ keep ! (0 ∷ []) $ by ! (exits b o hv γ')))))))))))

pub content_spec : {M : Type 1} → stated.statement M
unfolding tables_of
content_spec 𝓤 𝓛 𝓜 𝓡 wired =
    let 𝓣 : Tables 𝓤 𝓛.H = tables_of 𝓤 𝓛.H 𝓜 (tables 𝓤 𝓛.H 𝓜 𝓡 𝓡.env) in
    let c = F.clauses 𝓛 𝓜.mem 𝓡.returns in
    entered 𝓤 𝓛.H (triple_of 𝓛 F.signature (F.spec 𝓛 𝓜.mem 𝓡.returns)) 𝓣.C 𝓣.Λ #self code.function (code.unfolded 𝓤 𝓛.H 𝓜 𝓡 wired)
    (walk_Meets 𝓛 F.ended stayed (Goes-spent_ref 𝓛 1 (0 ∷ []) tt (plain (λ _. Handle.the_row)), tt) c (WpFn 𝓤 𝓛.H 𝓣.C 𝓣.Λ code.function) (WpFn-mono 𝓤 𝓛.H 𝓛.laws 𝓣 code.function)
    (walked 𝓛 F.ended stayed c (WpFn 𝓤 𝓛.H 𝓣.C 𝓣.Λ code.function) (λ κs. (mut_vals, tt)) (λ κs. (mut_Tells (named 0) κs.0 Handle.the_row, tt))
    (λ κs qs bounds a g are. walk 𝓛 𝓜.mem 𝓡.returns κs.0 qs.0 a.0.ref_ptr.0 a.0.ref_ptr.1 a.0.ghost_name a.0.now 𝓣)))
