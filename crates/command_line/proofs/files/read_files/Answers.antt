use Rattle.std.proofs.Common.{rules, ◌≡◌, ◌+◌, ◌<◌, ◌++◌, ◌∷◌, [], ◌∙◌, ℕ, List, ap, arith, below_more, get_or, length, map, sym, Err, Vec, Global}
use Rattle.std.proofs.Math.Seq.{get_or-append_seam}
use Rattle.std.proofs.lemmas.List.{get_or-map, get_or_append_left, length-map, map-append}
use Rattle.command_line.specs.Files.{Gives}
use Rattle.mailmap_entries.specs.Texts.{texts}
use Rattle.command_line.proofs.FirstUnread.{first_unread}
use Rattle.command_line.proofs.files.read_files.Goals as goal

-- a relation to their indices that holds for all elements, and for one more at the end
one_more : (R : ℕ → List ℕ → Type 0) (xs : List (List ℕ)) (x : List ℕ) (n : ℕ) → length xs ≡ n
    → ((k : ℕ) → k < n → R k (get_or xs k [])) → R n x → (k : ℕ) → k < n + 1 → R k (get_or (xs ++ x ∷ []) k [])
one_more R xs x n len before last = below_more _ _
    (λ k lt. rw (get_or_append_left xs (x ∷ []) [] k (omega (arith, lt, len))) (before k lt))
    (rw (← len, get_or-append_seam xs x [] []) (rw len last))

pub loop-index-preserved : goal.loop-index-preserved
loop-index-preserved g c =
    let files = c.loop-index.contents.items in
    let file = c.in_ok-file.file in
    let bytes : Vec ℕ Global → List ℕ = λ path. path.items in
    let R : ℕ → List ℕ → Type 0 = λ k. Gives (g.F.FileSystem.at c.args.system.now (get_or (texts c.args.paths.now) k [])) in
    let is_path : get_or (texts c.args.paths.now) c.loop-index.index [] ≡ c.as_slice.result.now =
    get_or-map bytes c.args.paths.now c.loop-index.index c.index-paths-index.result [] (omega (arith, c.loop-index-test.true))
    ∙ ap bytes (sym c.index-paths-index.is) ∙ sym c.as_slice.ensures.value in
    let len : length (map bytes files) ≡ c.loop-index.index = length-map files bytes ∙ sym c.loop-index.contents.ok.0 ∙ c.loop-index.invariant.0 in
    let all = one_more R (map bytes files) file.items c.loop-index.index len c.loop-index.invariant.1 (rw is_path c.in_ok-file.ensures.ok) in
    let pushed : map bytes c.push.new.self.items ≡ map bytes files ++ file.items ∷ [] =
    ap (map bytes) c.in_ok-push.ensures.items ∙ map-append bytes files (file ∷ []) in
    (search rules, λ k lt. rw pushed (all k lt))

pub returns-in_err-file-clause-file : goal.returns-in_err-file-clause-file
returns-in_err-file-clause-file g c =
    let bytes : Vec ℕ Global → List ℕ = λ path. path.items in
    let at = g.F.FileSystem.at c.args.system.now in
    let paths = texts c.args.paths.now in
    let index = c.loop-index.index in
    let e = c.in_err-file.field-0.0 in
    let failed : c.from_residual.result ≡ Err e = search rules in
    let is_path : get_or paths index [] ≡ c.as_slice.result.now =
    get_or-map bytes c.args.paths.now index c.index-paths-index.result [] (omega (arith, c.loop-index-test.true))
    ∙ ap bytes (sym c.index-paths-index.is) ∙ sym c.as_slice.ensures.value in
    let within : index < length paths = omega (arith, c.loop-index-test.true, length-map c.args.paths.now bytes) in
    rw failed (first_unread at paths (texts c.loop-index.contents.items) index e within c.loop-index.invariant.1 (rw is_path c.in_err-file.ensures.err))
