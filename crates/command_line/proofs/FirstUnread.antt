-- The first file that can't be read.
use Rattle.std.proofs.Common.{◌≡◌, ◌+◌, ◌-◌, ◌<◌, ℕ, List, [], arith, get_or, length, subst}
use Rattle.command_line.specs.Files.{AtPath, Bytes, Fails, FailsWith, Gives, IsOfNumber, MayRead, NamesFile, Unknown}
use Rattle.command_line.specs.Failures.{Failure, File}

may_read : (held : AtPath) (contents : List ℕ) → Gives held contents → MayRead held
may_read (Bytes bytes) contents gives = tt
may_read (Fails cause) contents gives = gives
may_read Unknown contents gives = tt

-- the file after those that were read
pub first_unread : (at : List ℕ → AtPath) (paths contents : List (List ℕ)) (index : ℕ) (e : Failure) → index < length paths
    → ((k : ℕ) → k < index → Gives (at (get_or paths k [])) (get_or contents k [])) → IsOfNumber (at (get_or paths index [])) (index + 1) e → NamesFile at paths e
first_unread at paths contents index (File number cause) within before (is, fails, no_memory) =
    let same : index ≡ number - 1 = omega arith in
    record {
      from_one = omega arith;
      within = omega arith;
      fails = subst (λ n. FailsWith (at (get_or paths n [])) cause) same fails;
      before = λ k less. may_read _ (get_or contents k []) (before k (omega arith));
      no_memory = no_memory;
    }
first_unread at paths contents index _ within before of = tt
