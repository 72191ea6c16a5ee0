-- Whether one of some runs passes a test, as std says it and as the definitions of runs say it.
use Rattle.std.proofs.Common.{◌≡◌, ℕ, ◌||◌, eqb, List, refl}
use Rattle.std.specs.List.{list_any}
use Rattle.std.proofs.lemmas.List.Recursion.{same_from_clauses}
use Rattle.quarantine.specs.Runs.{begins_at, in_run, in_runs}
use Rattle.quarantine.specs.declared.run.Run.{Run}

pub any_begins : (rs : List Run) (g : ℕ) → list_any (λ (r : Run). eqb r.start g) rs ≡ begins_at rs g
any_begins rs g =
    same_from_clauses (list_any (λ (r : Run). eqb r.start g)) (λ xs. begins_at xs g) (λ r t. eqb r.start g || t) refl (λ _ _. refl) (λ _ _. refl) rs

pub any_holds : (rs : List Run) (g : ℕ) → list_any (λ (r : Run). in_run r g) rs ≡ in_runs rs g
any_holds rs g =
    same_from_clauses (list_any (λ (r : Run). in_run r g)) (λ xs. in_runs xs g) (λ r t. in_run r g || t) refl (λ _ _. refl) (λ _ _. refl) rs
