-- The shadow bitmap: what it says of each granule, and what one more run adds to it.
use Rattle.std.proofs.Common.{◌≡◌, ℕ, ◌+◌, ◌<◌, min, true, false, ◌||◌, List, [], ◌∷◌, ◌++◌, length, get_or, take, replicate, sym, refl, ◌∙◌, arith}
use Rattle.std.proofs.lemmas.List.FromFn.{length-map-range_with_len, get_or-map-range_with_len}
use Rattle.std.proofs.lemmas.List.{places, ext_get_or, take_more}
use Rattle.std.proofs.lemmas.Bool.Decides.{nat_tests}
use Rattle.std.proofs.lemmas.List.Recursion.{or_push}
use Rattle.bits.specs.Bits.{bits_of, filled, length_bits}
use Rattle.bits.proofs.Masks.{zero_bits}
use Rattle.quarantine.specs.Runs.{in_run, in_runs, shadow_of}
use Rattle.quarantine.specs.declared.run.Run.{Run}

pub length_shadow : (rs : List Run) → length (shadow_of rs) ≡ 1024
unfolding shadow_of
length_shadow rs = length-map-range_with_len (in_runs rs) 0 1024

pub get_or_shadow : (rs : List Run) (g : ℕ) → g < 1024 → get_or (shadow_of rs) g false ≡ in_runs rs g
unfolding shadow_of
get_or_shadow rs g h = get_or-map-range_with_len (in_runs rs) 0 1024 g g false h (omega arith)

-- zero bytes are the shadow of no runs
pub shadow_none : bits_of (replicate 128 0) ≡ shadow_of []
shadow_none =
    ext_get_or false (bits_of (replicate 128 0)) (shadow_of []) (length_bits (replicate 128 0) ∙ sym (length_shadow [])) (λ i h.
    let b : i < 1024 = omega (arith, length_bits (replicate 128 0)) in zero_bits 128 i b ∙ sym (get_or_shadow [] i b))

in_runs_push : (rs : List Run) (r : Run) (g : ℕ) → in_runs (rs ++ (r ∷ [])) g ≡ (in_runs rs g || in_run r g)
in_runs_push rs r g = or_push (λ xs. in_runs xs g) (λ x. in_run x g) refl (λ _ _. refl) rs r

-- the shadow with one more run
pub shadow_more : (rs : List Run) (i : ℕ) (r d : Run) → i < length rs → r ≡ get_or rs i d → filled (shadow_of (take i rs)) r.start (min (r.start + r.length) 1024) true ≡ shadow_of (take (i + 1) rs)
shadow_more rs i r d h read =
    let before = shadow_of (take i rs) in
    let after = filled before r.start (min (r.start + r.length) 1024) true in
    let size = length_shadow (take i rs) in
    let all = length_shadow (take (i + 1) rs) in
    let next = take_more rs i d h in
    let grown : length after ≡ 1024 = grind (arith, places, nat_tests) in
    ext_get_or false after (shadow_of (take (i + 1) rs)) (grown ∙ sym all) (λ g l.
    let low : g < 1024 = omega arith in
    let was = get_or_shadow (take i rs) g low in
    let is = get_or_shadow (take (i + 1) rs) g low in
    let joined = in_runs_push (take i rs) r g in
    grind (arith, nat_tests, places))
