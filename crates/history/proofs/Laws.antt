-- What each change of the model leaves, place by place.
use Rattle.std.proofs.Common.{◌≡◌, ℕ, zero, suc, ◌+◌, ◌-◌, ◌*◌, ◌/◌, ◌%◌, ◌<◌, ◌≤◌, Bool, true, false, cond, ◌&&◌, ◌||◌, eqb, ◌≢◌, List, [], ◌∷◌, map, length, get_or, drop, set, replicate, is_ok, Some, None, Option, sym, refl, ap, ◌∙◌, inl, inr, arith, rules}
use lib.Seq.{paste}
use Rattle.std.proofs.lemmas.List.Edits.{length-paste}
use Rattle.std.proofs.lemmas.List.{get_or_default, get_or-drop, get_or_past, get_or-replicate, get_or-set_other, length-map, length-set, places}
use Rattle.std.proofs.lemmas.Bool.{cases_lt, cond-false, lt-ltb, or_right, false_from_ne_true, cases_Bool, cond_both, eqb-true}
use Rattle.std.proofs.lemmas.Bool.Decides.{nat_tests}
use Rattle.allocator.specs.Allocators.{releasing}
use Rattle.allocator.specs.declared.cell.Cell.{Cell}
use Rattle.allocator.specs.declared.cell.Cell.TheVariants.{Free, First, Rest}
use Rattle.allocator.specs.Maps.{is_first, rests_in_front, run_length, run_of}
use Rattle.authority.specs.Capabilities.{Authority, base_of, top_of, capability_of, meet_authority}
use Rattle.authority.specs.Images.{image_of, word_at}
use Rattle.authority.specs.PermissionsMeet.{permissions_from}
use Rattle.authority.specs.declared.capability.Capability.{Capability}
use Rattle.authority.specs.declared.permissions.Permissions.{Permissions}
use Rattle.authority.proofs.Making.{image_reads_back}
use Rattle.memory.specs.Memories.{wipe_answer, with_image}
use Rattle.machine.specs.Model.{State, empty_compartment, empty_registers, register_at, register_in, with_register_in}
use Rattle.machine.specs.Rules.{derived, derived_with, wanted}
use Rattle.machine.specs.Runs.{in_run, in_runs, survivor, emptied_compartment, emptied_registers, swept_tag, swept_tags, wiped_bytes, wiped_tags, released_cells}
use Rattle.machine.specs.declared.compartment.Compartment.{Compartment}
use Rattle.quarantine.specs.declared.run.Run.{Run}
use Rattle.machine.specs.declared.registers.Registers.{Registers}
use Rattle.history.specs.Ledgers.{slot}
use Rattle.history.specs.Provenance.{LiesWithin}
use Rattle.history.proofs.Base.{Among, none_at, within, within_is, within_true}
use Rattle.history.proofs.Places.{get_set, paste_place, fill_place, fill_length, run_length_of, run_place, rests_rest, rests_end, rests_least}
use Rattle.history.proofs.Authorities.{meet_below, meet_inside, meet_self, made_numbers, over_authority}

-- registers by one number

abbrev pub reg_in : Registers → ℕ → Option Capability
reg_in rs i = register_in rs (i / 8) (i % 8)

abbrev pub reg : State → ℕ → Option Capability
reg s i = reg_in s.registers i

-- eight compartments of eight registers
pub record Shaped (rs : Registers) : Type 0 where
  pub rows : length rs.compartments ≡ 8
  pub columns : (c : ℕ) → c < 8 → length (get_or rs.compartments c (record { registers = [] })).registers ≡ 8

pub slot_row : (c r : ℕ) → r < 8 → slot c r / 8 ≡ c
slot_row c r h = omega arith

pub slot_column : (c r : ℕ) → r < 8 → slot c r % 8 ≡ r
slot_column c r h = omega arith

pub reg_slot : (s : State) (c r : ℕ) → r < 8 → register_at s c r ≡ reg s (slot c r)
reg_slot s c r h = λ i. register_in s.registers (sym (slot_row c r h) i) (sym (slot_column c r h) i)

row_length : (rs : Registers) (c : ℕ) → Shaped rs → c < 8 → length (get_or rs.compartments c empty_compartment).registers ≡ 8
row_length rs c sh h = let l = sh.rows in
    rw (get_or_default rs.compartments c empty_compartment (record { registers = [] }) (omega arith)) (sh.columns c h)

pub reg_put : (rs : Registers) (c r j : ℕ) (o : Option Capability) → Shaped rs → c < 8 → r < 8 → reg_in (with_register_in rs c r o) j ≡ cond (eqb j (slot c r)) o (reg_in rs j)
reg_put rs c r j o sh hc hr = rw (get_set rs.compartments c (j / 8) (record { registers = set row r o }) empty_compartment (omega (arith, sh.rows))) (elim (cases_Bool (eqb (j / 8) c)) [
  | inl y ↦
      let e : j / 8 ≡ c = eqb-true (j / 8) c y in
      let p = get_set row r (j % 8) o None (omega (arith, row_length rs c sh hc)) in
      rw y (grind (arith, nat_tests, p))
  | inr n ↦ rw n (grind (arith, nat_tests))
])
  where
    row : List (Option Capability)
    row = (get_or rs.compartments c empty_compartment).registers

pub shaped_put : (rs : Registers) (c r : ℕ) (o : Option Capability) → Shaped rs → c < 8 → r < 8 → Shaped (with_register_in rs c r o)
shaped_put rs c r o sh hc hr = record {
  rows = length-set rs.compartments c new ∙ sh.rows;
  columns = λ k h. rw (get_set rs.compartments c k new (record { registers = [] }) (omega (arith, sh.rows)))
      (cond_both (eqb k c) _ _ (λ (x : Compartment). length x.registers ≡ 8) (λ _. length-set row r o ∙ row_length rs c sh hc) (λ _. sh.columns k h));
}
  where
    row : List (Option Capability)
    row = (get_or rs.compartments c empty_compartment).registers

    new : Compartment
    new = record { registers = set row r o }

map_place : {X Y : Type 0} (f : X → Y) (xs : List X) (i : ℕ) (d : X) (e : Y) → f d ≡ e → get_or (map f xs) i e ≡ f (get_or xs i d)
map_place f [] i d e h = sym h
map_place f (x ∷ xs) zero d e h = refl
map_place f (x ∷ xs) (suc i) d e h = map_place f xs i d e h

pub reg_emptied : (qs : List Run) (rs : Registers) (j : ℕ) → reg_in (emptied_registers qs rs) j ≡ survivor qs (reg_in rs j)
reg_emptied qs rs j =
    ap (λ (x : Compartment). get_or x.registers (j % 8) None) (map_place (emptied_compartment qs) rs.compartments (j / 8) empty_compartment empty_compartment refl)
    ∙ map_place (survivor qs) (get_or rs.compartments (j / 8) empty_compartment).registers (j % 8) None None refl

-- what stays in a register when runs are painted
pub survived : (rs : List Run) (o : Option Capability) (a : Capability) → survivor rs o ≡ Some a → (o ≡ Some a) × (in_runs rs (base_of a / 16) ≡ false)
survived rs None a e = cc
survived rs (Some c) a e = go (in_runs rs (base_of c / 16)) refl e
  where
    go : (t : Bool) → in_runs rs (base_of c / 16) ≡ t → cond t None (Some c) ≡ Some a → (Some c ≡ Some a) × (in_runs rs (base_of a / 16) ≡ false)
    go true q e = cc
    go false q e = let z : c ≡ a = cc in (e, cc)

pub shaped_emptied : (qs : List Run) (rs : Registers) → Shaped rs → Shaped (emptied_registers qs rs)
shaped_emptied qs rs sh = record {
  rows = length-map rs.compartments (emptied_compartment qs) ∙ sh.rows;
  columns = λ c h.
      let none : Compartment = record { registers = [] } in
      ap (λ (x : Compartment). length x.registers) (map_place (emptied_compartment qs) rs.compartments c none none refl)
      ∙ (length-map (get_or rs.compartments c none).registers (survivor qs) ∙ sh.columns c h);
}

pub reg_fresh : (j : ℕ) → reg_in empty_registers j ≡ None
reg_fresh j = ap (λ (x : Compartment). get_or x.registers (j % 8) None) (none_at 8 (j / 8) empty_compartment) ∙ none_at 8 (j % 8) None

pub shaped_fresh : Shaped empty_registers
shaped_fresh = record {
  rows = refl;
  columns = λ c h. ap (λ (x : Compartment). length x.registers) (get_or-replicate 8 c empty_compartment (record { registers = [] }) h);
}

-- an image

pub length_image : (bs : List ℕ) (g : ℕ) (c : Capability) → 16 * g + 16 ≤ length bs → length (with_image bs g (Some c)) ≡ length bs
length_image bs g c h = length-paste bs (16 * g) (image_of c) 16 h (omega arith)

pub get_image : (bs : List ℕ) (g : ℕ) (c : Capability) (i : ℕ) → 16 * g + 16 ≤ length bs → get_or (with_image bs g (Some c)) i 0 ≡ cond (within (16 * g) 16 i) (get_or (image_of c) (i - 16 * g) 0) (get_or bs i 0)
get_image bs g c i h = paste_place bs (image_of c) (16 * g) 16 i 0 h refl

-- the capability stored at a granule

abbrev pub capability_at : List ℕ → ℕ → Option Capability
capability_at bs g = capability_of (word_at bs (16 * g)) (word_at bs (16 * g + 4)) (get_or bs (16 * g + 8) 0)

pub base_at : (bs : List ℕ) (g : ℕ) (c : Capability) → capability_at bs g ≡ Some c → word_at bs (16 * g) ≡ base_of c
base_at bs g c e = sym (made_numbers (word_at bs (16 * g)) (word_at bs (16 * g + 4)) (get_or bs (16 * g + 8) 0) c e).0

pub word_same : (bs cs : List ℕ) (a : ℕ) → ((i : ℕ) → a ≤ i → i < a + 4 → get_or bs i 0 ≡ get_or cs i 0) → word_at bs a ≡ word_at cs a
word_same bs cs a h = cc (h a (omega arith) (omega arith), h (a + 1) (omega arith) (omega arith), h (a + 2) (omega arith) (omega arith), h (a + 3) (omega arith) (omega arith))

pub read_same : (bs cs : List ℕ) (g : ℕ) → ((i : ℕ) → 16 * g ≤ i → i < 16 * g + 16 → get_or bs i 0 ≡ get_or cs i 0)
    → (capability_at bs g ≡ capability_at cs g) × (word_at bs (16 * g) ≡ word_at cs (16 * g))
read_same bs cs g h =
    let p = word_same bs cs (16 * g) (λ i lo hi. h i (omega arith) (omega arith)) in
    let q = word_same bs cs (16 * g + 4) (λ i lo hi. h i (omega arith) (omega arith)) in
    let r = h (16 * g + 8) (omega arith) (omega arith) in
    ((λ i. capability_of (p i) (q i) (r i)), p)

pub read_image : (bs : List ℕ) (g : ℕ) (c : Capability) → 16 * g + 16 ≤ length bs → capability_at (with_image bs g (Some c)) g ≡ Some c
read_image bs g c h = (λ i. capability_of (p i) (q i) (r i)) ∙ image_reads_back c
  where
    at : (j i : ℕ) → i ≡ 16 * g + j → j < 16 → get_or (with_image bs g (Some c)) i 0 ≡ get_or (image_of c) j 0
    at j i e lt = let d : i - 16 * g ≡ j = omega arith in grind (arith, nat_tests, get_image)

    p : word_at (with_image bs g (Some c)) (16 * g) ≡ word_at (image_of c) 0
    p = cc (at 0 (16 * g) (omega arith) (omega arith), at 1 (16 * g + 1) (omega arith) (omega arith), at 2 (16 * g + 2) (omega arith) (omega arith), at 3 (16 * g + 3) (omega arith) (omega arith))

    q : word_at (with_image bs g (Some c)) (16 * g + 4) ≡ word_at (image_of c) 4
    q = cc (at 4 (16 * g + 4) (omega arith) (omega arith), at 5 (16 * g + 4 + 1) (omega arith) (omega arith), at 6 (16 * g + 4 + 2) (omega arith) (omega arith), at 7 (16 * g + 4 + 3) (omega arith) (omega arith))

    r : get_or (with_image bs g (Some c)) (16 * g + 8) 0 ≡ get_or (image_of c) 8 0
    r = at 8 (16 * g + 8) (omega arith) (omega arith)

pub read_other : (bs : List ℕ) (g : ℕ) (c : Capability) (g' : ℕ) → 16 * g + 16 ≤ length bs → g' ≢ g → capability_at (with_image bs g (Some c)) g' ≡ capability_at bs g'
read_other bs g c g' h ne = (read_same (with_image bs g (Some c)) bs g' (λ i lo hi. get_image bs g c i h ∙ cond-false (within (16 * g) 16 i) _ _ (apart i lo hi))).0
  where
    apart : (i : ℕ) → 16 * g' ≤ i → i < 16 * g' + 16 → within (16 * g) 16 i ≡ false
    apart i lo hi = grind (arith, nat_tests)

pub read_set : (bs : List ℕ) (a v g : ℕ) → a < length bs → g ≢ a / 16 → capability_at (set bs a v) g ≡ capability_at bs g
read_set bs a v g h ne = (read_same (set bs a v) bs g (λ i lo hi. get_or-set_other bs a i v 0 (λ e. ne (omega arith)))).0

-- authority: what lies within another

pub within_bounds : (a w : Capability) → LiesWithin a w → (base_of w ≤ base_of a) × (top_of a ≤ top_of w)
within_bounds a w h = meet_inside a.authority.first w.authority.first a.nonempty (ap (λ (x : Authority). x.first) h)

pub within_self : (a : Capability) → LiesWithin a a
within_self a = meet_self a.authority

pub within_derived : (a w d : Capability) (lo len p : ℕ) → LiesWithin a w → derived a lo len p ≡ Some d → LiesWithin d w
within_derived a w d lo len p h e = go (permissions_from p) e
  where
    go : (o : Option Permissions) → derived_with a lo len o ≡ Some d → LiesWithin d w
    go None e = cc
    go (Some q) e =
        let m = over_authority (meet_authority a.authority (wanted a lo len q)) d e in
        ap (λ (x : Authority). meet_authority x w.authority) m ∙ (meet_below a.authority (wanted a lo len q) w.authority h ∙ sym m)

pub derived_within : (a d : Capability) (lo len p : ℕ) → derived a lo len p ≡ Some d → LiesWithin d a
derived_within a d lo len p e = within_derived a a d lo len p (within_self a) e

-- a run taken

pub length_taken : (cs : List Cell) (b n : ℕ) → 0 < n → b + n ≤ length cs → length (paste cs b (run_of n) n) ≡ length cs
length_taken cs b n z h = let e = run_length_of n in length-paste cs b (run_of n) n h (omega arith)

pub get_taken : (cs : List Cell) (b n g : ℕ) → 0 < n → b + n ≤ length cs → get_or (paste cs b (run_of n) n) g Free ≡ cond (within b n g) (cond (eqb g b) First Rest) (get_or cs g Free)
get_taken cs b n g z h = grind (arith, nat_tests, paste_place, run_length_of, run_place)

-- what a run's length tells

pub run_first : (cs : List Cell) (b : ℕ) → 0 < run_length cs b → get_or cs b Free ≡ First
unfolding run_length
run_first cs b h = go (get_or cs b Free) h
  where
    go : (x : Cell) → 0 < cond (is_first x) (suc (rests_in_front (drop (b + 1) cs))) 0 → x ≡ First
    go First h = refl
    go _ h = absurd (omega arith)

-- a run's length where it has a first
run_start : (cs : List Cell) (b : ℕ) → get_or cs b Free ≡ First → run_length cs b ≡ suc (rests_in_front (drop (b + 1) cs))
unfolding run_length
run_start cs b e = ap (λ (x : Cell). cond (is_first x) (suc (rests_in_front (drop (b + 1) cs))) 0) e

-- the k-th place after a first
after_first : (cs : List Cell) (b k g : ℕ) → g ≡ b + 1 + k → get_or (drop (b + 1) cs) k Free ≡ get_or cs g Free
after_first cs b k g e = get_or-drop (b + 1) cs k Free ∙ ap (λ (i : ℕ). get_or cs i Free) (sym e)

pub run_rest : (cs : List Cell) (b g : ℕ) → b < g → g < b + run_length cs b → get_or cs g Free ≡ Rest
run_rest cs b g lo hi =
    let s = run_start cs b (run_first cs b (omega arith)) in
    sym (after_first cs b (g - (b + 1)) g (omega arith)) ∙ rests_rest (drop (b + 1) cs) (g - (b + 1)) (omega arith)

pub run_end : (cs : List Cell) (b : ℕ) → 0 < run_length cs b → get_or cs (b + run_length cs b) Free ≡ Rest → ⊥
run_end cs b h e =
    let s = run_start cs b (run_first cs b h) in
    rests_end (drop (b + 1) cs) (after_first cs b (rests_in_front (drop (b + 1) cs)) (b + run_length cs b) (omega arith) ∙ e)

pub run_is : (cs : List Cell) (b n : ℕ) → 0 < n → get_or cs b Free ≡ First → ((g : ℕ) → b < g → g < b + n → get_or cs g Free ≡ Rest) → (get_or cs (b + n) Free ≡ Rest → ⊥) → run_length cs b ≡ n
run_is cs b n z f r e =
    let s = run_start cs b f in
    let least = rests_least (drop (b + 1) cs) (n - 1) (λ k lt. after_first cs b k (b + 1 + k) refl ∙ r (b + 1 + k) (omega arith) (omega arith)) in
    elim (cases_lt n (run_length cs b)) [
      | inl h ↦ absurd (e (run_rest cs b (b + n) (omega arith) (omega arith)))
      | inr h ↦ omega arith
    ]

-- a sweep's passing

pub length_swept : (rs : List Run) (bs : List ℕ) (p k : ℕ) (ts : List Bool) → length (swept_tags rs bs p k ts) ≡ length ts
length_swept rs bs p zero ts = refl
length_swept rs bs p (suc k) ts =
    let us = swept_tags rs bs p k ts in
    cond_both (get_or us (p + k) false && in_runs rs (word_at bs (16 * (p + k)) / 16)) _ _ (λ x. length x ≡ length us) (λ _. length-set us (p + k) false) (λ _. refl) ∙ length_swept rs bs p k ts

-- one granule passed
swept_one : (rs : List Run) (bs : List ℕ) (q g : ℕ) (ts : List Bool) → get_or (swept_tag rs bs q ts) g false ≡ cond (eqb g q && in_runs rs (word_at bs (16 * g) / 16)) false (get_or ts g false)
swept_one rs bs q g ts = grind (arith, nat_tests, cases_Bool, cleared, get_or-set_other {A = Bool})
  where
    cleared : (ts : List Bool) (q : ℕ) → get_or (set ts q false) q false ≡ false
    cleared ts q = search (rules, places)

swept_more : (p k g : ℕ) (x y : Bool) → cond (eqb g (p + k) && x) false (cond (within p k g && x) false y) ≡ cond (within p (suc k) g && x) false y
swept_more p k g x y = grind (arith, nat_tests)

pub get_swept : (rs : List Run) (bs : List ℕ) (p k g : ℕ) (ts : List Bool) → get_or (swept_tags rs bs p k ts) g false ≡ cond (within p k g && in_runs rs (word_at bs (16 * g) / 16)) false (get_or ts g false)
get_swept rs bs p zero g ts = grind (arith, nat_tests)
get_swept rs bs p (suc k) g ts =
    rw (swept_one rs bs (p + k) g (swept_tags rs bs p k ts), get_swept rs bs p k g ts) (swept_more p k g (in_runs rs (word_at bs (16 * g) / 16)) (get_or ts g false))

-- runs wiped: each lies inside the granules

abbrev pub InsideAll : ℕ → List Run → Type 0
InsideAll all rs = (r : Run) → Among r rs → (0 < r.length) × (r.start + r.length ≤ all)

-- a run inside is wiped
wipes : (b n all : ℕ) → 0 < n → b + n ≤ all → is_ok (wipe_answer b n all) ≡ true
wipes b n all z h = grind (arith, nat_tests)

-- one value over two stretches
two_ways : {X : Type 0} (a b : Bool) (v x : X) → cond b v (cond a v x) ≡ cond (a || b) v x
two_ways true true v x = refl
two_ways _ b v x = refl

pub length_wiped_bytes : (all : ℕ) (rs : List Run) (bs : List ℕ) → length bs ≡ 16 * all → InsideAll all rs → length (wiped_bytes all rs bs) ≡ 16 * all
length_wiped_bytes all [] bs l h = l
length_wiped_bytes all (r ∷ rs) bs l h =
    let i = h r (inl refl) in
    rw (wipes r.start r.length all i.0 i.1)
    (length_wiped_bytes all rs _ (fill_length bs (16 * r.start) (16 * r.length) 0 (omega arith) ∙ l) (λ x a. h x (inr a)))

pub get_wiped_bytes : (all : ℕ) (rs : List Run) (bs : List ℕ) (i : ℕ) → length bs ≡ 16 * all → InsideAll all rs → get_or (wiped_bytes all rs bs) i 0 ≡ cond (in_runs rs (i / 16)) 0 (get_or bs i 0)
get_wiped_bytes all [] bs i l h = refl
get_wiped_bytes all (r ∷ rs) bs i l h =
    let q = h r (inl refl) in
    let bs' = paste bs (16 * r.start) (replicate (16 * r.length) 0) (16 * r.length) in
    rw (
      wipes r.start r.length all q.0 q.1,
      get_wiped_bytes all rs bs' i (fill_length bs (16 * r.start) (16 * r.length) 0 (omega arith) ∙ l) (λ x a. h x (inr a)),
      fill_place bs (16 * r.start) (16 * r.length) i 0 0 (omega arith),
      by_granule r.start r.length i,
    ) (two_ways (in_run r (i / 16)) (in_runs rs (i / 16)) 0 (get_or bs i 0))
  where
    by_granule : (b n i : ℕ) → within (16 * b) (16 * n) i ≡ within b n (i / 16)
    by_granule b n i = grind (arith, nat_tests)

pub length_wiped_tags : (rs : List Run) (ts : List Bool) → InsideAll (length ts) rs → length (wiped_tags rs ts) ≡ length ts
length_wiped_tags [] ts h = refl
length_wiped_tags (r ∷ rs) ts h =
    let i = h r (inl refl) in
    let l = fill_length ts r.start r.length false i.1 in
    rw (wipes r.start r.length (length ts) i.0 i.1)
    (length_wiped_tags rs _ (λ x a. let q = h x (inr a) in (q.0, omega arith)) ∙ l)

pub get_wiped_tags : (rs : List Run) (ts : List Bool) (g : ℕ) → InsideAll (length ts) rs → get_or (wiped_tags rs ts) g false ≡ cond (in_runs rs g) false (get_or ts g false)
get_wiped_tags [] ts g h = refl
get_wiped_tags (r ∷ rs) ts g h =
    let i = h r (inl refl) in
    let l = fill_length ts r.start r.length false i.1 in
    rw (
      wipes r.start r.length (length ts) i.0 i.1,
      get_wiped_tags rs (paste ts r.start (replicate r.length false) r.length) g (λ x a. let q = h x (inr a) in (q.0, omega arith)),
      fill_place ts r.start r.length g false false i.1,
    ) (two_ways (in_run r g) (in_runs rs g) false (get_or ts g false))

-- runs released: each is exactly a run of the map, and no two share a granule

pub record WholeRun (cs : List Cell) (r : Run) : Type 0 where
  pub some : 0 < r.length
  pub cells : (g : ℕ) → r.start ≤ g → g < r.start + r.length → get_or cs g Free ≡ cond (eqb g r.start) First Rest
  pub end : get_or cs (r.start + r.length) Free ≡ Rest → ⊥

-- no two of the runs share a granule
abbrev pub Disjoint : List Run → Type 0
Disjoint [] = Unit {0}
Disjoint (r ∷ rs) = ((g : ℕ) → in_run r g ≡ true → in_runs rs g ≡ false) × Disjoint rs

-- a granule in one of the runs
pub in_among : (rs : List Run) (r : Run) (g : ℕ) → Among r rs → r.start ≤ g → g < r.start + r.length → in_runs rs g ≡ true
in_among [] r g a lo hi = absurd a
in_among (x ∷ rs) r g (inl e) lo hi = let a : r.start ≡ x.start = cc in let l : r.length ≡ x.length = cc in grind (arith, nat_tests)
in_among (x ∷ rs) r g (inr a) lo hi = or_right _ _ (in_among rs r g a lo hi)

-- the map with one run freed
abbrev freed : Run → List Cell → List Cell
freed r cs = paste cs r.start (replicate r.length Free) r.length

-- a run of the map lies inside it
whole_inside : (cs : List Cell) (r : Run) → WholeRun cs r → r.start + r.length ≤ length cs
whole_inside cs r w = let p = w.some in grind (arith, nat_tests, w.cells (r.start + r.length - 1), get_or_past {X = Cell})

-- its length in the map is its own
whole_length : (cs : List Cell) (r : Run) → WholeRun cs r → run_length cs r.start ≡ r.length
whole_length cs r w = let p = w.some in run_is cs r.start r.length p
    (grind (arith, nat_tests, w.cells))
    (λ g lo hi. grind (arith, nat_tests, w.cells))
    w.end

-- releasing one run frees its granules
released_one : (cs : List Cell) (r : Run) → WholeRun cs r → (releasing cs 0 r.start).cells ≡ freed r cs
released_one cs r w = let p = w.some in let l = whole_length cs r w in
    rw (lt-ltb 0 (run_length cs r.start) (omega arith), l)

freed_place : (cs : List Cell) (r : Run) (g : ℕ) → WholeRun cs r → get_or (freed r cs) g Free ≡ cond (in_run r g) Free (get_or cs g Free)
freed_place cs r g w = fill_place cs r.start r.length g Free Free (whole_inside cs r w)

-- a rest that stands was not freed
pub not_freed : (t : Bool) {x : Cell} → cond t Free x ≡ Rest → x ≡ Rest
not_freed true e = cc
not_freed false e = e

-- the other runs stay
still_whole : (cs : List Cell) (r x : Run) → WholeRun cs r → WholeRun cs x → ((g : ℕ) → in_run x g ≡ true → in_run r g ≡ false) → WholeRun (freed r cs) x
still_whole cs r x w v apart = record {
  some = v.some;
  cells = λ g lo hi. freed_place cs r g w ∙ (cond-false (in_run r g) _ _ (apart g (within_is x.start x.length g lo hi)) ∙ v.cells g lo hi);
  end = λ e. v.end (not_freed (in_run r (x.start + x.length)) (sym (freed_place cs r (x.start + x.length) w) ∙ e));
}

others_whole : (cs : List Cell) (r : Run) (rs : List Run) → ((x : Run) → Among x (r ∷ rs) → WholeRun cs x) → Disjoint (r ∷ rs) → (x : Run) → Among x rs → WholeRun (freed r cs) x
others_whole cs r rs h d x a = still_whole cs r x (h r (inl refl)) (h x (inr a)) λ g y. false_from_ne_true _ λ z.
    let w = within_true x.start x.length g y in cc (in_among rs x g a w.0 w.1, d.0 g z)

pub length_released : (rs : List Run) (cs : List Cell) → ((r : Run) → Among r rs → WholeRun cs r) → Disjoint rs → length (released_cells rs cs) ≡ length cs
length_released [] cs h d = refl
length_released (r ∷ rs) cs h d =
    let w = h r (inl refl) in
    rw (released_one cs r w, length_released rs (freed r cs) (others_whole cs r rs h d) d.1) (fill_length cs r.start r.length Free (whole_inside cs r w))

pub get_released : (rs : List Run) (cs : List Cell) (g : ℕ) → ((r : Run) → Among r rs → WholeRun cs r) → Disjoint rs → get_or (released_cells rs cs) g Free ≡ cond (in_runs rs g) Free (get_or cs g Free)
get_released [] cs g h d = refl
get_released (r ∷ rs) cs g h d =
    let w = h r (inl refl) in
    rw (released_one cs r w, get_released rs (freed r cs) g (others_whole cs r rs h d) d.1, freed_place cs r g w) (two_ways (in_run r g) (in_runs rs g) Free (get_or cs g Free))
