-- Runs that are live, and whose they are.
use Rattle.std.proofs.Common.{◌≡◌, ℕ, ◌+◌, ◌*◌, ◌/◌, ◌<◌, ◌≤◌, true, false, cond, ◌&&◌, eqb, ltb, leb, List, [], ◌∷◌, ◌++◌, get_or, Some, Option, sym, refl, ap, ◌∙◌, inl, inr, arith}
use Rattle.std.proofs.lemmas.Option.{same_Some}
use lib.Seq.{paste}
use Rattle.std.proofs.lemmas.Bool.Decides.{nat_tests}
use Rattle.std.proofs.lemmas.Bool.{or_cases, or_parts, cases_lt, cond-true, ne_eqb, eq-eqb, or_left, or_right, false_from_ne_true}
use Rattle.allocator.specs.declared.cell.Cell.{Cell}
use Rattle.allocator.specs.declared.cell.Cell.TheVariants.{Free, First, Rest}
use Rattle.allocator.specs.Maps.{FreeAt, run_length, run_of}
use Rattle.authority.specs.Capabilities.{base_of, capability_of, top_of}
use Rattle.authority.specs.Masks.{all_permissions}
use Rattle.authority.specs.declared.capability.Capability.{Capability}
use Rattle.machine.specs.Runs.{begins_at, in_run, in_runs}
use Rattle.quarantine.specs.declared.run.Run.{Run}
use Rattle.history.specs.Ledgers.{Entry, Grant, put_at}
use Rattle.history.proofs.Authorities.{made_numbers}
use Rattle.history.proofs.Base.{Among, within, within_is, within_true}
use Rattle.history.proofs.Laws.{Disjoint, get_taken, in_among, run_end, run_first, within_bounds, within_self}
use Rattle.history.proofs.Invariant.{AllLive, Live, Once, Sound, part}
use Rattle.history.proofs.Rooms.{room_of}

-- cells differ

-- the parts of a run

pub part_taken : (w : Run) (g : ℕ) → part w g ≡ Free → ⊥
part_taken w g e = grind (arith, nat_tests)

pub part_first : (w : Run) (g : ℕ) → part w g ≡ First → g ≡ w.start
part_first w g e = grind (arith, nat_tests)

pub part_rest : (w : Run) (g : ℕ) → w.start < g → part w g ≡ Rest
part_rest w g h = grind (arith, nat_tests)

-- a granule in one of several runs

pub among_in : (rs : List Run) (g : ℕ) → in_runs rs g ≡ true → (r : Run) × Among r rs × (r.start ≤ g) × (g < r.start + r.length)
among_in [] g e = cc
among_in (r ∷ rs) g e = elim (or_cases (in_run r g) (in_runs rs g) e) [
  | inl h ↦ let q = within_true r.start r.length g h in (r, inl refl, q.0, q.1)
  | inr h ↦ let q = among_in rs g h in (q.0, inr q.1, q.2, q.3)
]

-- a run that begins among several

pub begins_among : (rs : List Run) (r : Run) → Among r rs → begins_at rs r.start ≡ true
begins_among [] r h = absurd h
begins_among (x ∷ rs) r (inl e) = or_left _ _ (eq-eqb x.start r.start cc)
begins_among (x ∷ rs) r (inr h) = or_right _ _ (begins_among rs r h)

pub begins_append : (xs ys : List Run) (b : ℕ) → begins_at xs b ≡ false → begins_at ys b ≡ false → begins_at (xs ++ ys) b ≡ false
begins_append [] ys b p q = q
begins_append (x ∷ xs) ys b p q = grind (arith, begins_append xs ys b)

pub begins_left : (xs ys : List Run) (b : ℕ) → begins_at (xs ++ ys) b ≡ false → begins_at xs b ≡ false
begins_left [] ys b p = refl
begins_left (x ∷ xs) ys b p = grind (arith, begins_left xs ys b)

-- a run that begins at b has granule b
pub begins_in : (rs : List Run) (b : ℕ) → ((r : Run) → Among r rs → 0 < r.length) → in_runs rs b ≡ false → begins_at rs b ≡ false
begins_in [] b h p = refl
begins_in (x ∷ rs) b h p =
    let pos = h x (inl refl) in
    let q = or_parts (in_run x b) (in_runs rs b) p in
    let i = begins_in rs b (λ r a. h r (inr a)) q.1 in
    grind (arith, nat_tests)

-- no two begin at one granule

pub once_left : (xs ys : List Run) → Once (xs ++ ys) → Once xs
once_left [] ys h = tt
once_left (x ∷ xs) ys h = (begins_left xs ys x.start h.0, once_left xs ys h.1)

pub once_right : (xs ys : List Run) → Once (xs ++ ys) → Once ys
once_right [] ys h = h
once_right (x ∷ xs) ys h = once_right xs ys h.1

-- one more, whose begin is new
pub once_more : (xs : List Run) (r : Run) → Once xs → begins_at xs r.start ≡ false → Once (xs ++ (r ∷ []))
once_more [] r h n = (refl, tt)
once_more (x ∷ xs) r h n =
    let q = or_parts (eqb x.start r.start) (begins_at xs r.start) n in
    (begins_append xs (r ∷ []) x.start h.0 (grind (arith, nat_tests)), once_more xs r h.1 q.1)

module _ {cs : List Cell} {latest : ℕ → Option ℕ} {grants : ℕ → Option Grant} where
  -- none of its granules is free
  pub live_taken : {k : ℕ} {w : Run} → Live cs latest grants k w → (g : ℕ) → w.start ≤ g → g < w.start + w.length → get_or cs g Free ≡ Free → ⊥
  live_taken {w = w} l g lo hi e = part_taken w g (sym (l.cells g lo hi) ∙ e)

  -- the bounds of its grant
  pub live_bounds : {k : ℕ} {w : Run} (l : Live cs latest grants k w) → (base_of l.whole ≡ 16 * w.start) × (top_of l.whole ≡ 16 * w.start + 16 * w.length)
  live_bounds {w = w} l = let m = made_numbers _ _ _ l.whole l.made in (m.0, m.1)

  -- two that share a granule are of one grant, and so are one
  pub same_grant : {k k' : ℕ} {w w' : Run} → Live cs latest grants k w → Live cs latest grants k' w' → (g : ℕ)
      → w.start ≤ g → g < w.start + w.length → w'.start ≤ g → g < w'.start + w'.length → k ≡ k'
  same_grant l l' g a b c d = cc (l.mine (16 * g) (omega arith) (omega arith), l'.mine (16 * g) (omega arith) (omega arith))

  pub same_run : {k k' : ℕ} {w w' : Run} → Live cs latest grants k w → Live cs latest grants k' w' → (g : ℕ)
      → w.start ≤ g → g < w.start + w.length → w'.start ≤ g → g < w'.start + w'.length → (w.start ≡ w'.start) × (w.length ≡ w'.length)
  same_run {k} {k'} {w} {w'} l l' g a b c d =
      let e = same_grant l l' g a b c d in
      let z = same_Some _ _ (sym l.granted ∙ (ap grants e ∙ l'.granted)) in
      let x : base_of l.whole ≡ base_of l'.whole = ap (λ (v : Grant). base_of v.whole) z in
      let y : top_of l.whole ≡ top_of l'.whole = ap (λ (v : Grant). top_of v.whole) z in
      let p = live_bounds l in
      let q = live_bounds l' in
      (omega arith, omega arith)

  -- a live run is in the painted ones wholly or not at all
  pub wholly : {k : ℕ} {w : Run} (rs : List Run) → AllLive cs latest grants rs → Live cs latest grants k w → (g₀ : ℕ) → w.start ≤ g₀ → g₀ < w.start + w.length → in_runs rs g₀ ≡ false
      → (g : ℕ) → w.start ≤ g → g < w.start + w.length → in_runs rs g ≡ false
  wholly {k} {w} rs al l g₀ lo₀ hi₀ out g lo hi = false_from_ne_true _ λ y.
      let (r, am, rlo, rhi) = among_in rs g y in
      let s = same_run l (al r am).1 g lo hi rlo rhi in
      cc (in_among rs r g₀ am (omega arith) (omega arith))

  -- live runs that begin at different granules share none
  pub disjoint : (rs : List Run) → AllLive cs latest grants rs → Once rs → Disjoint rs
  disjoint [] al o = tt
  disjoint (r ∷ rs) al o = (
    (λ g e. false_from_ne_true _ λ y.
        let (x, am, lo, hi) = among_in rs g y in
        let h = within_true r.start r.length g e in
        let s = same_run (al r (inl refl)).1 (al x (inr am)).1 g h.0 h.1 lo hi in
        cc (begins_among rs x am)),
    disjoint rs (λ x a. al x (inr a)) o.1,
  )

  -- kept where other runs are released
  pub live_kept : {k : ℕ} {w : Run} (rs : List Run) (cs' : List Cell) → ((g : ℕ) → get_or cs' g Free ≡ cond (in_runs rs g) Free (get_or cs g Free))
      → AllLive cs latest grants rs → Live cs latest grants k w → in_runs rs w.start ≡ false → Live cs' latest grants k w
  live_kept {k} {w} rs cs' there al l un = record {
    to = l.to;
    whole = l.whole;
    made = l.made;
    granted = l.granted;
    some = l.some;
    cells = λ g lo hi. rw (there g, wholly rs al l w.start (omega arith) (omega (arith, l.some)) un g lo hi) (l.cells g lo hi);
    mine = l.mine;
  }

  -- a run found in the map inside a live one is that one
  pub whole_run : {k : ℕ} {w : Run} → Live cs latest grants k w → (g : ℕ) → w.start ≤ g → g < w.start + w.length → 0 < run_length cs g → g + run_length cs g ≤ w.start + w.length
      → (g ≡ w.start) × (run_length cs g ≡ w.length)
  whole_run {w = w} l g lo hi pos fit =
      let e : g ≡ w.start = part_first w g (sym (l.cells g lo hi) ∙ run_first cs g pos) in
      let h : w.length ≤ run_length cs g = elim (cases_lt (run_length cs g) w.length) [
        | inl lt ↦ absurd (run_end cs g pos (l.cells (g + run_length cs g) (omega arith) (omega arith) ∙ part_rest w (g + run_length cs g) (omega arith)))
        | inr le ↦ le
      ] in
      (e, omega arith)

  -- the bounds of a sound capability lie in those of its run
  pub sound_span : {a : Capability} {e : Option Entry} (o : Sound cs latest grants a e)
      → (16 * o.run.start ≤ base_of a) × (base_of a < top_of a) × (top_of a ≤ 16 * o.run.start + 16 * o.run.length)
  sound_span {a} o = let w = within_bounds a o.live.whole o.inside in let l = live_bounds o.live in (omega arith, a.nonempty, omega arith)

  pub sound_base : {a : Capability} {e : Option Entry} (o : Sound cs latest grants a e) → (o.run.start ≤ base_of a / 16) × (base_of a / 16 < o.run.start + o.run.length)
  sound_base {a} o = let (x, y, z) = sound_span o in (omega arith, omega arith)

  pub sound_kept : {a : Capability} {e : Option Entry} (rs : List Run) (cs' : List Cell) → ((g : ℕ) → get_or cs' g Free ≡ cond (in_runs rs g) Free (get_or cs g Free))
      → AllLive cs latest grants rs → Sound cs latest grants a e → in_runs rs (base_of a / 16) ≡ false → Sound cs' latest grants a e
  unfolding live_kept
  sound_kept {a} rs cs' there al o out = let q = sound_base o in record {
    provenance = o.provenance;
    run = o.run;
    recorded = o.recorded;
    live = live_kept rs cs' there al o.live (wholly rs al o.live (base_of a / 16) q.0 q.1 out o.run.start (omega arith) (omega (arith, o.live.some)));
    inside = o.inside;
  }

-- a run more
module _ (cs : List Cell) (latest : ℕ → Option ℕ) (grants : ℕ → Option Grant) (b n k₀ to : ℕ) (whole : Capability)
    (made : capability_of (16 * b) (16 * b + 16 * n) all_permissions ≡ Some whole) (pos : 0 < n) (room : FreeAt cs b n) where
  abbrev pub grown : List Cell
  grown = paste cs b (run_of n) n

  abbrev pub later : ℕ → Option ℕ
  later i = cond (leb (base_of whole) i && ltb i (top_of whole)) (Some k₀) (latest i)

  abbrev pub more : ℕ → Option Grant
  more = put_at grants k₀ (Some (record { to = to; whole = whole }))

  room_free : (g : ℕ) → b ≤ g → g < b + n → get_or cs g Free ≡ Free
  room_free = (room_of cs b n room).1

  spans : (base_of whole ≡ 16 * b) × (top_of whole ≡ 16 * b + 16 * n)
  spans = let m = made_numbers _ _ _ whole made in (m.0, m.1)

  pub live_grown : {k : ℕ} {w : Run} → k < k₀ → Live cs latest grants k w → Live grown later more k w
  live_grown {k} {w} lt l = record {
    to = l.to;
    whole = l.whole;
    made = l.made;
    granted = rw (ne_eqb k k₀ (omega arith)) l.granted;
    some = l.some;
    cells = λ g lo hi. rw (get_taken cs b n g pos room.0, outside g lo hi) (l.cells g lo hi);
    mine = λ i lo hi. rw (apart i (outside (i / 16) (omega arith) (omega arith))) (l.mine i lo hi);
  }
    where
      outside : (g : ℕ) → w.start ≤ g → g < w.start + w.length → within b n g ≡ false
      outside g lo hi = false_from_ne_true _ λ y. let q = within_true b n g y in live_taken l g lo hi (room_free g q.0 q.1)

      apart : (i : ℕ) → within b n (i / 16) ≡ false → (leb (base_of whole) i && ltb i (top_of whole)) ≡ false
      apart i o = let s = spans in grind (arith, nat_tests)

  pub live_new : Live grown later more k₀ (record { start = b; length = n })
  live_new = record {
    to = to;
    whole = whole;
    made = made;
    granted = cond-true (eqb k₀ k₀) _ _ (eq-eqb k₀ k₀ refl);
    some = pos;
    cells = λ g lo hi. rw (get_taken cs b n g pos room.0, within_is b n g lo hi);
    mine = λ i lo hi. cond-true (leb (base_of whole) i && ltb i (top_of whole)) _ _ (let s = spans in grind (arith, nat_tests));
  }

  pub sound_grown : {a : Capability} {e : Option Entry} (o : Sound cs latest grants a e) → o.provenance < k₀ → Sound grown later more a e
  unfolding live_grown
  sound_grown o lt = record { provenance = o.provenance; run = o.run; recorded = o.recorded; live = live_grown lt o.live; inside = o.inside }

  pub sound_new : Sound grown later more whole (Some (record { capability = whole; provenance = k₀ }))
  unfolding live_new
  sound_new = record { provenance = k₀; run = record { start = b; length = n }; recorded = refl; live = live_new; inside = within_self whole }
