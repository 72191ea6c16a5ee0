-- Each change of the machine keeps the invariant.
use Rattle.std.proofs.Common.{◌≡◌, ℕ, zero, suc, ◌+◌, ◌-◌, ◌*◌, ◌/◌, ◌%◌, ◌<◌, ◌≤◌, Bool, true, false, cond, ◌&&◌, eqb, ltb, ◌≢◌, List, [], ◌∷◌, length, get_or, set, Some, Option, sym, refl, ap, ◌∙◌, subst, inl, inr, arith, length-set, ◌++◌}
use Rattle.std.proofs.lemmas.Option.{same_Some}
use Rattle.machine.specs.declared.registers.Registers.{Registers}
use Rattle.std.proofs.lemmas.List.{append-nil, append_assoc}
use lib.Seq.{paste}
use Rattle.std.proofs.lemmas.Bool.Decides.{nat_tests}
use Rattle.std.proofs.lemmas.Bool.{or_left, cases_Bool, cases_lt, eqb-true, eqb-false, cond-false, lt-ltb, false_from_ne_true}
use Rattle.allocator.specs.declared.cell.Cell.TheVariants.{Free, First, Rest}
use Rattle.allocator.specs.Maps.{FreeAt, run_length, run_of}
use Rattle.authority.proofs.Making.{numbers_back}
use Rattle.authority.specs.Capabilities.{base_of, capability_of, top_of}
use Rattle.authority.specs.Images.{word_at}
use Rattle.authority.specs.Masks.{all_permissions}
use Rattle.authority.specs.declared.capability.Capability.{Capability}
use Rattle.memory.specs.Memories.{with_image}
use Rattle.machine.specs.Answers.{length_of}
use Rattle.machine.specs.Model.{Fixed, State, with_register, with_map, with_byte, with_capability, with_waiting, with_painted, with_passed, with_ended, with_shut, with_register_in}
use Rattle.machine.specs.Rules.{is_revoked, run_under}
use Rattle.machine.specs.Runs.{begins_at, in_runs, swept_tags, released_cells}
use Rattle.quarantine.specs.declared.run.Run.{Run}
use Rattle.quarantine.specs.declared.sweep.Sweep.{Sweep}
use Rattle.quarantine.specs.declared.sweep.Sweep.TheVariants.{Idle, Open}
use Rattle.history.specs.Ledgers.{Entry, Ledger, put_at, slot, with_entry, with_grant, with_granule}
use Rattle.history.proofs.Authorities.{made_numbers}
use Rattle.history.proofs.Base.{Among, among_append, among_left, among_push, among_right, not_cleared, within, within_true}
use Rattle.history.proofs.Laws.{InsideAll, Shaped, WholeRun, base_at, capability_at, get_released, get_swept, get_taken, get_wiped_bytes, get_wiped_tags, length_image, length_released, length_swept, length_taken, length_wiped_bytes, length_wiped_tags, not_freed, read_image, read_other, read_same, read_set, reg, reg_emptied, reg_in, reg_put, run_end, shaped_emptied, shaped_put, survived}
use Rattle.history.proofs.Invariant.{Inv, Live, Sound}
use Rattle.history.proofs.Live.{among_in, begins_append, begins_in, disjoint, grown, later, live_bounds, live_grown, live_kept, live_taken, more, once_left, once_more, once_right, sound_base, sound_grown, sound_kept, sound_new, sound_span, whole_run}
use Rattle.history.proofs.Places.{get_set}
use Rattle.history.proofs.Rooms.{room_of}

-- bounds inside the largest memory make a capability with all permissions
pub whole_made : (x y : ℕ) → x < y → y ≤ 16384 → (w : Capability) × (capability_of x y all_permissions ≡ Some w)
whole_made x y lt le = (it, numbers_back it)
  where
    it : Capability
    it = record {
      authority = record { first = record { base = x; top = y; span = or_left (ltb x y) _ (lt-ltb x y lt) }; second = record { bits = all_permissions; known = omega arith } };
      nonempty = lt;
      reach = le;
    }

-- a tagged place lies inside
pub tagged_in : (ts : List Bool) (g : ℕ) → get_or ts g false ≡ true → g < length ts
tagged_in [] g e = cc
tagged_in (x ∷ ts) zero e = omega arith
tagged_in (x ∷ ts) (suc g) e = let h = tagged_in ts g e in omega arith

-- Kept as lemmas: `cc` alone is slow where the invariant is in scope.
pub idle_open : {X : Type 0} {p : ℕ} → Idle ≡ Open p → X
idle_open e = cc

pub open_same : {p q : ℕ} → Open p ≡ Open q → p ≡ q
open_same e = cc

module _ (K : Fixed) (s : State) (b : Ledger) (v : Inv K s b) where
  -- what is stored at a passed granule is not painted
  pub mem_new : (g : ℕ) → get_or s.tags g false ≡ true → (a : Capability) → capability_at s.bytes g ≡ Some a → (p : ℕ) → s.sweep ≡ Open p → g < p → in_runs s.painted (base_of a / 16) ≡ false
  mem_new g t a at p e lt = ap (λ (x : ℕ). in_runs s.painted (x / 16)) (sym (base_at s.bytes g a at)) ∙ (v.tags_new p e).1 g lt t

  -- a change of registers, bytes, tags and the sweep's place, which leaves the map and the runs
  inv_kept : (rs : Registers) (bs : List ℕ) (ts : List Bool) (w : Sweep) (es gs : ℕ → Option Entry) → Shaped rs → length bs ≡ length s.bytes → length ts ≡ length s.tags
      → ((i : ℕ) (a : Capability) → reg_in rs i ≡ Some a → Sound s.cells b.latest b.grants a (es i) × (in_runs s.painted (base_of a / 16) ≡ false))
      → ((g : ℕ) → get_or ts g false ≡ true
      → (a : Capability) × (capability_at bs g ≡ Some a) × Sound s.cells b.latest b.grants a (gs g) × ((p : ℕ) → w ≡ Open p → g < p → in_runs s.painted (base_of a / 16) ≡ false))
      → (w ≡ Idle → s.painted ≡ []) → ((p : ℕ) → w ≡ Open p → p ≤ K.memory_granules)
      → Inv K (record s { registers = rs; bytes = bs; tags = ts; sweep = w }) (record b { registers = es; granules = gs })
  inv_kept rs bs ts w es gs shaped lb lt hr hm hi hp = record {
    sized = v.sized;
    l_bytes = lb ∙ v.l_bytes;
    l_tags = lt ∙ v.l_tags;
    l_cells = v.l_cells;
    shaped = shaped;
    regs = λ i a e. (hr i a e).0;
    mem = λ g t. let (a, at, o, n) = hm g t in (a, at, o);
    waiting = v.waiting;
    painted = v.painted;
    ends = v.ends;
    once = v.once;
    apart = v.apart;
    numbered = v.numbered;
    idle = hi;
    regs_new = λ i a e. (hr i a e).1;
    tags_new = λ p e. (hp p e, λ g lt t. let (a, at, o, n) = hm g t in ap (λ (x : ℕ). in_runs s.painted (x / 16)) (base_at bs g a at) ∙ n p e lt);
  }

  regs_kept : (i : ℕ) (a : Capability) → reg s i ≡ Some a → Sound s.cells b.latest b.grants a (b.registers i) × (in_runs s.painted (base_of a / 16) ≡ false)
  regs_kept i a e = (v.regs i a e, v.regs_new i a e)

  -- a register
  pub inv_reg : (c r : ℕ) → c < 8 → r < 8 → (o : Option Capability) (e : Option Entry)
      → ((a : Capability) → o ≡ Some a → Sound s.cells b.latest b.grants a e × (in_runs s.painted (base_of a / 16) ≡ false))
      → Inv K (with_register s c r o) (with_entry b (slot c r) e)
  inv_reg c r hc hr o e h = inv_kept (with_register_in s.registers c r o) s.bytes s.tags s.sweep (put_at b.registers (slot c r) e) b.granules (shaped_put s.registers c r o v.shaped hc hr) refl refl
      (λ j a q.
      (elim (eqb j (slot c r)) as (λ t. cond t o (reg s j) ≡ Some a → Sound s.cells b.latest b.grants a (cond t e (b.registers j)) × (in_runs s.painted (base_of a / 16) ≡ false)) [ true ↦ h a | false ↦ regs_kept j a ])
      (sym (reg_put s.registers c r j o v.shaped hc hr) ∙ q))
      (λ g t. let (a, at, o) = v.mem g t in (a, at, o, mem_new g t a at)) v.idle (λ p e. (v.tags_new p e).0)

  -- what is not revoked is not painted
  pub not_painted : (c : Capability) → is_revoked s.sweep s.painted c ≡ false → in_runs s.painted (base_of c / 16) ≡ false
  not_painted c e = go s.sweep refl e
    where
      go : (w : Sweep) → s.sweep ≡ w → is_revoked w s.painted c ≡ false → in_runs s.painted (base_of c / 16) ≡ false
      go Idle q e = ap (λ (rs : List Run). in_runs rs (base_of c / 16)) (v.idle q)
      go (Open p) q e = e

  -- a sweep opens. Kept field by field, as the others: `record v { .. }` has the type of v, and the invariant of another state is another type.
  pub inv_open : s.sweep ≡ Idle → Inv K (with_painted s) b
  inv_open idle = record {
    sized = v.sized;
    l_bytes = v.l_bytes;
    l_tags = v.l_tags;
    l_cells = v.l_cells;
    shaped = shaped_emptied s.waiting s.registers v.shaped;
    regs = λ j a e. v.regs j a (kept j a e).0;
    mem = v.mem;
    waiting = λ r x. absurd x;
    painted = v.waiting;
    ends = λ r x. v.ends r (among_right s.painted s.waiting r (rw append-nil at x));
    once = rw append-nil (once_right s.painted s.waiting v.once);
    apart = λ r x. absurd x;
    numbered = v.numbered;
    idle = λ e. idle_open (sym e);
    regs_new = λ j a e. (kept j a e).1;
    tags_new = λ p e. let z : 0 ≡ p = open_same e in (omega arith, λ g lt t. absurd (omega arith));
  }
    where
      kept : (j : ℕ) (a : Capability) → reg (with_painted s) j ≡ Some a → (reg s j ≡ Some a) × (in_runs s.waiting (base_of a / 16) ≡ false)
      kept j a e = survived s.waiting (reg s j) a (sym (reg_emptied s.waiting s.registers j) ∙ e)

  -- k granules are passed
  pub inv_pass : (p k : ℕ) → s.sweep ≡ Open p → p + k ≤ K.memory_granules → Inv K (with_passed s p k) b
  inv_pass p k sw fit = inv_kept s.registers s.bytes (swept_tags s.painted s.bytes p k s.tags) (Open (p + k)) b.registers b.granules v.shaped refl (length_swept s.painted s.bytes p k s.tags) regs_kept
      (λ g t.
      let (out, old) = not_cleared (within p k g && in_runs s.painted (word_at s.bytes (16 * g) / 16)) (sym (get_swept s.painted s.bytes p k g s.tags) ∙ t) in
      let (a, at, o) = v.mem g old in (
        a,
        at,
        o,
        λ q e lt.
            let z : p + k ≡ q = open_same e in
            elim (cases_lt g p) [
              | inl h ↦ mem_new g old a at p sw h
              | inr h ↦ ap (λ (x : ℕ). in_runs s.painted (x / 16)) (sym (base_at s.bytes g a at)) ∙ clear p k g _ out h (omega arith)
            ],
      ))
      (λ e. idle_open (sym e)) (λ q e. let z : p + k ≡ q = open_same e in omega arith)
    where
      clear : (p k g : ℕ) (i : Bool) → (within p k g && i) ≡ false → p ≤ g → g < p + k → i ≡ false
      clear p k g i e lo hi = grind (arith, nat_tests)

  -- the painted runs lie inside, are exactly runs of the map, and share no granule
  pub painted_inside : InsideAll (length s.tags) s.painted
  painted_inside r am =
      let (k, l) = v.painted r am in
      let t = (v.numbered k _ l.granted).1 in
      let e = live_bounds l in
      (l.some, omega (arith, v.l_tags))

  pub painted_whole : (r : Run) → Among r s.painted → WholeRun s.cells r
  painted_whole r am = let (k, l) = v.painted r am in record { some = l.some; cells = l.cells; end = v.ends r (among_left s.painted s.waiting r am) }

  pub painted_released : (g : ℕ) → get_or (released_cells s.painted s.cells) g Free ≡ cond (in_runs s.painted g) Free (get_or s.cells g Free)
  painted_released g = get_released s.painted s.cells g painted_whole (disjoint s.painted v.painted (once_left s.painted s.waiting v.once))

  bytes_fit : length s.bytes ≡ 16 * length s.tags
  bytes_fit = omega (arith, v.l_bytes, v.l_tags)

  pub painted_wiped_bytes : (i : ℕ) → get_or (with_ended s).bytes i 0 ≡ cond (in_runs s.painted (i / 16)) 0 (get_or s.bytes i 0)
  painted_wiped_bytes i = get_wiped_bytes (length s.tags) s.painted s.bytes i bytes_fit painted_inside

  pub painted_wiped_tags : (g : ℕ) → get_or (with_ended s).tags g false ≡ cond (in_runs s.painted g) false (get_or s.tags g false)
  painted_wiped_tags g = get_wiped_tags s.painted s.tags g painted_inside

  -- a sweep ends
  pub inv_end : (p : ℕ) → s.sweep ≡ Open p → K.memory_granules ≤ p → Inv K (with_ended s) b
  inv_end p sw all = record {
    sized = v.sized;
    l_bytes = length_wiped_bytes (length s.tags) s.painted s.bytes bytes_fit painted_inside ∙ ap (λ (n : ℕ). 16 * n) v.l_tags;
    l_tags = length_wiped_tags s.painted s.tags painted_inside ∙ v.l_tags;
    l_cells = length_released s.painted s.cells painted_whole (disjoint s.painted v.painted (once_left s.painted s.waiting v.once)) ∙ v.l_cells;
    shaped = v.shaped;
    regs = λ j a e. sound_kept s.painted _ painted_released v.painted (v.regs j a e) (v.regs_new j a e);
    mem = λ g t.
        let (out, old) = not_cleared (in_runs s.painted g) (sym (painted_wiped_tags g) ∙ t) in
        let (a, at, o) = v.mem g old in
        let inside = tagged_in s.tags g old in
        let new = (v.tags_new p sw).1 g (omega (arith, v.l_tags)) old in
        (a, read g out ∙ at, sound_kept s.painted _ painted_released v.painted o (ap (λ (n : ℕ). in_runs s.painted (n / 16)) (sym (base_at s.bytes g a at)) ∙ new));
    waiting = λ r x. let (k, l) = v.waiting r x in (k, live_kept s.painted _ painted_released v.painted l (v.apart r x));
    painted = λ r x. absurd x;
    ends = λ r x e. v.ends r (among_right s.painted s.waiting r x) (was (r.start + r.length) e);
    once = once_right s.painted s.waiting v.once;
    apart = λ r x. refl;
    numbered = v.numbered;
    idle = λ e. refl;
    regs_new = λ j a e. refl;
    tags_new = λ q e. idle_open e;
  }
    where
      read : (g : ℕ) → in_runs s.painted g ≡ false → capability_at (with_ended s).bytes g ≡ capability_at s.bytes g
      read g out = (read_same (with_ended s).bytes s.bytes g (λ i lo hi.
          let d : i / 16 ≡ g = omega arith in
          painted_wiped_bytes i ∙ cond-false (in_runs s.painted (i / 16)) _ _ (ap (in_runs s.painted) d ∙ out))).0

      was : (g : ℕ) → get_or (released_cells s.painted s.cells) g Free ≡ Rest → get_or s.cells g Free ≡ Rest
      was g e = not_freed (in_runs s.painted g) (sym (painted_released g) ∙ e)

  -- a sweep is shut
  pub inv_shut : Inv K (with_shut s) b
  inv_shut = record {
    sized = v.sized;
    l_bytes = v.l_bytes;
    l_tags = v.l_tags;
    l_cells = v.l_cells;
    shaped = v.shaped;
    regs = v.regs;
    mem = v.mem;
    waiting = λ r x. elim (among_append s.painted s.waiting r x) [ inl h ↦ v.painted r h | inr h ↦ v.waiting r h ];
    painted = λ r x. absurd x;
    ends = v.ends;
    once = v.once;
    apart = λ r x. refl;
    numbered = v.numbered;
    idle = λ e. refl;
    regs_new = λ j a e. refl;
    tags_new = λ q e. idle_open e;
  }

  -- a run found whole is the grant's
  pub freed_run : (i : ℕ) (a : Capability) (e : reg s i ≡ Some a) → base_of a % 16 ≡ 0 → length_of a ≡ 16 * run_length s.cells (base_of a / 16) → run_under s a ≡ (v.regs i a e).run
  freed_run i a e al whole =
      let o = v.regs i a e in
      let (x, y, z) = sound_span o in
      let q = sound_base o in
      let h = whole_run o.live (base_of a / 16) q.0 q.1 (omega arith) (omega arith) in
      λ j. record { start = h.0 j; length = h.1 j }

  pub inv_free : (i : ℕ) (a : Capability) → reg s i ≡ Some a → base_of a % 16 ≡ 0 → length_of a ≡ 16 * run_length s.cells (base_of a / 16) → begins_at s.waiting (base_of a / 16) ≡ false
      → Inv K (with_waiting s (run_under s a)) b
  inv_free i a e al whole new = record {
    sized = v.sized;
    l_bytes = v.l_bytes;
    l_tags = v.l_tags;
    l_cells = v.l_cells;
    shaped = v.shaped;
    regs = v.regs;
    mem = v.mem;
    waiting = λ r x. elim (among_push s.waiting _ r x) [
      | inl h ↦ v.waiting r h
      | inr q ↦ (own.provenance, subst (λ (y : Run). Live s.cells b.latest b.grants own.provenance y) (sym (q ∙ freed_run i a e al whole)) own.live)
    ];
    painted = v.painted;
    ends = λ r x. elim (among_append s.painted _ r x) [
      | inl h ↦ v.ends r (among_left s.painted s.waiting r h)
      | inr h ↦ elim (among_push s.waiting _ r h) [
        | inl k ↦ v.ends r (among_right s.painted s.waiting r k)
        | inr q ↦ (λ z. run_end s.cells (base_of a / 16) some (ap (λ (y : Run). get_or s.cells (y.start + y.length) Free) (sym q) ∙ z))
      ]
    ];
    once = rw (← append_assoc s.painted s.waiting (run_under s a ∷ [])) (once_more (s.painted ++ s.waiting) (run_under s a) v.once (begins_append s.painted s.waiting (base_of a / 16) (begins_in s.painted (base_of a / 16) (λ r x. (v.painted r x).1.some) (v.regs_new i a e)) new));
    apart = λ r x. elim (among_push s.waiting _ r x) [ inl h ↦ v.apart r h | inr q ↦ ap (λ (y : Run). in_runs s.painted y.start) q ∙ v.regs_new i a e ];
    numbered = v.numbered;
    idle = v.idle;
    regs_new = v.regs_new;
    tags_new = v.tags_new;
  }
    where
      own : Sound s.cells b.latest b.grants a (b.registers i)
      own = v.regs i a e

      some : 0 < run_length s.cells (base_of a / 16)
      some = let z = a.nonempty in omega arith

  pub inv_byte : (i x : ℕ) → i < 16 * K.memory_granules → Inv K (with_byte s i x) b
  inv_byte i x lt = inv_kept s.registers (set s.bytes i x) (set s.tags (i / 16) false) s.sweep b.registers b.granules v.shaped (simp length-set) (simp length-set) regs_kept
      (λ g t.
      let (ne, old) = not_cleared (eqb g (i / 16)) (sym (get_set s.tags (i / 16) g false false (omega (arith, v.l_tags))) ∙ t) in
      let (a, at, o) = v.mem g old in
      (a, read_set s.bytes i x g (omega (arith, v.l_bytes)) (eqb-false g (i / 16) ne) ∙ at, o, mem_new g old a at))
      v.idle (λ p e. (v.tags_new p e).0)

  pub inv_capability : (g₀ : ℕ) (c : Capability) (e : Option Entry) → g₀ < K.memory_granules → Sound s.cells b.latest b.grants c e → in_runs s.painted (base_of c / 16) ≡ false
      → Inv K (with_capability s g₀ c) (with_granule b g₀ e)
  inv_capability g₀ c e lt o un = inv_kept s.registers (with_image s.bytes g₀ (Some c)) (set s.tags g₀ true) s.sweep b.registers (put_at b.granules g₀ e) v.shaped (length_image s.bytes g₀ c fits) (simp length-set) regs_kept
      (λ g t.
      elim (cases_Bool (eqb g g₀)) [
        | inl y ↦ (
          c,
          ap (capability_at (with_image s.bytes g₀ (Some c))) (eqb-true g g₀ y) ∙ read_image s.bytes g₀ c fits,
          rw y o,
          λ p q h. un,
        )
        | inr n ↦ let old : get_or s.tags g false ≡ true = sym (cond-false (eqb g g₀) true (get_or s.tags g false) n) ∙ (sym (get_set s.tags g₀ g true false (omega (arith, v.l_tags))) ∙ t) in
            let (a, at, o') = v.mem g old in (
              a,
              read_other s.bytes g₀ c g fits (eqb-false g g₀ n) ∙ at,
              subst (λ (x : Option Entry). Sound s.cells b.latest b.grants a x) (sym (cond-false (eqb g g₀) e (b.granules g) n)) o',
              mem_new g old a at,
            )
      ])
      v.idle (λ p e. (v.tags_new p e).0)
    where
      fits : 16 * g₀ + 16 ≤ length s.bytes
      fits = omega (arith, v.l_bytes)

-- a run is granted
module _ (K : Fixed) (s : State) (b : Ledger) (v : Inv K s b) (c r n at next : ℕ) (w : Capability) (made : capability_of (16 * at) (16 * at + 16 * n) all_permissions ≡ Some w)
    (hc : c < 8) (hr : r < 8) (pos : 0 < n) (same : K.memory_granules ≡ K.allocator_granules) (room : FreeAt s.cells at n) where
  there : (j : ℕ) → reg (with_register (with_map s (paste s.cells at (run_of n) n) next) c r (Some w)) j ≡ cond (eqb j (slot c r)) (Some w) (reg s j)
  there j = reg_put s.registers c r j (Some w) v.shaped hc hr

  spans : (base_of w ≡ 16 * at) × (top_of w ≡ 16 * at + 16 * n)
  spans = let m = made_numbers _ _ _ w made in (m.0, m.1)

  abbrev Live' : ℕ → Run → Type 0
  Live' k x = Live (grown s.cells b.latest b.grants at n b.next c w made pos room) (later s.cells b.latest b.grants at n b.next c w made pos room) (more s.cells b.latest b.grants at n b.next c w made pos room) k x

  abbrev Sound' : Capability → Option Entry → Type 0
  Sound' a o = Sound (grown s.cells b.latest b.grants at n b.next c w made pos room) (later s.cells b.latest b.grants at n b.next c w made pos room) (more s.cells b.latest b.grants at n b.next c w made pos room) a o

  live_up : {k : ℕ} {x : Run} → Live s.cells b.latest b.grants k x → Live' k x
  live_up l = live_grown s.cells b.latest b.grants at n b.next c w made pos room (v.numbered _ _ l.granted).0 l

  up : {a : Capability} {o : Option Entry} → Sound s.cells b.latest b.grants a o → Sound' a o
  up o = sound_grown s.cells b.latest b.grants at n b.next c w made pos room o (v.numbered _ _ o.live.granted).0

  new : Sound' w (Some (record { capability = w; provenance = b.next }))
  new = sound_new s.cells b.latest b.grants at n b.next c w made pos room

  free_there : (g : ℕ) → at ≤ g → g < at + n → get_or s.cells g Free ≡ Free
  free_there = (room_of s.cells at n room).1

  unpainted : in_runs s.painted (base_of w / 16) ≡ false
  unpainted =
      let e : base_of w / 16 ≡ at = omega (arith, spans) in
      ap (in_runs s.painted) e ∙ (false_from_ne_true _ λ y.
      let (x, am, lo, hi) = among_in s.painted at y in live_taken (v.painted x am).1 at lo hi (free_there at (omega arith) (omega arith)))

  still_ends : {k : ℕ} (x : Run) → Live s.cells b.latest b.grants k x → (get_or s.cells (x.start + x.length) Free ≡ Rest → ⊥) → get_or (paste s.cells at (run_of n) n) (x.start + x.length) Free ≡ Rest → ⊥
  still_ends x l old e = go (within at n (x.start + x.length)) (eqb (x.start + x.length) at) refl refl (sym (get_taken s.cells at n (x.start + x.length) pos room.0) ∙ e)
    where
      go : (t u : Bool) → within at n (x.start + x.length) ≡ t → eqb (x.start + x.length) at ≡ u → cond t (cond u First Rest) (get_or s.cells (x.start + x.length) Free) ≡ Rest → ⊥
      go true true p q z = cc
      go true false p q z =
          let h = within_true at n (x.start + x.length) p in
          let ne : x.start + x.length ≢ at = eqb-false (x.start + x.length) at q in
          let some = l.some in
          live_taken l (x.start + x.length - 1) (omega arith) (omega arith) (free_there (x.start + x.length - 1) (omega arith) (omega arith))
      go false u p q z = old z

  pub inv_grant : Inv K (with_register (with_map s (paste s.cells at (run_of n) n) next) c r (Some w)) (with_grant b c r w)
  inv_grant = record {
    sized = v.sized;
    l_bytes = v.l_bytes;
    l_tags = v.l_tags;
    l_cells = length_taken s.cells at n pos room.0 ∙ v.l_cells;
    shaped = shaped_put s.registers c r (Some w) v.shaped hc hr;
    regs = λ j a e.
        (elim (eqb j (slot c r)) as (λ t. cond t (Some w) (reg s j) ≡ Some a → Sound' a (cond t (Some (record { capability = w; provenance = b.next })) (b.registers j)))
        [ true ↦ λ q. subst (λ (x : Capability). Sound' x (Some (record { capability = w; provenance = b.next }))) (same_Some _ _ q) new | false ↦ λ q. up (v.regs j a q) ]) (sym (there j) ∙ e);
    mem = λ g t. let (a, q, o) = v.mem g t in (a, q, up o);
    waiting = λ r x. let (k, l) = v.waiting r x in (k, live_up l);
    painted = λ r x. let (k, l) = v.painted r x in (k, live_up l);
    ends = λ r x e. elim (among_append s.painted s.waiting r x) [
      | inl h ↦ let (k, l) = v.painted r h in still_ends r l (v.ends r x) e
      | inr h ↦ let (k, l) = v.waiting r h in still_ends r l (v.ends r x) e
    ];
    once = v.once;
    apart = v.apart;
    numbered = λ k g e. elim (cases_Bool (eqb k b.next)) [
      | inl y ↦ let q = rw y at e in
          let top : top_of w ≡ top_of g.whole = cc in
          let k-is : k ≡ b.next = eqb-true k b.next y in
          let l = v.l_cells in
          let inn = room.0 in
          let sp = spans in
          (omega arith, omega arith)
      | inr x ↦ let q = v.numbered k g (rw x at e) in (omega arith, q.1)
    ];
    idle = v.idle;
    regs_new = λ j a e.
        (elim (eqb j (slot c r)) as (λ t. cond t (Some w) (reg s j) ≡ Some a → in_runs s.painted (base_of a / 16) ≡ false)
        [ true ↦ λ q. ap (λ (x : Capability). in_runs s.painted (base_of x / 16)) (sym (same_Some _ _ q)) ∙ unpainted | false ↦ λ q. v.regs_new j a q ]) (sym (there j) ∙ e);
    tags_new = v.tags_new;
  }
