-- Free granules are clean, and no capability crosses between group and others.
use Rattle.std.proofs.Common.{◌≡◌, ℕ, ◌+◌, ◌-◌, ◌*◌, ◌/◌, ◌<◌, ◌≤◌, Bool, true, false, cond, ◌&&◌, eqb, ltb, leb, List, get_or, set, Some, None, Option, sym, refl, ap, ◌∙◌, subst, inl, inr, arith}
use Rattle.std.proofs.lemmas.Option.{none-some, same_Some}
use lib.Seq.{paste}
use Rattle.std.proofs.lemmas.Bool.{cases_Bool, eq-eqb, eqb-true, ne_eqb, false_from_ne_true, both_ways}
use Rattle.allocator.specs.declared.cell.Cell.{Cell}
use Rattle.allocator.specs.declared.cell.Cell.TheVariants.{Free}
use Rattle.allocator.specs.Maps.{run_of}
use Rattle.authority.specs.Capabilities.{base_of, top_of}
use Rattle.authority.specs.declared.capability.Capability.{Capability}
use Rattle.machine.specs.Calls.{Call}
use Rattle.machine.specs.Model.{Fixed, State, Effect, outcome, state_after, with_register, with_register_in, with_map, with_byte, with_capability, with_passed, with_ended}
use Rattle.machine.specs.Rules.{derived}
use Rattle.machine.specs.Runs.{in_runs}
use Rattle.history.specs.Isolation.{Group, GivesApart}
use Rattle.history.specs.Ledgers.{Entry, Grant, Ledger, derived_entry, note, slot, with_entry, with_grant, with_granule, with_provenance}
use Rattle.history.proofs.Authorities.{made_numbers}
use Rattle.history.proofs.Base.{not_cleared, within, within_true}
use Rattle.history.proofs.Changes.{inv_pass, painted_released, painted_wiped_bytes, painted_wiped_tags, whole_made}
use Rattle.history.proofs.Invariant.{Inv, Sound}
use Rattle.history.proofs.Laws.{get_image, get_swept, get_taken, reg, reg_emptied, reg_in, reg_put, reg_slot, slot_row, survived}
use Rattle.history.proofs.Live.{live_taken, sound_span}
use Rattle.history.proofs.Places.{get_set}
use Rattle.history.proofs.Rooms.{Room, room_of, span_in, span_same}
use Rattle.history.proofs.Steps.{reg_top}
use Rattle.history.proofs.View.{View, v_no, v_grant, v_free, v_derive, v_getb, v_putb, v_putc, v_getc, v_give, v_drop, v_open, v_pass, v_end, v_shut}

-- what descends from the entry's grant is of the side y
abbrev pub Side : Group → (ℕ → Option Grant) → Option Entry → Bool → Type 0
Side m grants o y = (n : Entry) (w : Grant) → o ≡ Some n → grants n.provenance ≡ Some w → m w.to ≡ y

pub record Tidy (m : Group) (s : State) (b : Ledger) : Type 0 where
  pub free_tags : (g : ℕ) → get_or s.cells g Free ≡ Free → get_or s.tags g false ≡ false
  pub free_bytes : (i : ℕ) → get_or s.cells (i / 16) Free ≡ Free → get_or s.bytes i 0 ≡ 0
  pub dated : (i k : ℕ) → b.latest i ≡ Some k → k < b.next
  pub even : (i j : ℕ) → i / 16 ≡ j / 16 → b.latest i ≡ b.latest j
  pub reg_side : (i : ℕ) (a : Capability) → reg s i ≡ Some a → Side m b.grants (b.registers i) (m (i / 8))
  pub mem_side : (g k : ℕ) (w : Grant) → get_or s.tags g false ≡ true → b.latest (16 * g) ≡ Some k → b.grants k ≡ Some w → Side m b.grants (b.granules g) (m w.to)

-- what is cleared, or was clear before
clear_still : {X : Type 0} (t : Bool) {x y : X} → (t ≡ false → y ≡ x) → cond t x y ≡ x
clear_still true h = refl
clear_still false h = h refl

module _ (m : Group) (K : Fixed) (s : State) (b : Ledger) (v : Inv K s b) (d : Tidy m s b) where
  -- the granule of a register's capability is taken, and belongs to the register's side
  pub reg_taken : (i : ℕ) (a : Capability) → reg s i ≡ Some a → (x : ℕ) → base_of a ≤ x → x < top_of a → get_or s.cells (x / 16) Free ≡ Free → ⊥
  reg_taken i a e x lo hi =
      let o = v.regs i a e in
      let z = sound_span o in
      live_taken o.live (x / 16) (omega arith) (omega arith)

  pub reg_owner : (i : ℕ) (a : Capability) → reg s i ≡ Some a → (x : ℕ) → base_of a / 16 ≤ x / 16 → x / 16 ≤ (top_of a - 1) / 16
      → (k : ℕ) (w : Grant) → b.latest x ≡ Some k → b.grants k ≡ Some w → m w.to ≡ m (i / 8)
  reg_owner i a e x lo hi k w l q =
      let o = v.regs i a e in
      let u = sound_span o in
      let n = a.nonempty in
      let z = o.live.mine x (omega arith) (omega arith) in
      let y : o.provenance ≡ k = same_Some _ _ (sym z ∙ l) in
      d.reg_side i a e (record { capability = a; provenance = o.provenance }) w o.recorded (ap b.grants y ∙ q)

  tidy_reg : (c r : ℕ) → c < 8 → r < 8 → (o : Option Capability) (e : Option Entry) → ((a : Capability) → o ≡ Some a → Side m b.grants e (m c))
      → Tidy m (with_register s c r o) (with_entry b (slot c r) e)
  tidy_reg c r hc hr o bo h = record {
    free_tags = d.free_tags;
    free_bytes = d.free_bytes;
    dated = d.dated;
    even = d.even;
    mem_side = d.mem_side;
    reg_side = λ j a e. let q = sym (there j) ∙ e in elim (cases_Bool (eqb j (slot c r))) [
      | inl y ↦ let z : c ≡ j / 8 = omega (arith, eqb-true j (slot c r) y) in rw y (rw z at (h a (rw y at q)))
      | inr n ↦ rw n (d.reg_side j a (rw n at q))
    ];
  }
    where
      there : (j : ℕ) → reg_in (with_register_in s.registers c r o) j ≡ cond (eqb j (slot c r)) o (reg s j)
      there j = reg_put s.registers c r j o v.shaped hc hr

  tidy_byte : (a x : ℕ) → a < 16 * K.memory_granules → (get_or s.cells (a / 16) Free ≡ Free → ⊥) → Tidy m (with_byte s a x) b
  tidy_byte a x lt tk = record {
    free_tags = λ g e. tag g ∙ clear_still (eqb g (a / 16)) (λ _. d.free_tags g e);
    free_bytes = λ i e. rw (get_set s.bytes a i x 0 (omega (arith, v.l_bytes)), ne_eqb i a (λ q. tk (rw q at e))) (d.free_bytes i e);
    dated = d.dated;
    even = d.even;
    reg_side = d.reg_side;
    mem_side = λ g k w t. d.mem_side g k w (not_cleared _ (sym (tag g) ∙ t)).1;
  }
    where
      tag : (g : ℕ) → get_or (set s.tags (a / 16) false) g false ≡ cond (eqb g (a / 16)) false (get_or s.tags g false)
      tag g = get_set s.tags (a / 16) g false false (omega (arith, v.l_tags))

  tidy_cap : (g₀ : ℕ) (c : Capability) (o : Option Entry) → g₀ < K.memory_granules → (get_or s.cells g₀ Free ≡ Free → ⊥)
      → ((k : ℕ) (w : Grant) → b.latest (16 * g₀) ≡ Some k → b.grants k ≡ Some w → Side m b.grants o (m w.to)) → Tidy m (with_capability s g₀ c) (with_granule b g₀ o)
  tidy_cap g₀ c o lt tk h = record {
    free_tags = λ g e. rw (tag g, ne_eqb g g₀ (λ q. tk (rw q at e))) (d.free_tags g e);
    free_bytes = λ i e. rw (
      get_image s.bytes g₀ c i (omega (arith, v.l_bytes)),
      false_from_ne_true (within (16 * g₀) 16 i) (λ y.
          let u = within_true (16 * g₀) 16 i y in
          let z : i / 16 ≡ g₀ = omega arith in
          tk (rw z at e)),
    ) (d.free_bytes i e);
    dated = d.dated;
    even = d.even;
    reg_side = d.reg_side;
    mem_side = λ g k w t l q. elim (cases_Bool (eqb g g₀)) [
      | inl y ↦ rw y (h k w (ap (λ (j : ℕ). b.latest (16 * j)) (sym (eqb-true g g₀ y)) ∙ l) q)
      | inr n ↦ rw n (d.mem_side g k w (rw n at (sym (tag g) ∙ t)) l q)
    ];
  }
    where
      tag : (g : ℕ) → get_or (set s.tags g₀ true) g false ≡ cond (eqb g g₀) true (get_or s.tags g false)
      tag g = get_set s.tags g₀ g true false (omega (arith, v.l_tags))

  tidy_grant : (c r n at next : ℕ) → c < 8 → r < 8 → 0 < n → Room s.cells at n → (it : Capability) → base_of it ≡ 16 * at → top_of it ≡ 16 * at + 16 * n
      → Tidy m (with_register (with_map s (paste s.cells at (run_of n) n) next) c r (Some it)) (with_grant b c r it)
  tidy_grant c r n at next hc hr pos rm it from to = record {
    free_tags = λ g e. d.free_tags g (was_free g e);
    free_bytes = λ i e. d.free_bytes i (was_free (i / 16) e);
    dated = λ i k e. (elim (cases_Bool (fresh_byte i)) [
      | inl y ↦ let z : b.next ≡ k = same_Some _ _ (rw y at e) in omega arith
      | inr x ↦ let q = d.dated i k (rw x at e) in omega arith
    ]);
    even = λ i j e. ap (λ (x : Bool). cond x (Some b.next) (b.latest i)) (span_same (base_of it) (top_of it) at n i j from to e) ∙ ap (λ (x : Option ℕ). cond (fresh_byte j) (Some b.next) x) (d.even i j e);
    reg_side = λ j a e. elim (cases_Bool (eqb j (slot c r))) [
      | inl y ↦ λ q w eq has.
          let k : b.next ≡ q.provenance = ap (λ (x : Entry). x.provenance) (same_Some _ _ (rw y at eq)) in
          let t : c ≡ w.to = ap (λ (x : Grant). x.to) (same_Some _ _ (rw (eq-eqb q.provenance b.next (sym k)) at has)) in
          ap m (omega (arith, eqb-true j (slot c r) y))
      | inr x ↦ let was = rw x at (sym (there j) ∙ e) in rw x (older (v.regs j a was) (d.reg_side j a was))
    ];
    mem_side = λ g k w t l q. elim (cases_Bool (fresh_byte (16 * g))) [
      | inl y ↦ let z = span_in (base_of it) (top_of it) at n (16 * g) from to y in absurd (both_ways _ (d.free_tags g (rm.1 g (omega arith) (omega arith))) t)
      | inr x ↦ let l' = rw x at l in
          let lt = d.dated (16 * g) k l' in
          older (v.mem g t).2 (d.mem_side g k w t l' (rw (ne_eqb k b.next (omega arith)) at q))
    ];
  }
    where
      more : ℕ → Option Grant
      more = (with_grant b c r it).grants

      fresh_byte : ℕ → Bool
      fresh_byte j = leb (base_of it) j && ltb j (top_of it)

      there : (j : ℕ) → reg_in (with_register_in s.registers c r (Some it)) j ≡ cond (eqb j (slot c r)) (Some it) (reg s j)
      there j = reg_put s.registers c r j (Some it) v.shaped hc hr

      older : {a : Capability} {o : Option Entry} {y : Bool} → Sound s.cells b.latest b.grants a o → Side m b.grants o y → Side m more o y
      older w h q g eq has =
          let z : w.provenance ≡ q.provenance = ap (λ (x : Entry). x.provenance) (same_Some _ _ (sym w.recorded ∙ eq)) in
          let lt = (v.numbered w.provenance _ w.live.granted).0 in
          h q g eq (rw (ne_eqb q.provenance b.next (omega arith)) at has)

      was_free : (g : ℕ) → get_or (paste s.cells at (run_of n) n) g Free ≡ Free → get_or s.cells g Free ≡ Free
      was_free g e = elim (cases_Bool (within at n g)) [
        | inl y ↦ let z = within_true at n g y in rm.1 g z.0 z.1
        | inr x ↦ rw x at (sym (get_taken s.cells at n g pos rm.0) ∙ e)
      ]

  -- a change that only takes tags and registers, and leaves the rest
  tidy_fewer : (t : State) → t.cells ≡ s.cells → t.bytes ≡ s.bytes → ((g : ℕ) → get_or t.tags g false ≡ true → get_or s.tags g false ≡ true)
      → ((i : ℕ) (a : Capability) → reg t i ≡ Some a → reg s i ≡ Some a) → Tidy m t b
  tidy_fewer t es eb ht hr = record {
    free_tags = λ g e. false_from_ne_true _ λ y. both_ways _ (d.free_tags g (ap (λ (l : List Cell). get_or l g Free) (sym es) ∙ e)) (ht g y);
    free_bytes = λ i e. ap (λ (l : List ℕ). get_or l i 0) eb ∙ d.free_bytes i (ap (λ (l : List Cell). get_or l (i / 16) Free) (sym es) ∙ e);
    dated = d.dated;
    even = d.even;
    reg_side = λ i a e. d.reg_side i a (hr i a e);
    mem_side = λ g k w x. d.mem_side g k w (ht g x);
  }

  tidy_end : Tidy m (with_ended s) b
  tidy_end = record {
    free_tags = λ g e. painted_wiped_tags K s b v g ∙ clear_still (in_runs s.painted g) (λ n. d.free_tags g (rw n at (sym (painted_released K s b v g) ∙ e)));
    free_bytes = λ i e. painted_wiped_bytes K s b v i ∙ clear_still (in_runs s.painted (i / 16)) (λ n. d.free_bytes i (rw n at (sym (painted_released K s b v (i / 16)) ∙ e)));
    dated = d.dated;
    even = d.even;
    reg_side = d.reg_side;
    mem_side = λ g k w x. d.mem_side g k w (not_cleared _ (sym (painted_wiped_tags K s b v g) ∙ x)).1;
  }

  pub tidy_pass : (p k : ℕ) → Tidy m (with_passed s p k) b
  tidy_pass p k = tidy_fewer (with_passed s p k) refl refl
      (λ g x. (not_cleared _ (sym (get_swept s.painted s.bytes p k g s.tags) ∙ x)).1) (λ i a e. e)

derived_side : (m : Group) (grants : ℕ → Option Grant) (o : Option Entry) (lo len p : ℕ) (y : Bool) → Side m grants o y → Side m grants (derived_entry o lo len p) y
derived_side m grants None lo len p y h n w e has = cc
derived_side m grants (Some x) lo len p y h n w e has = go (derived x.capability lo len p) e
  where
    go : (q : Option Capability) → with_provenance x.provenance q ≡ Some n → m w.to ≡ y
    go None e = cc
    go (Some c) e = let k : x.provenance ≡ n.provenance = cc in h x w refl (ap grants k ∙ has)

pub tidy_step : (m : Group) (K : Fixed) (s : State) (b : Ledger) → Inv K s b → Tidy m s b → {x : Call} {d : Effect} → GivesApart m x → View K s x d
    → Tidy m (state_after s d) (note b x (outcome d))
tidy_step m K s b v t gift v_no = t
tidy_step m K s b v t gift (v_grant {c} {r} {n} at next hc hr pos same e) =
    let rm = room_of s.cells at n (K.lawful.answered s.cells s.mark n at next pos e) in
    let w = whole_made (16 * at) (16 * at + 16 * n) (omega arith) (omega (arith, rm.0, v.l_cells, same, v.sized)) in
    let z = made_numbers _ _ _ w.0 w.1 in
    rw w.1
    (tidy_grant m K s b v t c r n at next hc hr pos rm w.0 z.0 z.1)
tidy_step m K s b v t gift (v_free a hc hr e own al whole w) = tidy_fewer m K s b v t _ refl refl (λ g x. x) (λ i a e. e)
tidy_step m K s b v t gift (v_derive {c} {r} {t = u} {lo} {len} {p} a n hc hr ht e q) = tidy_reg m K s b v t c r hc hr (Some n) _ λ _ _.
    subst (λ (y : Bool). Side m b.grants (derived_entry (b.registers (slot c u)) lo len p) y) (ap m (slot_row c u ht))
    (derived_side m b.grants (b.registers (slot c u)) lo len p _ (t.reg_side (slot c u) a (sym (reg_slot s c u ht) ∙ e)))
tidy_step m K s b v t gift (v_getb a hc hr e al lt) = t
tidy_step m K s b v t gift (v_putb {c} {r} {off} {v = x} a hc hr e al lt) =
    let e₀ = sym (reg_slot s c r hr) ∙ e in
    tidy_byte m K s b v t (base_of a + off) x (omega (arith, lt, reg_top K s b v (slot c r) a e₀)) (reg_taken m K s b v t (slot c r) a e₀ (base_of a + off) (omega arith) (omega arith))
tidy_step m K s b v t gift (v_putc {c} {r} {off} {t = u} a a' hc hr ht e e' al al' lt ev) =
    let e₀ = sym (reg_slot s c r hr) ∙ e in
    let o = v.regs (slot c r) a e₀ in
    rw o.recorded
    (tidy_cap m K s b v t ((base_of a + off) / 16) a' (b.registers (slot c u)) (omega (arith, reg_top K s b v (slot c r) a e₀)) (reg_taken m K s b v t (slot c r) a e₀ (base_of a + off) (omega arith) (omega arith)) λ n w l q.
    subst (λ (y : Bool). Side m b.grants (b.registers (slot c u)) y)
    (ap m (slot_row c u ht ∙ sym (slot_row c r hr)) ∙ sym (reg_owner m K s b v t (slot c r) a e₀ (16 * ((base_of a + off) / 16)) (omega arith) (omega arith) n w l q))
    (t.reg_side (slot c u) a' (sym (reg_slot s c u ht) ∙ e')))
tidy_step m K s b v t gift (v_getc {c} {r} {off} {t = u} a a' hc hr ht e al al' lt ev tag cap new) =
    let e₀ = sym (reg_slot s c r hr) ∙ e in
    let o = v.regs (slot c r) a e₀ in
    let sp = sound_span o in
    let l = o.live.mine (16 * ((base_of a + off) / 16)) (omega arith) (omega arith) in
    rw o.recorded
    (tidy_reg m K s b v t c u hc ht (Some a') (b.granules ((base_of a + off) / 16)) λ _ _.
    subst (λ (y : Bool). Side m b.grants (b.granules ((base_of a + off) / 16)) y)
    (reg_owner m K s b v t (slot c r) a e₀ (16 * ((base_of a + off) / 16)) (omega arith) (omega arith) o.provenance _ l o.live.granted ∙ ap m (slot_row c r hr))
    (t.mem_side ((base_of a + off) / 16) o.provenance _ tag l o.live.granted))
tidy_step m K s b v t gift (v_give {c} {r} {d} {t = u} a hc hr hd ht e) = tidy_reg m K s b v t d u hd ht (Some a) _ λ _ _.
    rw (slot_row c r hr, gift) at (t.reg_side (slot c r) a (sym (reg_slot s c r hr) ∙ e))
tidy_step m K s b v t gift (v_drop {c} {r} hc hr) = tidy_reg m K s b v t c r hc hr None None λ a q. absurd (none-some _ q)
tidy_step m K s b v t gift (v_open e) = tidy_fewer m K s b v t _ refl refl (λ g x. x) (λ i a q. (survived s.waiting (reg s i) a (sym (reg_emptied s.waiting s.registers i) ∙ q)).0)
tidy_step m K s b v t gift (v_pass {k} p pos e lt) = tidy_pass m K s b v t p k
tidy_step m K s b v t gift (v_end {k} p pos e le) =
    let h = (v.tags_new p e).0 in
    tidy_end m K (with_passed s p (K.memory_granules - p)) b (inv_pass K s b v p (K.memory_granules - p) e (omega arith)) (tidy_pass m K s b v t p (K.memory_granules - p))
tidy_step m K s b v t gift (v_shut p e) = tidy_fewer m K s b v t _ refl refl (λ g x. x) (λ i a e. e)
