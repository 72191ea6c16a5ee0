-- Every call, and so every history, keeps the invariant.
use Rattle.std.proofs.Common.{◌≡◌, ℕ, ◌+◌, ◌-◌, ◌*◌, ◌/◌, ◌<◌, ◌≤◌, false, List, [], ◌∷◌, Some, None, Option, sym, refl, ap, ◌∙◌, subst, arith}
use Rattle.std.proofs.lemmas.Bool.{both_ways}
use Rattle.std.proofs.lemmas.Option.{same_Some, none-some}
use lib.ListN.{length-replicate}
use lib.Seq.{paste}
use Rattle.allocator.specs.declared.cell.Cell.TheVariants.{Free}
use Rattle.allocator.specs.Maps.{run_of}
use Rattle.authority.specs.Capabilities.{base_of, top_of, capability_of}
use Rattle.authority.specs.Masks.{all_permissions}
use Rattle.authority.specs.declared.capability.Capability.{Capability}
use Rattle.machine.specs.Calls.{Call}
use Rattle.machine.specs.Model.{Effect, Fixed, State, fresh_state, outcome, register_at, state_after, with_map, with_passed, with_register}
use Rattle.machine.specs.Rules.{derived}
use Rattle.machine.specs.Runs.{in_runs}
use Rattle.history.specs.Histories.{Sized, outcomes, state_after_all}
use Rattle.history.specs.Ledgers.{Entry, Ledger, derived_entry, empty_ledger, granted, note, noted_all, slot, with_entry, with_provenance}
use Rattle.history.proofs.Base.{none_at}
use Rattle.history.proofs.Changes.{idle_open, inv_byte, inv_capability, inv_end, inv_free, inv_grant, inv_open, inv_pass, inv_reg, inv_shut, not_painted, whole_made}
use Rattle.history.proofs.Invariant.{Inv, Sound}
use Rattle.history.proofs.Laws.{derived_within, reg, reg_fresh, reg_slot, shaped_fresh, within_bounds, within_derived}
use Rattle.history.proofs.Live.{sound_base, sound_span, wholly}
use Rattle.history.proofs.View.{View, v_no, v_grant, v_free, v_derive, v_getb, v_putb, v_putc, v_getc, v_give, v_drop, v_open, v_pass, v_end, v_shut, view}

-- the top of a register's capability
pub reg_top : (K : Fixed) (s : State) (b : Ledger) → Inv K s b → (i : ℕ) (a : Capability) → reg s i ≡ Some a → top_of a ≤ 16 * K.memory_granules
reg_top K s b v i a e =
    let o = v.regs i a e in
    let h = (v.numbered o.provenance _ o.live.granted).1 in
    let w = within_bounds a o.live.whole o.inside in
    omega arith

-- what is derived from a register's capability
derives : (K : Fixed) (s : State) (b : Ledger) (v : Inv K s b) (i : ℕ) (a d : Capability) (lo len p : ℕ) → reg s i ≡ Some a → derived a lo len p ≡ Some d
    → Sound s.cells b.latest b.grants d (derived_entry (b.registers i) lo len p) × (in_runs s.painted (base_of d / 16) ≡ false)
derives K s b v i a d lo len p e q =
    let o = v.regs i a e in
    let own = sound_base o in
    let (x, y, z) = sound_span o in
    let w = within_bounds d a (derived_within a d lo len p q) in
    let some = d.nonempty in (
      record {
        provenance = o.provenance;
        run = o.run;
        recorded = ap (λ (t : Option Entry). derived_entry t lo len p) o.recorded ∙ ap (with_provenance o.provenance) q;
        live = o.live;
        inside = within_derived a o.live.whole d lo len p o.inside q;
      },
      wholly s.painted v.painted o.live (base_of a / 16) own.0 own.1 (v.regs_new i a e) (base_of d / 16) (omega arith) (omega arith),
    )

-- a register's capability goes to another place
module _ (K : Fixed) (s : State) (b : Ledger) (v : Inv K s b) where
  to_register : (c r : ℕ) → c < 8 → r < 8 → (a : Capability) (e : Option Entry) → Sound s.cells b.latest b.grants a e → in_runs s.painted (base_of a / 16) ≡ false
      → Inv K (with_register s c r (Some a)) (with_entry b (slot c r) e)
  to_register c r hc hr a e o new = inv_reg K s b v c r hc hr (Some a) e λ x q.
      subst (λ (y : Capability). Sound s.cells b.latest b.grants y e × (in_runs s.painted (base_of y / 16) ≡ false)) (same_Some _ _ q) (o, new)

  at_slot : (c r : ℕ) (a : Capability) → r < 8 → register_at s c r ≡ Some a → reg s (slot c r) ≡ Some a
  at_slot c r a hr e = sym (reg_slot s c r hr) ∙ e

  granting : (c r n at next : ℕ) → c < 8 → r < 8 → 0 < n → K.memory_granules ≡ K.allocator_granules → K.place s.cells s.mark n ≡ Some (at, next)
      → Inv K (with_register (with_map s (paste s.cells at (run_of n) n) next) c r (capability_of (16 * at) (16 * at + 16 * n) all_permissions))
      (granted b c r (capability_of (16 * at) (16 * at + 16 * n) all_permissions))
  granting c r n at next hc hr pos same e =
      let room = K.lawful.answered s.cells s.mark n at next pos e in
      let fits = room.0 in
      let l = v.l_cells in
      let z = v.sized in
      let (w, made) = whole_made (16 * at) (16 * at + 16 * n) (omega arith) (omega arith) in
      rw made
      (inv_grant K s b v c r n at next w made hc hr pos same room)

pub inv_step : (K : Fixed) (s : State) (b : Ledger) → Inv K s b → {x : Call} {d : Effect} → View K s x d → Inv K (state_after s d) (note b x (outcome d))
inv_step K s b v v_no = v
inv_step K s b v (v_grant {c} {r} {n} at next hc hr pos same e) = granting K s b v c r n at next hc hr pos same e
inv_step K s b v (v_free {c} {r} a hc hr e own al whole new) = inv_free K s b v (slot c r) a (at_slot K s b v c r a hr e) al whole new
inv_step K s b v (v_derive {c} {r} {t} {lo} {len} {p} a d hc hr ht e q) =
    let h = derives K s b v (slot c t) a d lo len p (at_slot K s b v c t a ht e) q in
    to_register K s b v c r hc hr d (derived_entry (b.registers (slot c t)) lo len p) h.0 h.1
inv_step K s b v (v_getb a hc hr e perm lt) = v
inv_step K s b v (v_putb {c} {r} {off} {v = x} a hc hr e perm lt) =
    let top = reg_top K s b v (slot c r) a (at_slot K s b v c r a hr e) in
    inv_byte K s b v (base_of a + off) x (omega arith)
inv_step K s b v (v_putc {c} {r} {off} {t} a a' hc hr ht e e' store caps lt al) =
    let q = at_slot K s b v c r a hr e in
    let q' = at_slot K s b v c t a' ht e' in
    let top = reg_top K s b v (slot c r) a q in
    rw (v.regs (slot c r) a q).recorded
    (inv_capability K s b v ((base_of a + off) / 16) a' (b.registers (slot c t)) (omega arith) (v.regs (slot c t) a' q') (v.regs_new (slot c t) a' q'))
inv_step K s b v (v_getc {c} {r} {off} {t} a a' hc hr ht e load caps lt al tag at new) =
    let q = at_slot K s b v c r a hr e in
    let (x, is, o) = v.mem ((base_of a + off) / 16) tag in
    rw (v.regs (slot c r) a q).recorded
    (to_register K s b v c t hc ht a' (b.granules ((base_of a + off) / 16))
    (subst (λ (y : Capability). Sound s.cells b.latest b.grants y (b.granules ((base_of a + off) / 16))) (same_Some _ _ (sym is ∙ at)) o) (not_painted K s b v a' new))
inv_step K s b v (v_give {c} {r} {d} {t} a hc hr hd ht e) =
    let q = at_slot K s b v c r a hr e in
    to_register K s b v d t hd ht a (b.registers (slot c r)) (v.regs (slot c r) a q) (v.regs_new (slot c r) a q)
inv_step K s b v (v_drop {c} {r} hc hr) = inv_reg K s b v c r hc hr None None λ a q. absurd (none-some _ q)
inv_step K s b v (v_open e) = inv_open K s b v e
inv_step K s b v (v_pass {k} p pos e lt) = inv_pass K s b v p k e (omega arith)
inv_step K s b v (v_end {k} p pos e le) =
    let h = (v.tags_new p e).0 in
    inv_end K (with_passed s p (K.memory_granules - p)) b (inv_pass K s b v p (K.memory_granules - p) e (omega arith)) (p + (K.memory_granules - p)) refl (omega arith)
inv_step K s b v (v_shut p e) = inv_shut K s b v

pub inv_run : (K : Fixed) (xs : List Call) (s : State) (b : Ledger) → Inv K s b → Inv K (state_after_all K s xs) (noted_all b xs (outcomes K s xs))
inv_run K [] s b v = v
inv_run K (x ∷ xs) s b v = inv_run K xs _ _ (inv_step K s b v (view K s x))

pub inv_fresh : (K : Fixed) → Sized K → Inv K (fresh_state K) empty_ledger
inv_fresh K h = record {
  sized = h;
  l_bytes = length-replicate (16 * K.memory_granules) 0;
  l_tags = length-replicate K.memory_granules false;
  l_cells = length-replicate K.allocator_granules Free;
  shaped = shaped_fresh;
  regs = λ i a e. absurd (none-some _ (sym (reg_fresh i) ∙ e));
  mem = λ g e. absurd (both_ways _ (none_at K.memory_granules g false) e);
  waiting = λ r x. absurd x;
  painted = λ r x. absurd x;
  ends = λ r x. absurd x;
  once = tt;
  apart = λ r x. absurd x;
  numbered = λ k g e. absurd (none-some _ e);
  idle = λ e. refl;
  regs_new = λ i a e. refl;
  tags_new = λ p e. idle_open e;
}
