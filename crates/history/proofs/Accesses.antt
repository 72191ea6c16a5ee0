-- Every accepted load, store or free is rightful.
use Rattle.std.proofs.Common.{◌≡◌, ℕ, ◌<◌, ◌≤◌, Some, Ok, sym, ◌∙◌, subst, arith}
use Rattle.std.proofs.lemmas.Option.{same_Some, none-some}
use Rattle.authority.specs.Capabilities.{base_of, top_of}
use Rattle.authority.specs.declared.capability.Capability.{Capability}
use Rattle.machine.specs.Calls.{Call}
use Rattle.machine.specs.Model.{Effect, Fixed, State, fresh_state, outcome, register_at}
use Rattle.history.specs.Histories.{after}
use Rattle.history.specs.Ledgers.{Ledger, empty_ledger, slot}
use Rattle.history.specs.Provenance.{Access, AccessesFollowProvenance, AllowsAll, Rightful, access_of, ledger}
use Rattle.history.proofs.Base.{err_ok}
use Rattle.history.proofs.Invariant.{Inv}
use Rattle.history.proofs.Laws.{reg_slot}
use Rattle.history.proofs.Live.{sound_span}
use Rattle.history.proofs.Steps.{inv_fresh, inv_run}
use Rattle.history.proofs.View.{View, v_free, v_getb, v_getc, v_no, v_putb, v_putc, view}

module _ (K : Fixed) (s : State) (b : Ledger) (v : Inv K s b) where
  -- an access through a register's capability, within it and with the permissions needed
  through : {w u : Access} → Some w ≡ Some u → (a : Capability) → w.register < 8 → register_at s w.compartment w.register ≡ Some a → base_of a ≤ w.low a → w.high a ≤ top_of a → AllowsAll a w.needs
      → Rightful s b u
  through {w = u} {u = u'} same a hr e lo hi perms =
      let o = v.regs (slot u.compartment u.register) a (sym (reg_slot s u.compartment u.register hr) ∙ e) in
      let (x, y, z) = sound_span o in
      subst (Rightful s b) (same_Some _ _ same) (record {
        capability = a;
        provenance = o.provenance;
        from = record { to = o.live.to; whole = o.live.whole };
        holds = e;
        recorded = o.recorded;
        granted = o.live.granted;
        within = o.inside;
        latest = λ i l h. o.live.mine i (omega arith) (omega arith);
        inside = (lo, hi);
        permitted = perms;
      })

  rightful : (u : Access) {x : Call} {d : Effect} → View K s x d → access_of x ≡ Some u → (n : ℕ) → outcome d ≡ Ok n → Rightful s b u
  rightful u (v_free a hc hr at own al whole new) e n q = through e a hr at (omega arith) (omega arith) (own, tt)
  rightful u (v_getb a hc hr at load lt) e n q = through e a hr at (omega arith) (omega arith) (load, tt)
  rightful u (v_putb a hc hr at store lt) e n q = through e a hr at (omega arith) (omega arith) (store, tt)
  rightful u (v_putc a a' hc hr ht at at' store caps lt al) e n q = through e a hr at (omega arith) (omega arith) (store, (caps, tt))
  rightful u (v_getc a a' hc hr ht at load caps lt al tag is new) e n q = through e a hr at (omega arith) (omega arith) (load, (caps, tt))
  rightful u v_no e n q = err_ok q
  rightful u _ e n q = absurd (none-some _ e)

pub accesses_follow_provenance : AccessesFollowProvenance
accesses_follow_provenance K p x u a sized e q = rightful K (after K p) (ledger K p) (inv_run K p (fresh_state K) empty_ledger (inv_fresh K sized)) u (view K (after K p) x) e a q
