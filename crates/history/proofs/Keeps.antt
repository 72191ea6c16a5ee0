-- A call that both histories make has one outcome, and keeps the two machines alike.
use Rattle.std.proofs.Common.{◌≡◌, ℕ, ◌+◌, ◌-◌, ◌*◌, ◌/◌, ◌%◌, ◌<◌, ◌≤◌, Bool, true, false, cond, not, ◌&&◌, eqb, ltb, leb, length, Some, None, Ok, Err, Option, Result, sym, refl, ap, ◌∙◌, subst, arith}
use Rattle.std.proofs.lemmas.Bool.{and_parts, eqb-true, ltb-true}
use Rattle.allocator.specs.Allocators.{Allocation, allocating, denied_by, placed}
use Rattle.allocator.specs.Maps.{run_length, taken_in}
use Rattle.allocator.specs.declared.fault.AllocatorFault.TheVariants as A
use Rattle.authority.specs.Capabilities.{base_of, capability_of, capability_over, meet_authority, permissions_of, top_of}
use Rattle.authority.specs.Masks.{allows}
use Rattle.authority.specs.PermissionsMeet.{permissions_from}
use Rattle.authority.specs.declared.capability.Capability.{Capability}
use Rattle.authority.specs.declared.permission.Permission.TheVariants as P
use Rattle.authority.specs.declared.permissions.Permissions.{Permissions}
use Rattle.memory.specs.Memories.{byte_read, capability_stored, change_at, granule_at, granule_read, reaching, stored_answer}
use Rattle.memory.specs.declared.fault.MemoryFault.{MemoryFault}
use Rattle.memory.specs.declared.fault.MemoryFault.TheVariants as T
use Rattle.memory.specs.declared.granule.Granule.{Granule}
use Rattle.machine.specs.Answers.{granule_answer, length_of}
use Rattle.machine.specs.Calls.{Call}
use Rattle.machine.specs.Faults.{from_memory}
use Rattle.machine.specs.Model.{Fixed, State, Effect, denied, accepted, outcome, state_after, register_at, with_register, with_byte, with_capability, with_waiting, with_passed}
use Rattle.machine.specs.Rules.{perform, unless, held, vacant, permitted, by_memory, at_granule, granted, narrowed, loaded, wanted, is_revoked, is_whole, run_under, open_rule, stepped, shut_rule, is_register, is_operand}
use Rattle.machine.specs.Runs.{begins_at, most_runs}
use Rattle.machine.specs.declared.fault.MachineFault.{MachineFault}
use Rattle.machine.specs.declared.fault.MachineFault.TheVariants as F
use Rattle.quarantine.specs.declared.fault.QuarantineFault.TheVariants as Q
use Rattle.quarantine.specs.declared.sweep.Sweep.{Sweep}
use Rattle.quarantine.specs.declared.sweep.Sweep.TheVariants.{Idle, Open}
use Rattle.history.specs.Isolation.{Group, GivesApart, Outside, is_ours, is_struck}
use Rattle.history.specs.Ledgers.{Ledger, note, noted, slot}
use Rattle.history.proofs.Authorities.{made_numbers}
use Rattle.history.proofs.Both.{core_byte, core_cap, core_end, core_grant, core_paint, core_pass, core_reg, core_shut, core_wait, granule_alike}
use Rattle.history.proofs.Changes.{inv_pass, open_same, whole_made}
use Rattle.history.proofs.Core.{Core}
use Rattle.history.proofs.Invariant.{Inv}
use Rattle.history.proofs.Laws.{reg_slot, slot_row}
use Rattle.history.proofs.Live.{sound_span}
use Rattle.history.proofs.Rooms.{room_of}
use Rattle.history.proofs.Steps.{reg_top}
use Rattle.history.proofs.Tidy.{Tidy, tidy_pass}
use Rattle.history.proofs.View.{View, granting_is, granule_is, register_is, registers_are, v_free, v_no, view}

-- the same denial, or two accepted changes that R relates
pub data Match (R : ℕ → ℕ → State → State → Type 0) : Effect → Effect → Type 0 where
  m_no : {f : MachineFault} → Match R (denied f) (denied f)
  m_ok : {n n' : ℕ} {s t : State} → R n n' s t → Match R (accepted n s) (accepted n' t)

module _ {R : ℕ → ℕ → State → State → Type 0} where
  two_denied : (f f' : MachineFault) → f ≡ f' → Match R (denied f) (denied f')
  two_denied f f' e = subst (λ (h : MachineFault). Match R (denied f) (denied h)) e m_no

  two_unless : (p q : Bool) (f : MachineFault) {d e : Effect} → p ≡ q → (p ≡ true → Match R d e) → Match R (unless p f d) (unless q f e)
  two_unless true true f eq h = h refl
  two_unless false false f eq h = m_no
  two_unless _ _ f eq h = cc

  two_held : (x y : Option Capability) {k l : Capability → Effect} → x ≡ y → ((a : Capability) → x ≡ Some a → y ≡ Some a → Match R (k a) (l a)) → Match R (held x k) (held y l)
  two_held None None eq h = m_no
  two_held (Some a) (Some a') {k} {l} eq h = let z : a ≡ a' = cc in subst (λ z. Match R (k a) (l z)) z (h a refl (sym eq))
  two_held _ _ eq h = cc

  two_vacant : (x y : Option Capability) {d e : Effect} → x ≡ y → Match R d e → Match R (vacant x d) (vacant y e)
  two_vacant None None eq h = h
  two_vacant (Some a) (Some a') eq h = m_no
  two_vacant _ _ eq h = cc

  two_permitted : (x : Option Permissions) {k l : Permissions → Effect} → ((p : Permissions) → Match R (k p) (l p)) → Match R (permitted x k) (permitted x l)
  two_permitted None h = m_no
  two_permitted (Some p) h = h p

  two_memory : {X : Type 0} (x y : Result X MemoryFault) {k l : X → Effect} → x ≡ y → ((a : X) → x ≡ Ok a → Match R (k a) (l a)) → Match R (by_memory x k) (by_memory y l)
  two_memory (Err f) (Err f') eq h = two_denied (from_memory f) (from_memory f') (let z : f ≡ f' = cc in ap from_memory z)
  two_memory (Ok a) (Ok a') {k} {l} eq h = let z : a ≡ a' = cc in subst (λ z. Match R (k a) (l z)) z (h a refl)
  two_memory _ _ eq h = cc

  two_granule : (x : Result ℕ MachineFault) {k l : ℕ → Effect} → ((g : ℕ) → x ≡ Ok g → Match R (k g) (l g)) → Match R (at_granule x k) (at_granule x l)
  two_granule (Err f) h = m_no
  two_granule (Ok g) h = h g refl

  two_cond : (x : Bool) {d d' e e' : Effect} → (x ≡ true → Match R d e) → (x ≡ false → Match R d' e') → Match R (cond x d d') (cond x e e')
  two_cond true h k = h refl
  two_cond false h k = k refl

  two_narrowed : (s t : State) (c r : ℕ) (x : Option Capability) → ((a : Capability) → R (length_of a) (length_of a) (with_register s c r (Some a)) (with_register t c r (Some a)))
      → Match R (narrowed s c r x) (narrowed t c r x)
  two_narrowed s t c r None h = m_no
  two_narrowed s t c r (Some a) h = m_ok (h a)

  two_loaded : (s t : State) (c r : ℕ) (x : Option Capability) → s.sweep ≡ t.sweep → s.painted ≡ t.painted
      → ((a : Capability) → R 0 0 (with_register s c r (Some a)) (with_register t c r (Some a))) → Match R (loaded s c r x) (loaded t c r x)
  two_loaded s t c r None p q h = m_no
  two_loaded s t c r (Some a) p q h = two_unless _ _ _ (λ i. not (is_revoked (p i) (q i) a)) λ _. m_ok (h a)

-- the checks of a free, from the last on
abbrev freed : State → Capability → Effect
freed s a = accepted (base_of a) (with_waiting s (run_under s a))

abbrev if_room : State → Capability → Effect
if_room s a = unless (ltb (length s.waiting + length s.painted) most_runs) (F.Quarantine Q.QFull) (freed s a)

abbrev if_new : State → Capability → Effect
if_new s a = unless (not (begins_at s.waiting (base_of a / 16))) (F.Quarantine Q.Freed) (if_room s a)

abbrev if_whole : State → Capability → Effect
if_whole s a = unless (is_whole s a) F.NotWhole (if_new s a)

-- what follows once a register is read
abbrev getb_at : State → ℕ → Effect
getb_at s i = by_memory (byte_read s.bytes i) λ v. accepted v s

abbrev getb_in : State → ℕ → Capability → Effect
getb_in s off a = unless (ltb off (length_of a)) F.Bounds (getb_at s (base_of a + off))

abbrev getb_from : State → ℕ → Capability → Effect
getb_from s off a = unless (allows (permissions_of a) P.Load) F.Perm (getb_in s off a)

abbrev putb_at : State → ℕ → ℕ → Effect
putb_at s v i = by_memory (change_at i (length s.bytes)) λ _. accepted 0 (with_byte s i v)

abbrev putb_in : State → ℕ → ℕ → Capability → Effect
putb_in s off v a = unless (ltb off (length_of a)) F.Bounds (putb_at s v (base_of a + off))

abbrev putb_from : State → ℕ → ℕ → Capability → Effect
putb_from s off v a = unless (allows (permissions_of a) P.Store) F.Perm (putb_in s off v a)

abbrev putc_at : State → Capability → ℕ → Effect
putc_at s b g = by_memory (capability_stored s.bytes s.tags g (base_of b) (top_of b) (permissions_of b)) λ _. accepted 0 (with_capability s g b)

abbrev putc_from : State → ℕ → Capability → Capability → Effect
putc_from s off a b = unless (allows (permissions_of a) P.Store && allows (permissions_of a) P.Capabilities) F.Perm (at_granule (granule_answer a off) (putc_at s b))

abbrev getc_granule : State → ℕ → ℕ → Granule → Effect
getc_granule s c t x = unless x.tagged F.NoCap (loaded s c t (capability_of x.numbers.base x.numbers.top x.numbers.permissions))

abbrev getc_at : State → ℕ → ℕ → ℕ → Effect
getc_at s c t g = by_memory (granule_read s.bytes s.tags g) (getc_granule s c t)

abbrev getc_from : State → ℕ → ℕ → ℕ → Capability → Effect
getc_from s c off t a = unless (allows (permissions_of a) P.Load && allows (permissions_of a) P.Capabilities) F.Perm (at_granule (granule_answer a off) (getc_at s c t))

abbrev give_from : State → ℕ → ℕ → Capability → Effect
give_from s d t a = unless (allows (permissions_of a) P.Give) F.Perm (vacant (register_at s d t) (accepted 0 (with_register s d t (Some a))))

module _ (m : Group) (K : Fixed) (s t : State) (b c : Ledger) (v : Inv K s b) (v' : Inv K t c) (d : Tidy m s b) (d' : Tidy m t c) (o : Core m s t b c) where
  abbrev Agrees : Call → ℕ → ℕ → State → State → Type 0
  Agrees x n n' s' t' = (n ≡ n') × Core m s' t' (noted b x n) (noted c x n')

  l_bytes : length s.bytes ≡ length t.bytes
  l_bytes = v.l_bytes ∙ sym v'.l_bytes

  l_tags : length s.tags ≡ length t.tags
  l_tags = v.l_tags ∙ sym v'.l_tags

  regs_same : (a r : ℕ) → r < 8 → m a ≡ false → register_at s a r ≡ register_at t a r
  regs_same a r h y = reg_slot s a r h ∙ o.registers (slot a r) (ap m (slot_row a r h) ∙ y) ∙ sym (reg_slot t a r h)

  -- what an outside register reaches is the others'
  outside_reg : (n r : ℕ) (a : Capability) → r < 8 → m n ≡ false → register_at s n r ≡ Some a → (x : ℕ) → base_of a / 16 ≤ x / 16 → x / 16 ≤ (top_of a - 1) / 16 → Outside m b x
  outside_reg n r a hr y e x lo hi =
      let e₀ = sym (reg_slot s n r hr) ∙ e in
      let w = v.regs (slot n r) a e₀ in
      let z = sound_span w in
      let k = a.nonempty in
      (w.provenance, _, w.live.mine x (omega arith) (omega arith), w.live.granted, d.reg_side (slot n r) a e₀ _ _ w.recorded w.live.granted ∙ ap m (slot_row n r hr) ∙ y)

  two_open : (w w' : Sweep) → w ≡ w' → Match (Agrees Call.OpenSweep) (open_rule s w) (open_rule t w')
  two_open Idle Idle e = two_unless _ _ _ (λ i. ltb 0 (length (o.same i).waiting)) λ _. m_ok ((λ i. length (o.same i).waiting), core_paint m K s t b c v v' d d' o)
  two_open (Open p) (Open p') e = m_no
  two_open _ _ e = cc

  two_step : (k : ℕ) (w w' : Sweep) → w ≡ w' → s.sweep ≡ w → t.sweep ≡ w' → Match (Agrees (Call.Step k)) (stepped K.memory_granules s k w) (stepped K.memory_granules t k w')
  two_step k Idle Idle e q q' = m_no
  two_step k (Open p) (Open p') e q q' =
      let z : p ≡ p' = open_same e in
      subst (λ (x : ℕ). Match (Agrees (Call.Step k)) (stepped K.memory_granules s k (Open p)) (stepped K.memory_granules t k (Open x))) z
      (let h = (v.tags_new p q).0 in
      two_cond (leb K.memory_granules (p + k))
      (λ _. m_ok (
        refl,
        core_end m K (with_passed s p (K.memory_granules - p)) (with_passed t p (K.memory_granules - p)) b c
            (inv_pass K s b v p _ q (omega arith)) (inv_pass K t c v' p _ (q' ∙ ap Open (sym z)) (omega arith)) (tidy_pass m K s b v d p _) (tidy_pass m K t c v' d' p _) (core_pass m K s t b c v v' d d' o p (K.memory_granules - p)),
      ))
      (λ _. m_ok (refl, core_pass m K s t b c v v' d d' o p k)))
  two_step k _ _ e q q' = cc

  two_shut : (w w' : Sweep) → w ≡ w' → Match (Agrees Call.Shut) (shut_rule s w) (shut_rule t w')
  two_shut Idle Idle e = m_no
  two_shut (Open p) (Open p') e = m_ok ((λ i. length (o.same i).painted), core_shut m K s t b c v v' d d' o)
  two_shut _ _ e = cc

  -- the group's own frees, answered alike
  two_free : (n r : ℕ) {x y : Effect} → View K s (Call.Free n r) x → View K t (Call.Free n r) y → outcome x ≡ outcome y → Match (Agrees (Call.Free n r)) x y
  two_free n r (v_no {f = k}) (v_no {f = k'}) e = two_denied k k' cc
  two_free n r v_no (v_free a hc hr at own al wh w) e = cc
  two_free n r (v_free a hc hr at own al wh w) v_no e = cc
  two_free n r (v_free a hc hr at own al wh w) (v_free a' hc' hr' at' own' al' wh' w') e =
      let z : base_of a ≡ base_of a' = cc in
      m_ok (z, core_wait m K s t b c v v' d d' o _ _ (λ i. record { start = z i / 16; length = run_length (o.same i).cells (z i / 16) }))

  -- a grant, by what the allocator does
  module _ (n r k : ℕ) (hn : n < 8) (hr : r < 8) (pos : 0 < k) (same : K.memory_granules ≡ K.allocator_granules) where
    abbrev Comes : Allocation → Allocation → Type 0
    Comes x y = Match (Agrees (Call.Grant n r k)) (granted s n r k x x.answer) (granted t n r k y y.answer)

    either : (w : Bool) (x x' y y' : Allocation) → Comes x x' → Comes y y' → Comes (cond w x y) (cond w x' y')
    either true x x' y y' h l = h
    either false x x' y y' h l = l

    at_place : (q : Option (ℕ × ℕ)) → K.place s.cells s.mark k ≡ q → Comes (placed s.cells s.mark k q) (placed t.cells t.mark k q)
    at_place None e = m_no
    at_place (Some x) e =
        let rm = room_of s.cells x.0 k (K.lawful.answered s.cells s.mark k x.0 x.1 pos e) in
        let w = whole_made (16 * x.0) (16 * x.0 + 16 * k) (omega arith) (omega (arith, rm.0, v.l_cells, same, v.sized)) in
        let z = made_numbers _ _ _ w.0 w.1 in
        m_ok (
          refl,
          rw w.1
              (core_grant m K s t b c v v' d d' o n r k x.0 x.1 hn hr rm w.0 z.0 z.1),
        )

    two_grant : Comes (allocating K.place s.cells s.mark K.most k) (allocating K.place t.cells t.mark K.most k)
    two_grant =
        subst (λ (q : Bool). Comes (allocating K.place s.cells s.mark K.most k) (cond (eqb k 0) (denied_by t.cells t.mark A.BadNum) (cond q (denied_by t.cells t.mark A.Allowance) (placed t.cells t.mark k (K.place t.cells t.mark k)))))
        (λ i. ltb K.most (taken_in (o.same i).cells + k))
        (subst (λ (q : Option (ℕ × ℕ)). Comes (allocating K.place s.cells s.mark K.most k) (cond (eqb k 0) (denied_by t.cells t.mark A.BadNum) (cond (ltb K.most (taken_in s.cells + k)) (denied_by t.cells t.mark A.Allowance) (placed t.cells t.mark k q))))
        (λ i. K.place (o.same i).cells (o.same i).mark k)
        (either (eqb k 0) _ _ _ _ m_no (either (ltb K.most (taken_in s.cells + k)) _ _ _ _ m_no (at_place (K.place s.cells s.mark k) refl))))

  two_frees : (n r : ℕ) (y : Bool) → m n ≡ y → (m n ≡ true → outcome (perform K s (Call.Free n r)) ≡ outcome (perform K t (Call.Free n r)))
      → Match (Agrees (Call.Free n r)) (perform K s (Call.Free n r)) (perform K t (Call.Free n r))
  two_frees n r true y own = two_free n r (view K s (Call.Free n r)) (view K t (Call.Free n r)) (own y)
  two_frees n r false y own = two_unless _ _ _ refl λ num. two_held _ _ (regs_same n r (register_is n r num).1 y) λ a e e'.
      two_unless (allows (permissions_of a) P.Own) _ F.Perm {d = if_whole s a} {e = if_whole t a} refl λ own'.
      two_unless (is_whole s a) (is_whole t a) F.NotWhole {d = if_new s a} {e = if_new t a} (λ i. eqb (base_of a % 16) 0 && eqb (length_of a) (16 * run_length (o.same i).cells (base_of a / 16))) λ whole.
      two_unless (not (begins_at s.waiting (base_of a / 16))) _ (F.Quarantine Q.Freed) {d = if_room s a} {e = if_room t a} (λ i. not (begins_at (o.same i).waiting (base_of a / 16))) λ wait.
      two_unless (ltb (length s.waiting + length s.painted) most_runs) _ (F.Quarantine Q.QFull) {d = freed s a} {e = freed t a} (λ i. ltb (length (o.same i).waiting + length (o.same i).painted) most_runs) λ full.
      m_ok (refl, core_wait m K s t b c v v' d d' o _ _ (λ i. record { start = base_of a / 16; length = run_length (o.same i).cells (base_of a / 16) }))

  two_calls : (x : Call) → is_struck m x ≡ false → GivesApart m x → (is_ours m x ≡ true → outcome (perform K s x) ≡ outcome (perform K t x)) → Match (Agrees x) (perform K s x) (perform K t x)
  two_calls (Call.Grant n r k) st gift own = two_unless _ _ _ refl λ num. two_unless _ _ _ refl λ same.
      let q = granting_is n r k num in
      two_grant n r k q.0 q.1 q.2 (eqb-true _ _ same)
  two_calls (Call.Free n r) st gift own = two_frees n r (m n) refl own
  two_calls (Call.Derive n r u lo len p) st gift own = two_unless _ _ _ refl λ num. two_permitted (permissions_from p) λ ps.
      let q = registers_are n r n u (is_operand lo && is_operand len) num in
      two_held _ _ (regs_same n u q.3 st) λ a e e'.
      two_narrowed s t n r (capability_over (meet_authority a.authority (wanted a lo len ps))) λ w.
      (refl, core_reg m K s t b c v v' d d' o n r q.0 q.1 (Some w) _ _)
  two_calls (Call.Getb n r off) st gift own = two_unless _ _ _ refl λ num.
      let q = register_is n r (and_parts (is_register n r) (is_operand off) num).0 in
      two_held _ _ {k = getb_from s off} {l = getb_from t off} (regs_same n r q.1 st) λ a e e'.
      two_unless (allows (permissions_of a) P.Load) _ F.Perm {d = getb_in s off a} {e = getb_in t off a} refl λ perm.
      two_unless (ltb off (length_of a)) _ F.Bounds {d = getb_at s (base_of a + off)} {e = getb_at t (base_of a + off)} refl λ low.
      let lt = ltb-true off (length_of a) low in
      let out = outside_reg n r a q.1 st e (base_of a + off) (omega arith) (omega arith) in
      two_memory _ _ (λ i. cond (ltb (base_of a + off) (l_bytes i)) (Ok (o.bytes (base_of a + off) out i)) (Err T.Bounds)) λ w _. m_ok (refl, o)
  two_calls (Call.Putb n r off x) st gift own = two_unless _ _ _ refl λ num.
      let q = register_is n r (and_parts (is_register n r) (is_operand off && leb x 255) num).0 in
      two_held _ _ {k = putb_from s off x} {l = putb_from t off x} (regs_same n r q.1 st) λ a e e'.
      two_unless (allows (permissions_of a) P.Store) _ F.Perm {d = putb_in s off x a} {e = putb_in t off x a} refl λ perm.
      two_unless (ltb off (length_of a)) _ F.Bounds {d = putb_at s x (base_of a + off)} {e = putb_at t x (base_of a + off)} refl λ low.
      let lt = ltb-true off (length_of a) low in
      two_memory _ _ (λ i. change_at (base_of a + off) (l_bytes i)) λ _ _.
      m_ok (refl, core_byte m K s t b c v v' d d' o (base_of a + off) x (omega (arith, lt, reg_top K s b v (slot n r) a (sym (reg_slot s n r q.1) ∙ e))))
  two_calls (Call.Putc n r off u) st gift own = two_unless _ _ _ refl λ num.
      let q = registers_are n r n u (is_operand off) num in
      two_held _ _ {k = λ a. held (register_at s n u) (putc_from s off a)} {l = λ a. held (register_at t n u) (putc_from t off a)} (regs_same n r q.1 st) λ a e e'. two_held _ _ {k = putc_from s off a} {l = putc_from t off a} (regs_same n u q.3 st) λ a₂ e₂ e₂'. two_unless _ _ _ refl λ perm.
      two_granule (granule_answer a off) {k = putc_at s a₂} {l = putc_at t a₂} λ g at.
      two_memory _ _ (λ i. cond (ltb g (l_tags i)) (stored_answer (reaching (l_bytes i) (capability_of (base_of a₂) (top_of a₂) (permissions_of a₂)))) (Err T.Bounds)) λ _ _.
      let h = granule_is a off g at in
      let e₀ = sym (reg_slot s n r q.1) ∙ e in
      let f₀ = sym (reg_slot t n r q.1) ∙ e' in
      m_ok (
        refl,
        rw (h.2, (v.regs (slot n r) a e₀).recorded, (v'.regs (slot n r) a f₀).recorded)
            (core_cap m K s t b c v v' d d' o ((base_of a + off) / 16) a₂ _ _ (omega (arith, h.0, reg_top K s b v (slot n r) a e₀))),
      )
  two_calls (Call.Getc n r off u) st gift own = two_unless _ _ _ refl λ num.
      let q = registers_are n r n u (is_operand off) num in
      two_held _ _ {k = getc_from s n off u} {l = getc_from t n off u} (regs_same n r q.1 st) λ a e e'. two_unless _ _ _ refl λ perm.
      two_granule (granule_answer a off) {k = getc_at s n u} {l = getc_at t n u} λ g at.
      let h = granule_is a off g at in
      let out = outside_reg n r a q.1 st e (base_of a + off) (omega (arith, h.0)) (omega (arith, h.0)) in
      let alike = subst (λ (j : ℕ). granule_at s.bytes s.tags j ≡ granule_at t.bytes t.tags j) (sym h.2) (granule_alike m K s t b c v v' d d' o (base_of a + off) out) in
      let e₀ = sym (reg_slot s n r q.1) ∙ e in
      let f₀ = sym (reg_slot t n r q.1) ∙ e' in
      two_memory _ _ {k = getc_granule s n u} {l = getc_granule t n u} (λ i. cond (ltb g (l_tags i)) (Ok (alike i)) (Err T.Bounds)) λ y _.
      two_unless _ _ _ refl λ tag.
      two_loaded s t n u (capability_of y.numbers.base y.numbers.top y.numbers.permissions) (λ i. (o.same i).sweep) (λ i. (o.same i).painted) λ a₂. (
        refl,
        rw ((v.regs (slot n r) a e₀).recorded, (v'.regs (slot n r) a f₀).recorded) (core_reg m K s t b c v v' d d' o n u q.0 q.3 (Some a₂) _ _),
      )
  two_calls (Call.Give n r n' u) st gift own = two_unless _ _ _ refl λ num.
      let x = and_parts (is_register n r) (is_register n' u) num in
      let q = register_is n r x.0 in
      let w = register_is n' u x.1 in
      two_held _ _ {k = give_from s n' u} {l = give_from t n' u} (regs_same n r q.1 st) λ a e e'. two_unless _ _ _ refl λ perm. two_vacant _ _ (regs_same n' u w.1 (sym gift ∙ st))
      (m_ok (refl, core_reg m K s t b c v v' d d' o n' u w.0 w.1 (Some a) _ _))
  two_calls (Call.Drop n r) st gift own = two_unless _ _ _ refl λ num.
      let q = register_is n r num in m_ok (refl, core_reg m K s t b c v v' d d' o n r q.0 q.1 None _ _)
  two_calls Call.OpenSweep st gift own = two_open s.sweep t.sweep (λ i. (o.same i).sweep)
  two_calls (Call.Step k) st gift own = two_unless _ _ _ refl λ _. two_step k s.sweep t.sweep (λ i. (o.same i).sweep) refl refl
  two_calls Call.Shut st gift own = two_shut s.sweep t.sweep (λ i. (o.same i).sweep)

  matched : (x : Call) {y z : Effect} → Match (Agrees x) y z → (outcome y ≡ outcome z) × Core m (state_after s y) (state_after t z) (note b x (outcome y)) (note c x (outcome z))
  matched x m_no = (refl, o)
  matched x (m_ok (e, q)) = (ap Ok e, q)

  pub core_kept : (x : Call) → is_struck m x ≡ false → GivesApart m x → (is_ours m x ≡ true → outcome (perform K s x) ≡ outcome (perform K t x))
      → (outcome (perform K s x) ≡ outcome (perform K t x)) × Core m (state_after s (perform K s x)) (state_after t (perform K t x)) (note b x (outcome (perform K s x))) (note c x (outcome (perform K t x)))
  core_kept x st gift own = matched x (two_calls x st gift own)
