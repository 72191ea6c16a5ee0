-- What each call comes to: a denial, or a change under its conditions.
use Rattle.std.proofs.Common.{◌≡◌, ℕ, ◌+◌, ◌-◌, ◌*◌, ◌/◌, ◌%◌, ◌<◌, ◌≤◌, Bool, true, false, cond, ◌&&◌, eqb, ltb, leb, length, get_or, Some, None, Ok, Err, Option, Result, sym, refl, ap, subst, arith}
use lib.Seq.{paste}
use Rattle.std.proofs.lemmas.Bool.Decides.{nat_tests}
use Rattle.std.proofs.lemmas.Bool.{and_parts, eqb-true, leb-false, leb-true, ltb-true, not-true, cond_both}
use Rattle.allocator.specs.Allocators.{Allocation, allocating, denied_by, placed}
use Rattle.allocator.specs.declared.fault.AllocatorFault.TheVariants as A
use Rattle.allocator.specs.Maps.{run_length, run_of, taken_in}
use Rattle.authority.specs.Capabilities.{base_of, capability_of, permissions_of}
use Rattle.authority.specs.Masks.{all_permissions, allows}
use Rattle.authority.specs.PermissionsMeet.{permissions_from}
use Rattle.authority.specs.declared.capability.Capability.{Capability}
use Rattle.authority.specs.declared.permission.Permission.TheVariants as P
use Rattle.authority.specs.declared.permissions.Permissions.{Permissions}
use Rattle.memory.specs.Memories.{granule_at, granule_read}
use Rattle.memory.specs.declared.fault.MemoryFault.{MemoryFault}
use Rattle.memory.specs.declared.fault.MemoryFault.TheVariants as T
use Rattle.machine.specs.Answers.{granule_answer, length_of}
use Rattle.machine.specs.Calls.{Call}
use Rattle.machine.specs.Model.{Fixed, State, Effect, denied, accepted, register_at, with_register, with_map, with_byte, with_capability, with_waiting, with_painted, with_passed, with_ended, with_shut}
use Rattle.machine.specs.Rules.{perform, unless, held, vacant, permitted, by_memory, at_granule, granted, narrowed, loaded, derived, derived_with, is_revoked, run_under, open_rule, stepped, shut_rule, is_register, is_operand}
use Rattle.machine.specs.Runs.{begins_at}
use Rattle.machine.specs.declared.fault.MachineFault.{MachineFault}
use Rattle.machine.specs.declared.fault.MachineFault.TheVariants.{NoCap, Perm}
use Rattle.quarantine.specs.declared.sweep.Sweep.{Sweep}
use Rattle.quarantine.specs.declared.sweep.Sweep.TheVariants.{Idle, Open}
use Rattle.history.proofs.Laws.{capability_at}

pub data View (K : Fixed) (s : State) : Call → Effect → Type 0 where
  v_no : {x : Call} {f : MachineFault} → View K s x (denied f)
  v_grant : {c r n : ℕ} (b next : ℕ) → c < 8 → r < 8 → 0 < n → K.memory_granules ≡ K.allocator_granules → K.place s.cells s.mark n ≡ Some (b, next)
      → View K s (Call.Grant c r n) (accepted (16 * b) (with_register (with_map s (paste s.cells b (run_of n) n) next) c r (capability_of (16 * b) (16 * b + 16 * n) all_permissions)))
  v_free : {c r : ℕ} (a : Capability) → c < 8 → r < 8 → register_at s c r ≡ Some a → allows (permissions_of a) P.Own ≡ true → base_of a % 16 ≡ 0 → length_of a ≡ 16 * run_length s.cells (base_of a / 16)
      → begins_at s.waiting (base_of a / 16) ≡ false
      → View K s (Call.Free c r) (accepted (base_of a) (with_waiting s (run_under s a)))
  v_derive : {c r t lo len p : ℕ} (a d : Capability) → c < 8 → r < 8 → t < 8 → register_at s c t ≡ Some a → derived a lo len p ≡ Some d
      → View K s (Call.Derive c r t lo len p) (accepted (length_of d) (with_register s c r (Some d)))
  v_getb : {c r off : ℕ} (a : Capability) → c < 8 → r < 8 → register_at s c r ≡ Some a → allows (permissions_of a) P.Load ≡ true → off < length_of a
      → View K s (Call.Getb c r off) (accepted (get_or s.bytes (base_of a + off) 0) s)
  v_putb : {c r off v : ℕ} (a : Capability) → c < 8 → r < 8 → register_at s c r ≡ Some a → allows (permissions_of a) P.Store ≡ true → off < length_of a
      → View K s (Call.Putb c r off v) (accepted 0 (with_byte s (base_of a + off) v))
  v_putc : {c r off t : ℕ} (a b : Capability) → c < 8 → r < 8 → t < 8 → register_at s c r ≡ Some a → register_at s c t ≡ Some b
      → allows (permissions_of a) P.Store ≡ true → allows (permissions_of a) P.Capabilities ≡ true → off + 16 ≤ length_of a → (base_of a + off) % 16 ≡ 0
      → View K s (Call.Putc c r off t) (accepted 0 (with_capability s ((base_of a + off) / 16) b))
  v_getc : {c r off t : ℕ} (a b : Capability) → c < 8 → r < 8 → t < 8 → register_at s c r ≡ Some a
      → allows (permissions_of a) P.Load ≡ true → allows (permissions_of a) P.Capabilities ≡ true → off + 16 ≤ length_of a → (base_of a + off) % 16 ≡ 0
      → get_or s.tags ((base_of a + off) / 16) false ≡ true → capability_at s.bytes ((base_of a + off) / 16) ≡ Some b → is_revoked s.sweep s.painted b ≡ false
      → View K s (Call.Getc c r off t) (accepted 0 (with_register s c t (Some b)))
  v_give : {c r d t : ℕ} (a : Capability) → c < 8 → r < 8 → d < 8 → t < 8 → register_at s c r ≡ Some a
      → View K s (Call.Give c r d t) (accepted 0 (with_register s d t (Some a)))
  v_drop : {c r : ℕ} → c < 8 → r < 8 → View K s (Call.Drop c r) (accepted 0 (with_register s c r None))
  v_open : s.sweep ≡ Idle → View K s Call.OpenSweep (accepted (length s.waiting) (with_painted s))
  v_pass : {k : ℕ} (p : ℕ) → 0 < k → s.sweep ≡ Open p → p + k < K.memory_granules → View K s (Call.Step k) (accepted (K.memory_granules - (p + k)) (with_passed s p k))
  v_end : {k : ℕ} (p : ℕ) → 0 < k → s.sweep ≡ Open p → K.memory_granules ≤ p + k → View K s (Call.Step k) (accepted 0 (with_ended (with_passed s p (K.memory_granules - p))))
  v_shut : (p : ℕ) → s.sweep ≡ Open p → View K s Call.Shut (accepted (length s.painted) (with_shut s))

module _ {K : Fixed} {s : State} {x : Call} where
  on_unless : (t : Bool) (f : MachineFault) {d : Effect} → (t ≡ true → View K s x d) → View K s x (unless t f d)
  on_unless true f h = h refl
  on_unless false f h = v_no

  on_held : (o : Option Capability) {k : Capability → Effect} → ((a : Capability) → o ≡ Some a → View K s x (k a)) → View K s x (held o k)
  on_held None h = v_no
  on_held (Some a) h = h a refl

  on_vacant : (o : Option Capability) {d : Effect} → View K s x d → View K s x (vacant o d)
  on_vacant None h = h
  on_vacant (Some a) h = v_no

  on_memory : {X : Type 0} (r : Result X MemoryFault) {k : X → Effect} → ((y : X) → r ≡ Ok y → View K s x (k y)) → View K s x (by_memory r k)
  on_memory (Err f) h = v_no
  on_memory (Ok y) h = h y refl

  on_granule : (r : Result ℕ MachineFault) {k : ℕ → Effect} → ((g : ℕ) → r ≡ Ok g → View K s x (k g)) → View K s x (at_granule r k)
  on_granule (Err f) h = v_no
  on_granule (Ok g) h = h g refl

-- the granule of an access
pub granule_is : (a : Capability) (off g : ℕ) → granule_answer a off ≡ Ok g → (off + 16 ≤ length_of a) × ((base_of a + off) % 16 ≡ 0) × (g ≡ (base_of a + off) / 16)
granule_is a off g e = grind (arith, nat_tests)

module _ (K : Fixed) (s : State) (c r n : ℕ) (hc : c < 8) (hr : r < 8) (pos : 0 < n) (same : K.memory_granules ≡ K.allocator_granules) where
  abbrev Comes : Allocation → Type 0
  Comes al = View K s (Call.Grant c r n) (granted s c r n al al.answer)

  at_place : (o : Option (ℕ × ℕ)) → K.place s.cells s.mark n ≡ o → Comes (placed s.cells s.mark n o)
  at_place None e = v_no
  at_place (Some x) e = v_grant x.0 x.1 hc hr pos same e

  pub allocated : Comes (allocating K.place s.cells s.mark K.most n)
  allocated =
      let cs = s.cells in
      let m = s.mark in
      let o = K.place cs m n in
      cond_both (eqb n 0) (denied_by cs m A.BadNum) (cond (ltb K.most (taken_in cs + n)) (denied_by cs m A.Allowance) (placed cs m n o)) Comes (λ _. v_no)
      (λ _. cond_both (ltb K.most (taken_in cs + n)) (denied_by cs m A.Allowance) (placed cs m n o) Comes (λ _. v_no) (λ _. at_place o refl))

-- what the ranges of operands tell
pub register_is : (c r : ℕ) → is_register c r ≡ true → (c < 8) × (r < 8)
register_is c r e = grind (arith, nat_tests)

pub registers_are : (c r d t : ℕ) (x : Bool) → (is_register c r && (is_register d t && x)) ≡ true → (c < 8) × (r < 8) × (d < 8) × (t < 8)
registers_are c r d t x e = grind (arith, nat_tests)

pub granting_is : (c r n : ℕ) → (is_register c r && (is_operand n && ltb 0 n)) ≡ true → (c < 8) × (r < 8) × (0 < n)
granting_is c r n e = grind (arith, nat_tests)

derived_is : (K : Fixed) (s : State) (c r t lo len p : ℕ) (a : Capability) → c < 8 → r < 8 → t < 8 → register_at s c t ≡ Some a → (o : Option Capability) → derived a lo len p ≡ o
    → View K s (Call.Derive c r t lo len p) (narrowed s c r o)
derived_is K s c r t lo len p a hc hr ht e None q = v_no
derived_is K s c r t lo len p a hc hr ht e (Some d) q = v_derive a d hc hr ht e q

pub view : (K : Fixed) (s : State) (x : Call) → View K s x (perform K s x)
view K s (Call.Grant c r n) = on_unless _ _ λ num. on_unless _ _ λ same.
    let q = granting_is c r n num in
    allocated K s c r n q.0 q.1 q.2 (eqb-true _ _ same)
view K s (Call.Free c r) = on_unless _ _ λ num. on_held _ λ a e. on_unless _ _ λ own. on_unless _ _ λ whole. on_unless _ _ λ waits. on_unless _ _ λ full.
    let q = register_is c r num in
    let w = and_parts (eqb (base_of a % 16) 0) _ whole in
    v_free a q.0 q.1 e own (eqb-true _ _ w.0) (eqb-true _ _ w.1) (not-true _ waits)
view K s (Call.Derive c r t lo len n) = on_unless _ _ λ num. go (permissions_from n) refl num
  where
    go : (o : Option Permissions) → permissions_from n ≡ o → (is_register c r && (is_register c t && (is_operand lo && is_operand len))) ≡ true
        → View K s (Call.Derive c r t lo len n) (permitted o λ p. held (register_at s c t) λ a. narrowed s c r (derived_with a lo len (Some p)))
    go None q num = v_no
    go (Some p) q num = on_held _ λ a e.
        let q' = registers_are c r c t (is_operand lo && is_operand len) num in
        derived_is K s c r t lo len n a q'.0 q'.1 q'.3 e _ (ap (derived_with a lo len) q)
view K s (Call.Getb c r off) = on_unless _ _ λ num. on_held _ λ a e. on_unless _ _ λ perm. on_unless _ _ λ low.
    let q = register_is c r (and_parts (is_register c r) (is_operand off) num).0 in
    go a (ltb (base_of a + off) (length s.bytes)) (v_getb a q.0 q.1 e perm (ltb-true off (length_of a) low))
  where
    go : (a : Capability) (t : Bool) → View K s (Call.Getb c r off) (accepted (get_or s.bytes (base_of a + off) 0) s)
        → View K s (Call.Getb c r off) (by_memory (cond t (Ok (get_or s.bytes (base_of a + off) 0)) (Err T.Bounds)) λ v. accepted v s)
    go a true h = h
    go a false h = v_no
view K s (Call.Putb c r off v) = on_unless _ _ λ num. on_held _ λ a e. on_unless _ _ λ perm. on_unless _ _ λ low. on_memory _ λ y z.
    let q = register_is c r (and_parts (is_register c r) (is_operand off && leb v 255) num).0 in
    v_putb a q.0 q.1 e perm (ltb-true off (length_of a) low)
view K s (Call.Putc c r off t) = on_unless _ _ λ num. on_held _ λ a e. on_held _ λ b e'. on_unless _ _ λ perm. on_granule _ λ g at. on_memory _ λ y z.
    let q = registers_are c r c t (is_operand off) num in
    let p = and_parts (allows (permissions_of a) P.Store) (allows (permissions_of a) P.Capabilities) perm in
    let h = granule_is a off g at in
    subst (λ (i : ℕ). View K s (Call.Putc c r off t) (accepted 0 (with_capability s i b))) (sym h.2) (v_putc a b q.0 q.1 q.3 e e' p.0 p.1 h.0 h.1)
view K s (Call.Getc c r off t) = on_unless _ _ λ num. on_held _ λ a e. on_unless _ _ λ perm. on_granule _ λ g at.
    let q = registers_are c r c t (is_operand off) num in
    let p = and_parts (allows (permissions_of a) P.Load) (allows (permissions_of a) P.Capabilities) perm in
    let h = granule_is a off g at in
    subst (λ (i : ℕ). View K s (Call.Getc c r off t) (by_memory (granule_read s.bytes s.tags i) λ x. unless x.tagged NoCap (loaded s c t (capability_of x.numbers.base x.numbers.top x.numbers.permissions)))) (sym h.2)
    (there (base_of a + off) (ltb ((base_of a + off) / 16) (length s.tags)) (λ b tag cap new. v_getc a b q.0 q.1 q.3 e p.0 p.1 h.0 h.1 tag cap new))
  where
    take : (i : ℕ) (o : Option Capability) → capability_at s.bytes (i / 16) ≡ o
        → ((b : Capability) → capability_at s.bytes (i / 16) ≡ Some b → is_revoked s.sweep s.painted b ≡ false → View K s (Call.Getc c r off t) (accepted 0 (with_register s c t (Some b))))
        → View K s (Call.Getc c r off t) (loaded s c t o)
    take i None q h = v_no
    take i (Some b) q h = on_unless _ _ λ new. h b q (not-true _ new)

    there : (i : ℕ) (u : Bool)
        → ((b : Capability) → get_or s.tags (i / 16) false ≡ true → capability_at s.bytes (i / 16) ≡ Some b → is_revoked s.sweep s.painted b ≡ false → View K s (Call.Getc c r off t) (accepted 0 (with_register s c t (Some b))))
        → View K s (Call.Getc c r off t) (by_memory (cond u (Ok (granule_at s.bytes s.tags (i / 16))) (Err T.Bounds)) λ x. unless x.tagged NoCap (loaded s c t (capability_of x.numbers.base x.numbers.top x.numbers.permissions)))
    there i true h = on_unless _ _ λ tag. take i (capability_at s.bytes (i / 16)) refl (λ b. h b tag)
    there i false h = v_no
view K s (Call.Give c r d t) =
    on_unless _ _ λ num. on_held _ λ a e.
    on_unless (allows (permissions_of a) P.Give) Perm {d = vacant (register_at s d t) (accepted 0 (with_register s d t (Some a)))} λ perm.
    let x = and_parts (is_register c r) (is_register d t) num in
    let q = register_is c r x.0 in
    let w = register_is d t x.1 in
    on_vacant (register_at s d t) (v_give a q.0 q.1 w.0 w.1 e)
view K s (Call.Drop c r) = on_unless _ _ λ num. let q = register_is c r num in v_drop q.0 q.1
view K s Call.OpenSweep = go s.sweep refl
  where
    go : (w : Sweep) → s.sweep ≡ w → View K s Call.OpenSweep (open_rule s w)
    go Idle e = on_unless _ _ λ some. v_open e
    go (Open p) e = v_no
view K s (Call.Step k) = on_unless _ _ λ num. go s.sweep refl (ltb-true 0 k (and_parts (is_operand k) (ltb 0 k) num).1)
  where
    go : (w : Sweep) → s.sweep ≡ w → 0 < k → View K s (Call.Step k) (stepped K.memory_granules s k w)
    go Idle e h = v_no
    go (Open p) e h = cond_both (leb K.memory_granules (p + k)) _ _ (View K s (Call.Step k)) (λ t. v_end p h e (leb-true _ _ t)) (λ t. v_pass p h e (leb-false _ _ t))
view K s Call.Shut = go s.sweep refl
  where
    go : (w : Sweep) → s.sweep ≡ w → View K s Call.Shut (shut_rule s w)
    go Idle e = v_no
    go (Open p) e = v_shut p e
