-- Two machines that differ in the group's part alone, and a call that is struck out on one side.
use Rattle.std.proofs.Common.{◌≡◌, ℕ, ◌+◌, ◌-◌, ◌*◌, ◌/◌, ◌<◌, ◌≤◌, true, false, List, get_or, Some, Option, sym, ap, ◌∙◌, arith}
use Rattle.std.proofs.lemmas.Bool.{ne_eqb, both_ways, false≢true, false_from_ne_true}
use Rattle.allocator.specs.declared.cell.Cell.{Cell}
use Rattle.authority.specs.Capabilities.{base_of, top_of}
use Rattle.authority.specs.declared.capability.Capability.{Capability}
use Rattle.machine.specs.Calls.{Call}
use Rattle.machine.specs.Model.{Fixed, State, Effect, outcome, state_after, with_register, with_byte, with_capability}
use Rattle.quarantine.specs.declared.run.Run.{Run}
use Rattle.quarantine.specs.declared.sweep.Sweep.{Sweep}
use Rattle.history.specs.Isolation.{Group, GivesApart, Outside, is_struck}
use Rattle.history.specs.Ledgers.{Entry, Grant, Ledger, note, slot, with_entry, with_granule}
use Rattle.history.proofs.Base.{within, within_true}
use Rattle.history.proofs.Invariant.{Inv}
use Rattle.history.proofs.Laws.{get_image, reg, reg_put, reg_slot, slot_row}
use Rattle.history.proofs.Places.{get_set}
use Rattle.history.proofs.Steps.{reg_top}
use Rattle.history.proofs.Tidy.{Tidy, reg_owner}
use Rattle.history.proofs.View.{View, v_no, v_derive, v_getb, v_putb, v_putc, v_getc, v_give, v_drop}

-- what is the same on both machines, whoever it belongs to
pub record Shared : Type 0 where
  pub latest : ℕ → Option ℕ
  pub grants : ℕ → Option Grant
  pub next : ℕ
  pub cells : List Cell
  pub mark : ℕ
  pub waiting : List Run
  pub painted : List Run
  pub sweep : Sweep

abbrev pub shared : State → Ledger → Shared
shared s b = record { latest = b.latest; grants = b.grants; next = b.next; cells = s.cells; mark = s.mark; waiting = s.waiting; painted = s.painted; sweep = s.sweep }

pub record Core (m : Group) (s t : State) (b c : Ledger) : Type 0 where
  pub same : shared s b ≡ shared t c
  pub registers : (i : ℕ) → m (i / 8) ≡ false → reg s i ≡ reg t i
  pub bytes : (i : ℕ) → Outside m b i → get_or s.bytes i 0 ≡ get_or t.bytes i 0
  pub tags : (i : ℕ) → Outside m b i → get_or s.tags (i / 16) false ≡ get_or t.tags (i / 16) false

outside_sym : {m : Group} {s t : State} {b c : Ledger} → Core m s t b c → (i : ℕ) → Outside m c i → Outside m b i
outside_sym o i (k, w, l, g, y) = (k, w, (λ j. (o.same j).latest i) ∙ l, (λ j. (o.same j).grants k) ∙ g, y)

pub core_sym : {m : Group} {s t : State} {b c : Ledger} → Core m s t b c → Core m t s c b
core_sym o = record {
  same = sym o.same;
  registers = λ i h. sym (o.registers i h);
  bytes = λ i h. sym (o.bytes i (outside_sym o i h));
  tags = λ i h. sym (o.tags i (outside_sym o i h));
}

module _ (m : Group) (K : Fixed) (s t : State) (b c : Ledger) (v : Inv K s b) (d : Tidy m s b) (o : Core m s t b c) where
  left_reg : (n r : ℕ) → n < 8 → r < 8 → m n ≡ true → (x : Option Capability) (e : Option Entry) → Core m (with_register s n r x) t (with_entry b (slot n r) e) c
  left_reg n r hn hr y x e = record {
    same = o.same;
    bytes = o.bytes;
    tags = o.tags;
    registers = λ j h. rw (reg_put s.registers n r j x v.shaped hn hr, ne_eqb j (slot n r) (λ q. both_ways _ (ap m (sym (slot_row n r hr) ∙ ap (λ (k : ℕ). k / 8) (sym q)) ∙ h) y)) (o.registers j h);
  }

  -- a byte of the group's is none of the others'
  apart_from : (i : ℕ) (a : Capability) → reg s i ≡ Some a → m (i / 8) ≡ true → (x : ℕ) → base_of a / 16 ≤ x / 16 → x / 16 ≤ (top_of a - 1) / 16 → Outside m b x → ⊥
  apart_from i a e y x lo hi u = both_ways _ (sym (reg_owner m K s b v d i a e x lo hi u.0 u.1 u.2 u.3) ∙ u.4) y

  left_byte : (i : ℕ) (a : Capability) → reg s i ≡ Some a → m (i / 8) ≡ true → (x n : ℕ) → base_of a ≤ x → x < top_of a → Core m (with_byte s x n) t b c
  left_byte i a e y x n lo hi = record {
    same = o.same;
    registers = o.registers;
    bytes = λ j u. rw (get_set s.bytes x j n 0 (omega (arith, v.l_bytes, reg_top K s b v i a e)), ne_eqb j x (λ q. apart_from i a e y j (omega arith) (omega arith) u)) (o.bytes j u);
    tags = λ j u. rw (get_set s.tags (x / 16) (j / 16) false false (omega (arith, v.l_tags, reg_top K s b v i a e)), ne_eqb (j / 16) (x / 16) (λ q. apart_from i a e y j (omega arith) (omega arith) u)) (o.tags j u);
  }

  left_cap : (i : ℕ) (a : Capability) → reg s i ≡ Some a → m (i / 8) ≡ true → (g : ℕ) (n : Capability) (e : Option Entry) → base_of a ≤ 16 * g → 16 * g + 16 ≤ top_of a
      → Core m (with_capability s g n) t (with_granule b g e) c
  left_cap i a e y g n en lo hi = record {
    same = o.same;
    registers = o.registers;
    bytes = λ j u. rw (
      get_image s.bytes g n j (omega (arith, v.l_bytes, reg_top K s b v i a e)),
      false_from_ne_true (within (16 * g) 16 j) (λ q.
          let z = within_true (16 * g) 16 j q in apart_from i a e y j (omega arith) (omega arith) u),
    ) (o.bytes j u);
    tags = λ j u. rw (get_set s.tags g (j / 16) true false (omega (arith, v.l_tags, reg_top K s b v i a e)), ne_eqb (j / 16) g (λ q. apart_from i a e y j (omega arith) (omega arith) u)) (o.tags j u);
  }

pub core_struck : (m : Group) (K : Fixed) (s t : State) (b c : Ledger) → Inv K s b → Tidy m s b → Core m s t b c → {x : Call} {d : Effect} → View K s x d → is_struck m x ≡ true → GivesApart m x
    → Core m (state_after s d) t (note b x (outcome d)) c
core_struck m K s t b c v d o v_no y gift = o
core_struck m K s t b c v d o (v_derive {c = n} {r} a x hc hr ht e q) y gift = left_reg m K s t b c v d o n r hc hr y _ _
core_struck m K s t b c v d o (v_getb a hc hr e al lt) y gift = o
core_struck m K s t b c v d o (v_putb {c = n} {r} {off} {v = x} a hc hr e al lt) y gift =
    left_byte m K s t b c v d o (slot n r) a (sym (reg_slot s n r hr) ∙ e) (ap m (slot_row n r hr) ∙ y) (base_of a + off) x (omega arith) (omega arith)
core_struck m K s t b c v d o (v_putc {c = n} {r} {off} {t = u} a a' hc hr ht e e' al al' lt ev) y gift =
    let e₀ = sym (reg_slot s n r hr) ∙ e in
    rw (v.regs (slot n r) a e₀).recorded
    (left_cap m K s t b c v d o (slot n r) a e₀ (ap m (slot_row n r hr) ∙ y) ((base_of a + off) / 16) a' (b.registers (slot n u)) (omega arith) (omega arith))
core_struck m K s t b c v d o (v_getc {c = n} {r} {off} {t = u} a a' hc hr ht e al al' lt ev tag cap new) y gift =
    rw (v.regs (slot n r) a (sym (reg_slot s n r hr) ∙ e)).recorded
    (left_reg m K s t b c v d o n u hc ht y _ _)
core_struck m K s t b c v d o (v_give {c = n} {r} {d = n'} {t = u} a hc hr hd ht e) y gift = left_reg m K s t b c v d o n' u hd ht (sym gift ∙ y) _ _
core_struck m K s t b c v d o (v_drop {c = n} {r} hc hr) y gift = left_reg m K s t b c v d o n r hc hr y _ _
core_struck m K s t b c v d o _ y gift = absurd (false≢true y)
