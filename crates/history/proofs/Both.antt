-- The same change on both machines.
use Rattle.std.proofs.Common.{◌≡◌, ℕ, suc, ◌+◌, ◌*◌, ◌/◌, ◌<◌, ◌≤◌, Bool, true, false, cond, ◌&&◌, ltb, leb, [], ◌∷◌, ◌++◌, get_or, Some, Option, sym, ◌∙◌, inl, inr, arith}
use lib.Seq.{paste}
use Rattle.std.proofs.lemmas.Bool.{cases_Bool, ne_eqb}
use Rattle.allocator.specs.declared.cell.Cell.TheVariants.{Free}
use Rattle.allocator.specs.Maps.{run_of}
use Rattle.authority.specs.Capabilities.{base_of, top_of}
use Rattle.authority.specs.Images.{word_at}
use Rattle.authority.specs.declared.capability.Capability.{Capability}
use Rattle.memory.specs.Memories.{granule_at}
use Rattle.machine.specs.Model.{Fixed, State, with_register, with_map, with_byte, with_capability, with_waiting, with_painted, with_passed, with_ended, with_shut}
use Rattle.machine.specs.Runs.{in_runs, released_cells, survivor}
use Rattle.quarantine.specs.declared.run.Run.{Run}
use Rattle.quarantine.specs.declared.sweep.Sweep.TheVariants.{Idle, Open}
use Rattle.history.specs.Isolation.{Group, Outside}
use Rattle.history.specs.Ledgers.{Entry, Ledger, put_at, slot, with_entry, with_grant, with_granule}
use Rattle.history.proofs.Base.{within}
use Rattle.history.proofs.Changes.{painted_wiped_bytes, painted_wiped_tags}
use Rattle.history.proofs.Core.{Core}
use Rattle.history.proofs.Places.{get_set}
use Rattle.history.proofs.Rooms.{Room, span_in}
use Rattle.history.proofs.Invariant.{Inv}
use Rattle.history.proofs.Laws.{get_image, get_swept, reg_emptied, reg_put, word_same}
use Rattle.history.proofs.Tidy.{Tidy}

module _ (m : Group) (K : Fixed) (s t : State) (b c : Ledger) (v : Inv K s b) (v' : Inv K t c) (d : Tidy m s b) (d' : Tidy m t c) (o : Core m s t b c) where
  pub core_reg : (n r : ℕ) → n < 8 → r < 8 → (x : Option Capability) (e e' : Option Entry) → Core m (with_register s n r x) (with_register t n r x) (with_entry b (slot n r) e) (with_entry c (slot n r) e')
  core_reg n r hn hr x e e' = record {
    same = o.same;
    bytes = o.bytes;
    tags = o.tags;
    registers = λ j h. rw (reg_put s.registers n r j x v.shaped hn hr, reg_put t.registers n r j x v'.shaped hn hr, o.registers j h);
  }

  pub core_byte : (a x : ℕ) → a < 16 * K.memory_granules → Core m (with_byte s a x) (with_byte t a x) b c
  core_byte a x lt = record {
    same = o.same;
    registers = o.registers;
    bytes = λ j u. rw (get_set s.bytes a j x 0 (omega (arith, v.l_bytes)), get_set t.bytes a j x 0 (omega (arith, v'.l_bytes)), o.bytes j u);
    tags = λ j u. rw (get_set s.tags (a / 16) (j / 16) false false (omega (arith, v.l_tags)), get_set t.tags (a / 16) (j / 16) false false (omega (arith, v'.l_tags)), o.tags j u);
  }

  pub core_cap : (g : ℕ) (x : Capability) (e e' : Option Entry) → g < K.memory_granules → Core m (with_capability s g x) (with_capability t g x) (with_granule b g e) (with_granule c g e')
  core_cap g x e e' lt = record {
    same = o.same;
    registers = o.registers;
    bytes = λ j u. rw (get_image s.bytes g x j (omega (arith, v.l_bytes)), get_image t.bytes g x j (omega (arith, v'.l_bytes)), o.bytes j u);
    tags = λ j u. rw (get_set s.tags g (j / 16) true false (omega (arith, v.l_tags)), get_set t.tags g (j / 16) true false (omega (arith, v'.l_tags)), o.tags j u);
  }

  pub core_wait : (x y : Run) → x ≡ y → Core m (with_waiting s x) (with_waiting t y) b c
  core_wait x y e = record {
    same = λ i. record (o.same i) { waiting = (o.same i).waiting ++ (e i ∷ []) };
    registers = o.registers;
    bytes = o.bytes;
    tags = o.tags;
  }

  pub core_paint : Core m (with_painted s) (with_painted t) b c
  core_paint = record {
    same = λ i. record (o.same i) { waiting = []; painted = (o.same i).waiting; sweep = Open 0 };
    bytes = o.bytes;
    tags = o.tags;
    registers = λ j h. reg_emptied s.waiting s.registers j ∙ (λ i. survivor (o.same i).waiting (o.registers j h i)) ∙ sym (reg_emptied t.waiting t.registers j);
  }

  pub core_shut : Core m (with_shut s) (with_shut t) b c
  core_shut = record {
    same = λ i. record (o.same i) { waiting = (o.same i).painted ++ (o.same i).waiting; painted = []; sweep = Idle };
    bytes = o.bytes;
    tags = o.tags;
    registers = o.registers;
  }

  outside_even : (i j : ℕ) → i / 16 ≡ j / 16 → Outside m b i → Outside m b j
  outside_even i j e (k, w, l, g, y) = (k, w, sym (d.even i j e) ∙ l, g, y)

  -- a granule of the others is read alike
  byte_alike : (i j : ℕ) → Outside m b i → i / 16 ≡ j / 16 → get_or s.bytes j 0 ≡ get_or t.bytes j 0
  byte_alike i j u e = o.bytes j (outside_even i j e u)

  word_alike : (i a : ℕ) → Outside m b i → 16 * (i / 16) ≤ a → a + 4 ≤ 16 * (i / 16) + 16 → word_at s.bytes a ≡ word_at t.bytes a
  word_alike i a u lo hi = word_same s.bytes t.bytes a (λ j l h. byte_alike i j u (omega arith))

  pub granule_alike : (i : ℕ) → Outside m b i → granule_at s.bytes s.tags (i / 16) ≡ granule_at t.bytes t.tags (i / 16)
  granule_alike i u =
      let p = word_alike i (16 * (i / 16)) u (omega arith) (omega arith) in
      let q = word_alike i (16 * (i / 16) + 4) u (omega arith) (omega arith) in
      let x = byte_alike i (16 * (i / 16) + 8) u (omega arith) in
      let y = o.tags i u in
      λ j. record { tagged = y j; numbers = record { base = p j; top = q j; permissions = x j } }

  pub core_pass : (p k : ℕ) → Core m (with_passed s p k) (with_passed t p k) b c
  core_pass p k = record {
    same = λ i. record (o.same i) { sweep = Open (p + k) };
    bytes = o.bytes;
    registers = o.registers;
    tags = λ j u. let w = word_alike j (16 * (j / 16)) u (omega arith) (omega arith) in
        get_swept s.painted s.bytes p k (j / 16) s.tags
        ∙ (λ i. cond (within p k (j / 16) && in_runs (o.same i).painted (w i / 16)) false (o.tags j u i))
        ∙ sym (get_swept t.painted t.bytes p k (j / 16) t.tags);
  }

  pub core_end : Core m (with_ended s) (with_ended t) b c
  core_end = record {
    same = λ i. record (o.same i) { cells = released_cells (o.same i).painted (o.same i).cells; painted = []; sweep = Idle };
    registers = o.registers;
    bytes = λ j u. painted_wiped_bytes K s b v j ∙ (λ i. cond (in_runs (o.same i).painted (j / 16)) 0 (o.bytes j u i)) ∙ sym (painted_wiped_bytes K t c v' j);
    tags = λ j u. painted_wiped_tags K s b v (j / 16) ∙ (λ i. cond (in_runs (o.same i).painted (j / 16)) false (o.tags j u i)) ∙ sym (painted_wiped_tags K t c v' (j / 16));
  }

  pub core_grant : (a r n at next : ℕ) → a < 8 → r < 8 → Room s.cells at n → (it : Capability) → base_of it ≡ 16 * at → top_of it ≡ 16 * at + 16 * n
      → Core m (with_register (with_map s (paste s.cells at (run_of n) n) next) a r (Some it)) (with_register (with_map t (paste t.cells at (run_of n) n) next) a r (Some it)) (with_grant b a r it) (with_grant c a r it)
  core_grant a r n at next ha hr rm it from to = record {
    same = λ i. record (o.same i) {
      latest = λ j. cond (fresh_byte j) (Some (o.same i).next) ((o.same i).latest j);
      grants = put_at (o.same i).grants (o.same i).next (Some (record { to = a; whole = it }));
      next = suc (o.same i).next;
      cells = paste (o.same i).cells at (run_of n) n;
      mark = next;
    };
    registers = λ j h. rw (reg_put s.registers a r j (Some it) v.shaped ha hr, reg_put t.registers a r j (Some it) v'.shaped ha hr, o.registers j h);
    bytes = λ j u. elim (cases_Bool (fresh_byte j)) [
      | inl y ↦ let f = free_at j y in d.free_bytes j f ∙ sym (d'.free_bytes j ((λ i. get_or (sym o.same i).cells (j / 16) Free) ∙ f))
      | inr x ↦ o.bytes j (older j x u)
    ];
    tags = λ j u. elim (cases_Bool (fresh_byte j)) [
      | inl y ↦ let f = free_at j y in d.free_tags (j / 16) f ∙ sym (d'.free_tags (j / 16) ((λ i. get_or (sym o.same i).cells (j / 16) Free) ∙ f))
      | inr x ↦ o.tags j (older j x u)
    ];
  }
    where
      fresh_byte : ℕ → Bool
      fresh_byte j = leb (base_of it) j && ltb j (top_of it)

      free_at : (j : ℕ) → fresh_byte j ≡ true → get_or s.cells (j / 16) Free ≡ Free
      free_at j y = let z = span_in (base_of it) (top_of it) at n j from to y in rm.1 (j / 16) z.0 z.1

      older : (j : ℕ) → fresh_byte j ≡ false → Outside m (with_grant b a r it) j → Outside m b j
      older j x (k, w, l, g, y) =
          let l' = rw x at l in
          let lt = d.dated j k l' in
          (k, w, l', rw (ne_eqb k b.next (omega arith)) at g, y)
