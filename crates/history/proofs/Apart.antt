-- Two histories that agree once the group's own calls are struck out look the same to the others.
use Rattle.std.proofs.Common.{◌≡◌, ◌*◌, ◌/◌, Bool, true, false, cond, ◌&&◌, eqb, ltb, List, [], ◌∷◌, get_or, replicate, sym, refl, ap, ◌∙◌, subst, inl, inr}
use Rattle.std.proofs.lemmas.Option.{none-some}
use Rattle.std.proofs.lemmas.Bool.{cond-true, cond-false, cases_Bool, false≢true}
use Rattle.allocator.specs.Allocators.{allocating}
use Rattle.allocator.specs.declared.cell.Cell.TheVariants.{Free}
use Rattle.machine.specs.Calls.{Call}
use Rattle.machine.specs.Model.{Fixed, State, Effect, empty_registers, fresh_state, outcome, register_at, state_after}
use Rattle.machine.specs.Rules.{granted, is_operand, is_register, perform, stepped, unless}
use Rattle.machine.specs.declared.fault.MachineFault.TheVariants.{BadNum, Sizes}
use Rattle.quarantine.specs.declared.sweep.Sweep.TheVariants.{Idle}
use Rattle.history.specs.Histories.{Outcome, Sized, after, outcomes, state_after_all}
use Rattle.history.specs.Isolation.{Alike, Every, GivesApart, Group, GroupCannotInterfere, Indistinguishable, Line, calls_in, is_ours, is_struck, left, lines_left, other_outcomes, own_outcomes}
use Rattle.history.specs.Ledgers.{Ledger, empty_ledger, note, noted_all, slot}
use Rattle.history.proofs.Base.{none_at}
use Rattle.history.proofs.Core.{Core, core_struck, core_sym}
use Rattle.history.proofs.Invariant.{Inv}
use Rattle.history.proofs.Keeps.{core_kept}
use Rattle.history.proofs.Laws.{reg_fresh, reg_slot, slot_row}
use Rattle.history.proofs.Steps.{inv_fresh, inv_step}
use Rattle.history.proofs.Tidy.{Tidy, tidy_step}
use Rattle.history.proofs.View.{view}

-- Kept as a lemma: `cc` alone is slow where the invariant is in scope.
nil_cons : {A X : Type 0} {a : A} {l : List A} → [] ≡ a ∷ l → X
nil_cons e = cc

module _ (K : Fixed) (m : Group) where
  -- what two histories come to
  pub record End (p q : List Call) (s t : State) (b c : Ledger) : Type 0 where
    pub answers : other_outcomes m (lines_left m p (outcomes K s p)) ≡ other_outcomes m (lines_left m q (outcomes K t q))
    pub core : Core m (state_after_all K s p) (state_after_all K t q) (noted_all b p (outcomes K s p)) (noted_all c q (outcomes K t q))

  abbrev Sim : List Call → List Call → Type 0
  Sim p q = (s t : State) (b c : Ledger) → Inv K s b → Inv K t c → Tidy m s b → Tidy m t c → Core m s t b c → Every (GivesApart m) p → Every (GivesApart m) q
      → calls_in (lines_left m p (outcomes K s p)) ≡ calls_in (lines_left m q (outcomes K t q))
      → own_outcomes m (lines_left m p (outcomes K s p)) ≡ own_outcomes m (lines_left m q (outcomes K t q)) → End p q s t b c

  abbrev rest_of : State → Call → List Call → List Line
  rest_of s x p = lines_left m p (outcomes K (state_after s (perform K s x)) p)

  abbrev line_of : State → Call → Line
  line_of s x = record { call = x; outcome = outcome (perform K s x) }

  out : (s : State) (x : Call) (p : List Call) → is_struck m x ≡ true → lines_left m (x ∷ p) (outcomes K s (x ∷ p)) ≡ rest_of s x p
  out s x p e = cond-true (is_struck m x) (rest_of s x p) (line_of s x ∷ rest_of s x p) e

  stays : (s : State) (x : Call) (p : List Call) → is_struck m x ≡ false → lines_left m (x ∷ p) (outcomes K s (x ∷ p)) ≡ line_of s x ∷ rest_of s x p
  stays s x p e = cond-false (is_struck m x) (rest_of s x p) (line_of s x ∷ rest_of s x p) e

  strip_left : (x : Call) (p q : List Call) → Sim p q → is_struck m x ≡ true → Sim (x ∷ p) q
  strip_left x p q ih e s t b c v v' d d' o gp gq h1 h2 =
      let z = out s x p e in
      let r = ih (state_after s (perform K s x)) t (note b x (outcome (perform K s x))) c (inv_step K s b v (view K s x)) v' (tidy_step m K s b v d gp.0 (view K s x)) d'
      (core_struck m K s t b c v d o (view K s x) e gp.0) gp.1 gq (sym (ap calls_in z) ∙ h1) (sym (ap (own_outcomes m) z) ∙ h2) in
      record { answers = ap (other_outcomes m) z ∙ r.answers; core = r.core }

  strip_right : (y : Call) (p q : List Call) → Sim p q → is_struck m y ≡ true → Sim p (y ∷ q)
  strip_right y p q ih e s t b c v v' d d' o gp gq h1 h2 =
      let z = out t y q e in
      let r = ih s (state_after t (perform K t y)) b (note c y (outcome (perform K t y))) v (inv_step K t c v' (view K t y)) d (tidy_step m K t c v' d' gq.0 (view K t y))
      (core_sym (core_struck m K t s c b v' d' (core_sym o) (view K t y) e gq.0)) gp gq.1 (h1 ∙ ap calls_in z) (h2 ∙ ap (own_outcomes m) z) in
      record { answers = r.answers ∙ sym (ap (other_outcomes m) z); core = r.core }

  keep_both : (x : Call) (p q : List Call) → Sim p q → is_struck m x ≡ false → Sim (x ∷ p) (x ∷ q)
  keep_both x p q ih e s t b c v v' d d' o gp gq h1 h2 =
      record { answers = ap (other_outcomes m) zs ∙ joined (is_ours m x) r.answers ∙ sym (ap (other_outcomes m) zt); core = r.core }
    where
      zs : lines_left m (x ∷ p) (outcomes K s (x ∷ p)) ≡ line_of s x ∷ rest_of s x p
      zs = stays s x p e

      zt : lines_left m (x ∷ q) (outcomes K t (x ∷ q)) ≡ line_of t x ∷ rest_of t x q
      zt = stays t x q e

      own₁ : List Outcome
      own₁ = own_outcomes m (rest_of s x p)

      own₂ : List Outcome
      own₂ = own_outcomes m (rest_of t x q)

      own_lines : cond (is_ours m x) (outcome (perform K s x) ∷ own₁) own₁ ≡ cond (is_ours m x) (outcome (perform K t x) ∷ own₂) own₂
      own_lines = sym (ap (own_outcomes m) zs) ∙ h2 ∙ ap (own_outcomes m) zt

      heads : (y : Bool) → cond y (outcome (perform K s x) ∷ own₁) own₁ ≡ cond y (outcome (perform K t x) ∷ own₂) own₂ → (y ≡ true → outcome (perform K s x) ≡ outcome (perform K t x)) × (own₁ ≡ own₂)
      heads true q = ((λ _. cc), cc)
      heads false q = ((λ f. absurd (false≢true f)), q)

      k : (outcome (perform K s x) ≡ outcome (perform K t x)) × Core m (state_after s (perform K s x)) (state_after t (perform K t x)) (note b x (outcome (perform K s x))) (note c x (outcome (perform K t x)))
      k = core_kept m K s t b c v v' d d' o x e gp.0 (heads (is_ours m x) own_lines).0

      tails : calls_in (rest_of s x p) ≡ calls_in (rest_of t x q)
      tails = let w : x ∷ calls_in (rest_of s x p) ≡ x ∷ calls_in (rest_of t x q) = sym (ap calls_in zs) ∙ h1 ∙ ap calls_in zt in cc

      r : End p q (state_after s (perform K s x)) (state_after t (perform K t x)) (note b x (outcome (perform K s x))) (note c x (outcome (perform K t x)))
      r = ih _ _ _ _ (inv_step K s b v (view K s x)) (inv_step K t c v' (view K t x)) (tidy_step m K s b v d gp.0 (view K s x)) (tidy_step m K t c v' d' gq.0 (view K t x)) k.1 gp.1 gq.1 tails (heads (is_ours m x) own_lines).1

      joined : (y : Bool) {l l' : List Outcome} → l ≡ l' → cond y l (outcome (perform K s x) ∷ l) ≡ cond y l' (outcome (perform K t x) ∷ l')
      joined y e = λ i. cond y (e i) (k.0 i ∷ e i)

  sim_nil : (q : List Call) → Sim [] q
  sim_nil [] = λ s t b c v v' d d' o gp gq h1 h2. record { answers = refl; core = o }
  sim_nil (y ∷ q) = elim (cases_Bool (is_struck m y)) [
    | inl e ↦ strip_right y [] q (sim_nil q) e
    | inr e ↦ λ s t b c v v' d d' o gp gq h1 h2. nil_cons (h1 ∙ ap calls_in (stays t y q e))
  ]

  sim_kept : (x : Call) (p : List Call) → ((q : List Call) → Sim p q) → is_struck m x ≡ false → (q : List Call) → Sim (x ∷ p) q
  sim_kept x p ih e [] = λ s t b c v v' d d' o gp gq h1 h2. nil_cons (sym h1 ∙ ap calls_in (stays s x p e))
  sim_kept x p ih e (y ∷ q) = elim (cases_Bool (is_struck m y)) [
    | inl f ↦ strip_right y (x ∷ p) q (sim_kept x p ih e q) f
    | inr f ↦ λ s t b c v v' d d' o gp gq h1 h2.
        let w : x ∷ calls_in (rest_of s x p) ≡ y ∷ calls_in (rest_of t y q) = sym (ap calls_in (stays s x p e)) ∙ h1 ∙ ap calls_in (stays t y q f) in
        let z : x ≡ y = cc in
        (subst (λ (u : Call). Sim (x ∷ p) (u ∷ q)) z (keep_both x p q (ih q) e)) s t b c v v' d d' o gp gq h1 h2
  ]

  sim : (p q : List Call) → Sim p q
  sim [] q = sim_nil q
  sim (x ∷ p) q = elim (cases_Bool (is_struck m x)) [ inl e ↦ strip_left x p q (sim p q) e | inr e ↦ sim_kept x p (sim p) e q ]

  tidy_fresh : Tidy m (fresh_state K) empty_ledger
  tidy_fresh = record {
    free_tags = λ g e. none_at K.memory_granules g false;
    free_bytes = λ i e. none_at (16 * K.memory_granules) i 0;
    dated = λ i k e. absurd (none-some _ e);
    even = λ i j e. refl;
    reg_side = λ i a e. absurd (none-some _ (sym (reg_fresh i) ∙ e));
    mem_side = λ g k w t l. absurd (none-some _ l);
  }

  core_fresh : Core m (fresh_state K) (fresh_state K) empty_ledger empty_ledger
  core_fresh = record {
    same = refl;
    registers = λ i h. refl;
    bytes = λ i h. refl;
    tags = λ i h. refl;
  }

  -- on one machine
  same_here : (p q : List Call) → Sized K → Every (GivesApart m) p → Every (GivesApart m) q → calls_in (left m K p) ≡ calls_in (left m K q) → own_outcomes m (left m K p) ≡ own_outcomes m (left m K q)
      → Indistinguishable m K K p q
  same_here p q sized gp gq h1 h2 =
      let r = sim p q (fresh_state K) (fresh_state K) empty_ledger empty_ledger (inv_fresh K sized) (inv_fresh K sized) tidy_fresh tidy_fresh core_fresh gp gq h1 h2 in
      record {
        outcomes = r.answers;
        registers = λ a n y ha hn. reg_slot (after K p) a n hn ∙ r.core.registers (slot a n) (ap m (slot_row a n hn) ∙ y) ∙ sym (reg_slot (after K q) a n hn);
        bytes = r.core.bytes;
        tags = r.core.tags;
      }

-- machines made alike perform alike
module _ (K L : Fixed) (al : Alike K L) where
  perform_alike : (s : State) (x : Call) → perform L s x ≡ perform K s x
  perform_alike s (Call.Grant c r n) =
      let p = sym al.memory_granules in
      let q = sym al.allocator_granules in
      let w = sym al.most in
      let u = sym al.place in
      λ i. unless (is_register c r && (is_operand n && ltb 0 n)) BadNum
      (unless (eqb (p i) (q i)) Sizes (granted s c r n (allocating (u i) s.cells s.mark (w i) n) (allocating (u i) s.cells s.mark (w i) n).answer))
  perform_alike s (Call.Step k) = let p = sym al.memory_granules in λ i. unless (is_operand k && ltb 0 k) BadNum (stepped (p i) s k s.sweep)
  perform_alike s _ = refl

  fresh_alike : fresh_state L ≡ fresh_state K
  fresh_alike =
      let p = sym al.memory_granules in
      let q = sym al.allocator_granules in
      λ i. record {
        registers = empty_registers;
        bytes = replicate (16 * p i) 0;
        tags = replicate (p i) false;
        cells = replicate (q i) Free;
        mark = 0;
        waiting = [];
        painted = [];
        sweep = Idle;
      }

  outcomes_alike : (xs : List Call) (s : State) → outcomes L s xs ≡ outcomes K s xs
  outcomes_alike [] s = refl
  outcomes_alike (x ∷ xs) s =
      let h = outcomes_alike xs (state_after s (perform L s x)) ∙ ap (λ (d : Effect). outcomes K (state_after s d) xs) (perform_alike s x) in
      λ i. outcome (perform_alike s x i) ∷ h i

  after_alike : (xs : List Call) (s : State) → state_after_all L s xs ≡ state_after_all K s xs
  after_alike [] s = refl
  after_alike (x ∷ xs) s = after_alike xs (state_after s (perform L s x)) ∙ ap (λ (d : Effect). state_after_all K (state_after s d) xs) (perform_alike s x)

  left_alike : (m : Group) (q : List Call) → left m L q ≡ left m K q
  left_alike m q = ap (lines_left m q) (outcomes_alike q (fresh_state L) ∙ ap (λ (s : State). outcomes K s q) fresh_alike)

  same_after : (q : List Call) → after L q ≡ after K q
  same_after q = after_alike q (fresh_state L) ∙ ap (λ (s : State). state_after_all K s q) fresh_alike

pub group_cannot_interfere : GroupCannotInterfere
group_cannot_interfere m K L p q sized al gp gq h1 h2 =
    let e = left_alike K L al m q in
    let f = sym (same_after K L al q) in
    let r = same_here K m p q sized gp gq (h1 ∙ ap calls_in e) (h2 ∙ ap (own_outcomes m) e) in
    record {
      outcomes = r.outcomes ∙ sym (ap (other_outcomes m) e);
      registers = λ a n y ha hn. r.registers a n y ha hn ∙ ap (λ (s : State). register_at s a n) f;
      bytes = λ i u. r.bytes i u ∙ ap (λ (s : State). get_or s.bytes i 0) f;
      tags = λ i u. r.tags i u ∙ ap (λ (s : State). get_or s.tags (i / 16) false) f;
    }
