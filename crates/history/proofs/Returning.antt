-- When runs become free.
use Rattle.std.proofs.Common.{◌≡◌, ℕ, ◌+◌, ◌<◌, ◌≤◌, Bool, true, false, ◌⊎◌, List, [], ◌∷◌, ◌++◌, length, get_or, Ok, sym, refl, ap, ◌∙◌, subst, inl, inr, add-zero, arith}
use Rattle.std.proofs.lemmas.List.{append_assoc, append-nil}
use Rattle.std.proofs.lemmas.Bool.{cases_Bool, cond-true, cond-false}
use Rattle.allocator.specs.declared.cell.Cell.TheVariants.{Free}
use Rattle.authority.specs.Capabilities.{base_of}
use Rattle.machine.specs.Calls.{Call}
use Rattle.machine.specs.Model.{Effect, Fixed, State, fresh_state, outcome, state_after}
use Rattle.machine.specs.Rules.{perform}
use Rattle.machine.specs.Runs.{in_runs}
use Rattle.quarantine.specs.declared.run.Run.{Run}
use Rattle.quarantine.specs.declared.sweep.Sweep.TheVariants.{Open}
use Rattle.history.specs.Histories.{Sized, after, answer_to, outcomes, state_after_all}
use Rattle.history.specs.Ledgers.{Ledger, empty_ledger, note, noted_all}
use Rattle.history.specs.Provenance.{ledger}
use Rattle.history.specs.Release.{FreedBySweep, IsFree, MemoryReturnsWhenTheSweepEnds, NoShut, NoShuts, NoneFree, Returns, Waits, granules_named, granules_named_in, granules_since, outcomes_since, run_from}
use Rattle.history.proofs.Authorities.{made_numbers}
use Rattle.history.proofs.Base.{Among, among_append, among_left, among_push, among_right, err_ok, within, within_true}
use Rattle.history.proofs.Invariant.{Inv, Live}
use Rattle.history.proofs.Changes.{idle_open, open_same, painted_released}
use Rattle.history.proofs.Laws.{get_taken, in_among}
use Rattle.history.proofs.Live.{among_in, live_taken}
use Rattle.history.proofs.Rooms.{Room, room_of}
use Rattle.history.proofs.Steps.{inv_fresh, inv_run, inv_step}
use Rattle.history.proofs.View.{View, v_no, v_grant, v_free, v_open, v_pass, v_end, v_shut, view}

-- histories

pub inv_of : (K : Fixed) (p : List Call) → Sized K → Inv K (after K p) (ledger K p)
inv_of K p h = inv_run K p (fresh_state K) empty_ledger (inv_fresh K h)

pub after_append : (K : Fixed) (s : State) (xs ys : List Call) → state_after_all K s (xs ++ ys) ≡ state_after_all K (state_after_all K s xs) ys
after_append K s [] ys = refl
after_append K s (x ∷ xs) ys = after_append K (state_after s (perform K s x)) xs ys

-- one call more
after_more : (K : Fixed) (p : List Call) (x : Call) → after K (p ++ (x ∷ [])) ≡ state_after (after K p) (perform K (after K p) x)
after_more K p x = after_append K (fresh_state K) p (x ∷ [])

-- runs

module _ {K : Fixed} {s : State} {b : Ledger} (v : Inv K s b) where
  held_taken : (r : Run) → Among r (s.painted ++ s.waiting) → (k : ℕ) × Live s.cells b.latest b.grants k r
  held_taken r am = elim (among_append s.painted s.waiting r am) [ inl h ↦ v.painted r h | inr h ↦ v.waiting r h ]

  -- a run in quarantine has no free granule, and some granule
  pub held_not_free : (r : Run) → Among r (s.painted ++ s.waiting) → NoneFree s r
  held_not_free r am g i e = let l = (held_taken r am).1 in live_taken l g i.0 i.1 e

  held_some : (r : Run) → Among r (s.painted ++ s.waiting) → (0 < r.length) × (0 < K.memory_granules)
  held_some r am =
      let l = (held_taken r am).1 in
      let m = made_numbers _ _ _ l.whole l.made in
      let n = (v.numbered _ _ l.granted).1 in
      (l.some, omega (arith, l.some, m.1))

-- what a call leaves of the runs in quarantine: all but those that a sweep's end frees
stays : (K : Fixed) (s : State) (b : Ledger) → Inv K s b → {x : Call} {d : Effect} → View K s x d → (r : Run) → Among r (s.painted ++ s.waiting) → NoneFree (state_after s d) r
    → Among r ((state_after s d).painted ++ (state_after s d).waiting)
stays K s b v (v_free a hc hr e own al whole w) r am nf = elim (among_append s.painted s.waiting r am) [
  | inl h ↦ among_left s.painted _ r h
  | inr h ↦ among_right s.painted _ r (among_left s.waiting _ r h)
]
stays K s b v (v_open e) r am nf = elim (among_append s.painted s.waiting r am) [
  | inl h ↦ absurd (rw (v.idle e) at h)
  | inr h ↦ among_left s.waiting [] r h
]
stays K s b v (v_end p pos e le) r am nf = elim (among_append s.painted s.waiting r am) [
  | inl h ↦ let l = (v.painted r h).1 in
      absurd (nf r.start (omega arith, omega (arith, l.some)) (painted_released K s b v r.start ∙ cond-true _ _ _ (in_among s.painted r r.start h (omega arith) (omega (arith, l.some)))))
  | inr h ↦ h
]
stays K s b v _ r am nf = am

-- the run that an accepted free takes joins the waiting ones
freed_joins : (K : Fixed) (s : State) {c n : ℕ} {d : Effect} → View K s (Call.Free c n) d → (at : ℕ) → outcome d ≡ Ok at
    → Among (run_from s at) ((state_after s d).painted ++ (state_after s d).waiting)
freed_joins K s v_no at q = err_ok q
freed_joins K s (v_free a hc hr e own al whole w) at q =
    let z : base_of a ≡ at = cc in
    rw (← z) (among_right s.painted _ _ (among_right s.waiting _ _ (inl refl)))

-- and it stays as long as no granule of it is free
stays_all : (K : Fixed) (s : State) (b : Ledger) → Inv K s b → (since : List Call) (r : Run) → Among r (s.painted ++ s.waiting)
    → ((xs ys : List Call) → since ≡ xs ++ ys → NoneFree (state_after_all K s xs) r)
    → Among r ((state_after_all K s since).painted ++ (state_after_all K s since).waiting)
stays_all K s b v [] r am nf = am
stays_all K s b v (x ∷ since) r am nf =
    stays_all K (state_after s (perform K s x)) _ (inv_step K s b v (view K s x)) since r
    (stays K s b v (view K s x) r am (nf (x ∷ []) since refl))
    (λ xs ys e. nf (x ∷ xs) ys (ap (λ l. x ∷ l) e))

-- a run that waits by the history is in quarantine
pub waits_held : (K : Fixed) (p : List Call) (r : Run) → Sized K → Waits K p r → Among r ((after K p).painted ++ (after K p).waiting)
waits_held K p r sz w =
    subst (λ (s : State). Among r (s.painted ++ s.waiting)) (sym there)
    (stays_all K t _ (inv_step K s₀ (ledger K w.before) (inv_of K w.before sz) (view K s₀ x)) w.since r joined
    (λ xs ys e. rw (after_append K (fresh_state K) w.before (x ∷ xs)) at (w.taken xs ys e)))
  where
    x : Call
    x = Call.Free w.compartment w.register

    s₀ : State
    s₀ = after K w.before

    t : State
    t = state_after s₀ (perform K s₀ x)

    there : after K p ≡ state_after_all K t w.since
    there = ap (after K) w.history ∙ after_append K (fresh_state K) w.before (x ∷ w.since)

    joined : Among r (t.painted ++ t.waiting)
    joined = rw w.run (freed_joins K s₀ (view K s₀ x) w.at w.freed)

-- a sweep goes on

abbrev On : State → State → ℕ → ℕ → Type 0
On s t m n = (t.sweep ≡ Open (m + n)) × (t.painted ≡ s.painted)

module _ (K : Fixed) (s : State) (m : ℕ) (sw : s.sweep ≡ Open m) where
  stay : On s s m 0
  stay = (rw (add-zero m) sw, refl)

  on_step : {x : Call} {d : Effect} → View K s x d → NoShut x (outcome d) → m + granules_named x (outcome d) < K.memory_granules → On s (state_after s d) m (granules_named x (outcome d))
  on_step (v_open e) h lt = idle_open (sym e ∙ sw)
  on_step (v_pass {k} p pos e l) h lt = let z : p ≡ m = open_same (sym e ∙ sw) in (ap (λ (n : ℕ). Open (n + k)) z, refl)
  on_step (v_end {k} p pos e l) h lt = let z : p ≡ m = open_same (sym e ∙ sw) in absurd (omega arith)
  on_step (v_shut p e) h lt = absurd h
  on_step _ h lt = stay

on_run : (K : Fixed) (q : List Call) (s : State) (m : ℕ) → s.sweep ≡ Open m → NoShuts q (outcomes K s q) → m + granules_named_in q (outcomes K s q) < K.memory_granules
    → On s (state_after_all K s q) m (granules_named_in q (outcomes K s q))
on_run K [] s m sw h lt = stay K s m sw
on_run K (x ∷ q) s m sw h lt =
    let d = perform K s x in
    let n = granules_named x (outcome d) in
    let rest = granules_named_in q (outcomes K (state_after s d) q) in
    let here = on_step K s m sw (view K s x) h.0 (omega arith) in
    let there = on_run K q (state_after s d) (m + n) here.0 h.1 (omega arith) in
    let z : m + n + rest ≡ m + (n + rest) = omega arith in
    (there.0 ∙ ap Open z, there.1 ∙ here.1)

-- the step that ends the sweep
at_end : (K : Fixed) (s : State) (b : Ledger) → Inv K s b → (m k : ℕ) → s.sweep ≡ Open m → K.memory_granules ≤ m + k → {d : Effect} → View K s (Call.Step k) d → (a : ℕ) → outcome d ≡ Ok a
    → (g : ℕ) → in_runs s.painted g ≡ true → get_or (state_after s d).cells g Free ≡ Free
at_end K s b v m k sw le v_no a q g i = err_ok q
at_end K s b v m k sw le (v_pass p pos e lt) a q g i = let z : p ≡ m = open_same (sym e ∙ sw) in absurd (omega arith)
at_end K s b v m k sw le (v_end p pos e l) a q g i = painted_released K s b v g ∙ cond-true _ _ _ i

opened : (K : Fixed) (s : State) (b : Ledger) → Inv K s b → {d : Effect} → View K s Call.OpenSweep d → (a : ℕ) → outcome d ≡ Ok a
    → ((state_after s d).sweep ≡ Open 0) × ((state_after s d).painted ≡ s.waiting) × (s.painted ≡ [])
opened K s b v v_no a q = err_ok q
opened K s b v (v_open e) a q = (refl, refl, v.idle e)

-- no granule becomes free in any other way

-- a list with one more element, cut in two
cut_last : (us : List Call) (x : Call) (xs ys : List Call) → us ++ (x ∷ []) ≡ xs ++ ys → ((zs : List Call) × (us ≡ xs ++ zs)) ⊎ (xs ≡ us ++ (x ∷ []))
cut_last us x [] ys e = inl (us, refl)
cut_last [] x (y ∷ []) ys e = inr (let z : x ≡ y = cc in ap (λ w. w ∷ []) (sym z))
cut_last [] x (y ∷ (w ∷ xs)) ys e = cc
cut_last (a ∷ us) x (y ∷ xs) ys e =
    let h : a ≡ y = cc in
    let t : us ++ (x ∷ []) ≡ xs ++ ys = cc in
    elim (cut_last us x xs ys t) [
      | inl q ↦ inl (q.0, λ i. h i ∷ q.1 i)
      | inr q ↦ inr (λ i. sym h i ∷ q i)
    ]

-- a run that waits goes on waiting as long as it is not free
waits_more : (K : Fixed) (p : List Call) (x : Call) (r : Run) → Waits K p r → NoneFree (after K (p ++ (x ∷ []))) r → Waits K (p ++ (x ∷ [])) r
waits_more K p x r w nf = record {
  before = w.before;
  compartment = w.compartment;
  register = w.register;
  since = w.since ++ (x ∷ []);
  at = w.at;
  history = here;
  freed = w.freed;
  run = w.run;
  taken = λ xs ys e. elim (cut_last w.since x xs ys e) [
    | inl q ↦ w.taken xs q.0 q.1
    | inr q ↦ subst (λ (l : List Call). NoneFree (after K l) r) (here ∙ ap (λ l. w.before ++ (Call.Free w.compartment w.register ∷ l)) (sym q)) nf
  ];
}
  where
    here : p ++ (x ∷ []) ≡ w.before ++ (Call.Free w.compartment w.register ∷ (w.since ++ (x ∷ [])))
    here = ap (λ l. l ++ (x ∷ [])) w.history ∙ append_assoc w.before (Call.Free w.compartment w.register ∷ w.since) (x ∷ [])

abbrev AllWait : Fixed → List Call → Type 0
AllWait K p = (r : Run) → Among r ((after K p).painted ++ (after K p).waiting) → Waits K p r

-- the runs in quarantine after a call were there before, but for the one that a free takes
joined_by : (K : Fixed) (s : State) {x : Call} {d : Effect} → View K s x d → (r : Run) → Among r ((state_after s d).painted ++ (state_after s d).waiting)
    → Among r (s.painted ++ s.waiting) ⊎ ((c n at : ℕ) × (x ≡ Call.Free c n) × (outcome d ≡ Ok at) × (r ≡ run_from s at))
joined_by K s (v_free {c} {r = n} a hc hr e own al whole w) r am = elim (among_append s.painted _ r am) [
  | inl h ↦ inl (among_left s.painted _ r h)
  | inr h ↦ elim (among_push s.waiting _ r h) [ inl q ↦ inl (among_right s.painted _ r q) | inr z ↦ inr (c, n, base_of a, refl, refl, z) ]
]
joined_by K s (v_open e) r am = inl (among_right s.painted _ r (rw append-nil at am))
joined_by K s (v_end p pos e le) r am = inl (among_right s.painted _ r am)
joined_by K s _ r am = inl am

wait_step : (K : Fixed) (p : List Call) (x : Call) → Sized K → AllWait K p → AllWait K (p ++ (x ∷ []))
wait_step K p x sz all r am = elim (joined_by K s (view K s x) r am') [
  | inl h ↦ waits_more K p x r (all r h) nf
  | inr (c, n, at, xe, ok, is) ↦
      let hist : p ++ (x ∷ []) ≡ p ++ (Call.Free c n ∷ []) = ap (λ y. p ++ (y ∷ [])) xe in
      record {
        before = p;
        compartment = c;
        register = n;
        since = [];
        at = at;
        history = hist;
        freed = rw xe at ok;
        run = is;
        taken = λ xs ys e. subst (λ (l : List Call). NoneFree (after K (p ++ (Call.Free c n ∷ l))) r) (none_left xs ys e) (subst (λ (l : List Call). NoneFree (after K l) r) hist nf);
      }
]
  where
    s : State
    s = after K p

    am' : Among r ((state_after s (perform K s x)).painted ++ (state_after s (perform K s x)).waiting)
    am' = rw (after_more K p x) at am

    nf : NoneFree (after K (p ++ (x ∷ []))) r
    nf = held_not_free (inv_of K (p ++ (x ∷ [])) sz) r am

    none_left : (xs ys : List Call) → [] ≡ xs ++ ys → [] ≡ xs
    none_left [] ys e = refl
    none_left (y ∷ xs) ys e = cc

-- what holds at first and is kept by every call holds after every history
every : (P : List Call → Type 0) → ((p : List Call) (x : Call) → P p → P (p ++ (x ∷ []))) → (done todo : List Call) → P done → P (done ++ todo)
every P step done [] h = rw append-nil h
every P step done (x ∷ todo) h = rw append_assoc at (every P step (done ++ (x ∷ [])) todo (step done x h))

pub all_wait : (K : Fixed) (p : List Call) → Sized K → AllWait K p
all_wait K p sz = every (AllWait K) (λ q x. wait_step K q x sz) [] p (λ r am. absurd am)

-- what holds of a run that waits at an open

-- a shut keeps the runs in quarantine
after_shut : (K : Fixed) (s : State) {d : Effect} → View K s Call.Shut d → (r : Run) → Among r (s.painted ++ s.waiting) → Among r ((state_after s d).painted ++ (state_after s d).waiting)
after_shut K s v_no r am = am
after_shut K s (v_shut p e) r am = am

pub returned : (K : Fixed) (p q : List Call) (r : Run) (a : ℕ) → Sized K → answer_to K p Call.OpenSweep ≡ Ok a → Waits K p r
    → NoShuts q (outcomes_since K p q) → granules_since K p q < K.memory_granules → Returns K p q r
returned K p q r a sz acc w un lt = record {
  not_yet = rw go_on taken;
  then = λ k c ans le g i.
      rw (last (Call.Step k))
      (at_end K t _ inv (0 + named) k on.0 (omega (arith, n_same)) (view K t (Call.Step k)) c (rw go_on at ans) g (in_among t.painted r g am i.0 i.1));
  shut = λ c ans. all_wait K (p ++ (Call.OpenSweep ∷ (q ++ (Call.Shut ∷ [])))) sz r
      (rw (last Call.Shut) (after_shut K t (view K t Call.Shut) r (among_left t.painted t.waiting r am)));
}
  where
    s : State
    s = after K p

    o : State
    o = state_after s (perform K s Call.OpenSweep)

    t : State
    t = state_after_all K o q

    named : ℕ
    named = granules_named_in q (outcomes K o q)

    first_open : after K (p ++ (Call.OpenSweep ∷ [])) ≡ o
    first_open = after_append K (fresh_state K) p (Call.OpenSweep ∷ [])

    go_on : after K (p ++ (Call.OpenSweep ∷ q)) ≡ t
    go_on = after_append K (fresh_state K) p (Call.OpenSweep ∷ q)

    last : (x : Call) → after K (p ++ (Call.OpenSweep ∷ (q ++ (x ∷ [])))) ≡ state_after t (perform K t x)
    last x = after_append K (fresh_state K) p (Call.OpenSweep ∷ (q ++ (x ∷ []))) ∙ after_append K o q (x ∷ [])

    inv_s : Inv K s (ledger K p)
    inv_s = inv_of K p sz

    op : (o.sweep ≡ Open 0) × (o.painted ≡ s.waiting) × (s.painted ≡ [])
    op = opened K s (ledger K p) inv_s (view K s Call.OpenSweep) a acc

    n_same : granules_since K p q ≡ named
    n_same = ap (λ (x : State). granules_named_in q (outcomes K x q)) first_open

    on : On o t 0 named
    on = on_run K q o 0 op.0 (rw first_open at un) (omega (arith, n_same))

    inv : Inv K t (noted_all (note (ledger K p) Call.OpenSweep (outcome (perform K s Call.OpenSweep))) q (outcomes K o q))
    inv = inv_run K q o _ (inv_step K s (ledger K p) inv_s (view K s Call.OpenSweep))

    waiting_at : Among r s.waiting
    waiting_at = rw op.2 at (waits_held K p r sz w)

    am : Among r t.painted
    am = rw (on.1, op.1) waiting_at

    taken : NoneFree t r
    taken = held_not_free inv r (among_left t.painted t.waiting r am)

-- an open sweep goes back to its open

pub record Opened (K : Fixed) (p : List Call) (n : ℕ) : Type 0 where
  pub before : List Call
  pub since : List Call
  pub answer : ℕ
  pub history : p ≡ before ++ (Call.OpenSweep ∷ since)
  pub accepted_at : answer_to K before Call.OpenSweep ≡ Ok answer
  pub no_shut : NoShuts since (outcomes_since K before since)
  pub named : n ≡ granules_since K before since
  pub near : (n ≡ 0) ⊎ (n < K.memory_granules)
  pub runs : (after K p).painted ≡ (after K before).waiting

outcomes_more : (K : Fixed) (s : State) (xs : List Call) (x : Call) → granules_named_in (xs ++ (x ∷ [])) (outcomes K s (xs ++ (x ∷ []))) ≡ granules_named_in xs (outcomes K s xs) + granules_named x (outcome (perform K (state_after_all K s xs) x))
outcomes_more K s [] x = omega arith
outcomes_more K s (y ∷ xs) x =
    let t = state_after s (perform K s y) in
    let m = granules_named y (outcome (perform K s y)) in
    let ih = outcomes_more K t xs x in
    omega arith

shuts_more : (K : Fixed) (s : State) (xs : List Call) (x : Call) → NoShuts xs (outcomes K s xs) → NoShut x (outcome (perform K (state_after_all K s xs) x)) → NoShuts (xs ++ (x ∷ [])) (outcomes K s (xs ++ (x ∷ [])))
shuts_more K s [] x h k = (k, tt)
shuts_more K s (y ∷ xs) x h k = (h.0, shuts_more K (state_after s (perform K s y)) xs x h.1 k)

abbrev GoesBack : Fixed → List Call → Type 0
GoesBack K p = (n : ℕ) → (after K p).sweep ≡ Open n → Opened K p n

-- what a call does to an open sweep: it goes on, with the granules named, or the call opened it
pub record Went (K : Fixed) (s : State) (x : Call) (d : Effect) (n : ℕ) : Type 0 where
  pub was : ℕ
  pub opens : s.sweep ≡ Open was
  pub moved : n ≡ was + granules_named x (outcome d)
  pub no_shut : NoShut x (outcome d)
  pub near : (granules_named x (outcome d) ≡ 0) ⊎ (n < K.memory_granules)
  pub same : (state_after s d).painted ≡ s.painted

went : (K : Fixed) (s : State) {x : Call} {d : Effect} → View K s x d → (n : ℕ) → (state_after s d).sweep ≡ Open n → Went K s x d n ⊎ ((x ≡ Call.OpenSweep) × (n ≡ 0) × ((a : ℕ) × (outcome d ≡ Ok a)) × ((state_after s d).painted ≡ s.waiting))
went K s (v_open q) n e = inr (refl, cc, (length s.waiting, refl), refl)
went K s (v_pass {k} p pos q lt) n e = let z : p + k ≡ n = open_same e in inl (record { was = p; opens = q; moved = sym z; no_shut = tt; near = inr (omega arith); same = refl })
went K s (v_end p pos q le) n e = idle_open e
went K s (v_shut p q) n e = idle_open e
went K s _ n e = inl (record { was = n; opens = e; moved = sym (add-zero n); no_shut = tt; near = inl refl; same = refl })

back_step : (K : Fixed) (p : List Call) (x : Call) → GoesBack K p → GoesBack K (p ++ (x ∷ []))
back_step K p x all n e = elim (went K s (view K s x) n (rw (after_more K p x) at e)) [
  | inl w ↦ on w (all w.was w.opens)
  | inr h ↦ record {
    before = p;
    since = [];
    answer = h.2.0;
    history = ap (λ y. p ++ (y ∷ [])) h.0;
    accepted_at = rw h.0 at h.2.1;
    no_shut = tt;
    named = h.1;
    near = inl h.1;
    runs = ap (λ (y : State). y.painted) (after_more K p x) ∙ h.3;
  }
]
  where
    s : State
    s = after K p

    d : Effect
    d = perform K s x

    on : (w : Went K s x d n) → Opened K p w.was → Opened K (p ++ (x ∷ [])) n
    on w o = record {
      before = o.before;
      since = o.since ++ (x ∷ []);
      answer = o.answer;
      history = ap (λ l. l ++ (x ∷ [])) o.history ∙ append_assoc o.before (Call.OpenSweep ∷ o.since) (x ∷ []);
      accepted_at = o.accepted_at;
      no_shut = shuts_more K u o.since x o.no_shut (rw here w.no_shut);
      named = w.moved ∙ (ap (λ m. m + granules_named x (outcome d)) o.named ∙ (ap (λ (y : State). granules_since K o.before o.since + granules_named x (outcome (perform K y x))) (sym here) ∙ sym (outcomes_more K u o.since x)));
      near = elim w.near [
        | inl z ↦ (elim o.near [ inl q ↦ inl (omega (arith, w.moved)) | inr q ↦ inr (omega (arith, w.moved)) ])
        | inr lt ↦ inr lt
      ];
      runs = ap (λ (y : State). y.painted) (after_more K p x) ∙ (w.same ∙ o.runs);
    }
      where
        u : State
        u = after K (o.before ++ (Call.OpenSweep ∷ []))

        here : state_after_all K u o.since ≡ s
        here = sym (ap (after K) (o.history ∙ sym (append_assoc o.before (Call.OpenSweep ∷ []) o.since)) ∙ after_append K (fresh_state K) (o.before ++ (Call.OpenSweep ∷ [])) o.since)

goes_back : (K : Fixed) (p : List Call) → GoesBack K p
goes_back K p = every (GoesBack K) (back_step K) [] p (λ n e. idle_open e)

-- the one way in which a granule becomes free
frees : (K : Fixed) (s : State) (b : Ledger) → Inv K s b → {x : Call} {d : Effect} → View K s x d → (g : ℕ) → (IsFree s g → ⊥) → IsFree (state_after s d) g
    → (k n : ℕ) × (x ≡ Call.Step k) × (s.sweep ≡ Open n) × (K.memory_granules ≤ n + k) × (in_runs s.painted g ≡ true)
frees K s b v (v_grant {n = n} at next hc hr pos same e) g t f = absurd (t (was (within at n g) refl))
  where
    room : Room s.cells at n
    room = room_of s.cells at n (K.lawful.answered s.cells s.mark n at next pos e)

    was : (y : Bool) → within at n g ≡ y → IsFree s g
    was true q = let w = within_true at n g q in room.1 g w.0 w.1
    was false q = rw q at (sym (get_taken s.cells at n g pos room.0) ∙ f)
frees K s b v (v_end {k} p pos e le) g t f = elim (cases_Bool (in_runs s.painted g)) [
  | inl y ↦ (k, p, refl, e, le, y)
  | inr y ↦ absurd (t (sym (cond-false (in_runs s.painted g) Free (get_or s.cells g Free) y) ∙ (sym (painted_released K s b v g) ∙ f)))
]
frees K s b v _ g t f = absurd (t f)

pub freed_by_sweep : (K : Fixed) (p : List Call) (x : Call) (g : ℕ) → Sized K → (IsFree (after K p) g → ⊥) → IsFree (after K (p ++ (x ∷ []))) g → FreedBySweep K p x g
freed_by_sweep K p x g sz t f =
    let s = after K p in
    let v = inv_of K p sz in
    let (k, n, is, op, reach, y) = frees K s (ledger K p) v (view K s x) g t (rw (after_more K p x) at f) in
    let o = goes_back K p n op in
    let (r, ar, lo, hi) = among_in s.painted g y in
    let am : Among r (after K o.before).waiting = subst (λ (l : List Run). Among r l) o.runs ar in
    let pos = (held_some v r (among_left s.painted s.waiting r ar)).1 in
    let lt : n < K.memory_granules = elim o.near [ inl z ↦ omega arith | inr z ↦ z ] in
    record {
      before = o.before;
      since = o.since;
      k = k;
      opened = o.answer;
      run = r;
      history = o.history;
      step = is;
      open_accepted = o.accepted_at;
      no_shut = o.no_shut;
      not_before = omega (arith, o.named);
      reached = omega (arith, o.named, reach);
      waited = all_wait K o.before sz r (among_right (after K o.before).painted _ r am);
      inside = (lo, hi);
    }

pub memory_returns : MemoryReturnsWhenTheSweepEnds
memory_returns = (returned, freed_by_sweep)
