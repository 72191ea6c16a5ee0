-- The provenance ledger: what calls and outcomes alone tell of capabilities, of the grants that they descend from, and of each byte's latest grant.
use Rattle.std.specs.Prelude.{ℕ, suc, ◌+◌, ◌*◌, ◌/◌, cond, ◌&&◌, List, [], ◌∷◌, Some, None, Ok, Err, Option, ◌==◌, nat_le, nat_lt}
use Rattle.authority.specs.Capabilities.{base_of, capability_of, top_of}
use Rattle.authority.specs.Masks.{all_permissions}
use Rattle.authority.specs.declared.capability.Capability.{Capability}
use Rattle.machine.specs.Calls.{Call}
use Rattle.machine.specs.Model.{register_count}
use Rattle.machine.specs.Rules.{derived}
use Rattle.history.specs.Histories.{Outcome}

-- a capability with its provenance: the number of the grant that it descends from
pub record Entry : Type 0 where
  pub capability : Capability
  pub provenance : ℕ

-- a grant: the compartment that it went to, and its capability
pub record Grant : Type 0 where
  pub to : ℕ
  pub whole : Capability

-- entries of registers and of granules, the latest grant of each byte, the grants by number, and the next grant's number
pub record Ledger : Type 0 where
  pub registers : ℕ → Option Entry
  pub granules : ℕ → Option Entry
  pub latest : ℕ → Option ℕ
  pub grants : ℕ → Option Grant
  pub next : ℕ

-- register r of compartment c, by one number
abbrev pub slot : ℕ → ℕ → ℕ
slot c r = register_count * c + r

abbrev pub put_at : {X : Type 0} → (ℕ → X) → ℕ → X → ℕ → X
put_at f i v j = cond (j == i) v (f j)

-- at first nothing; the first grant has number 1
abbrev pub empty_ledger : Ledger
empty_ledger = record { registers = λ _. None; granules = λ _. None; latest = λ _. None; grants = λ _. None; next = 1 }

abbrev pub with_entry : Ledger → ℕ → Option Entry → Ledger
with_entry b i e = record { registers = put_at b.registers i e; granules = b.granules; latest = b.latest; grants = b.grants; next = b.next }

abbrev pub with_granule : Ledger → ℕ → Option Entry → Ledger
with_granule b g e = record { registers = b.registers; granules = put_at b.granules g e; latest = b.latest; grants = b.grants; next = b.next }

-- a grant to register r of c: the register gets its capability with the grant's number, and its bytes have it as their latest grant
abbrev pub with_grant : Ledger → ℕ → ℕ → Capability → Ledger
with_grant b c r a = record {
  registers = put_at b.registers (slot c r) (Some (record { capability = a; provenance = b.next }));
  granules = b.granules;
  latest = λ i. cond (nat_le (base_of a) i && nat_lt i (top_of a)) (Some b.next) (b.latest i);
  grants = put_at b.grants b.next (Some (record { to = c; whole = a }));
  next = suc b.next;
}

abbrev pub granted : Ledger → ℕ → ℕ → Option Capability → Ledger
granted b c r None = b
granted b c r (Some a) = with_grant b c r a

-- what is derived keeps the provenance of its source
abbrev pub with_provenance : ℕ → Option Capability → Option Entry
with_provenance k None = None
with_provenance k (Some d) = Some (record { capability = d; provenance = k })

abbrev pub derived_entry : Option Entry → ℕ → ℕ → ℕ → Option Entry
derived_entry None lo len p = None
derived_entry (Some a) lo len p = with_provenance a.provenance (derived a.capability lo len p)

-- a store through an entry copies another to the granule at base + off; a load copies that granule's
abbrev pub stored : Ledger → Option Entry → ℕ → Option Entry → Ledger
stored b None off e = b
stored b (Some a) off e = with_granule b ((base_of a.capability + off) / 16) e

abbrev pub loaded : Ledger → Option Entry → ℕ → ℕ → Ledger
loaded b None off i = b
loaded b (Some a) off i = with_entry b i (b.granules ((base_of a.capability + off) / 16))

-- what an accepted call with its answer writes
abbrev pub noted : Ledger → Call → ℕ → Ledger
noted b (Call.Grant c r n) a = granted b c r (capability_of a (a + 16 * n) all_permissions)
noted b (Call.Free c r) a = b
noted b (Call.Derive c r s lo len p) a = with_entry b (slot c r) (derived_entry (b.registers (slot c s)) lo len p)
noted b (Call.Getb c r off) a = b
noted b (Call.Putb c r off v) a = b
noted b (Call.Putc c r off s) a = stored b (b.registers (slot c r)) off (b.registers (slot c s))
noted b (Call.Getc c r off s) a = loaded b (b.registers (slot c r)) off (slot c s)
noted b (Call.Give c r d s) a = with_entry b (slot d s) (b.registers (slot c r))
noted b (Call.Drop c r) a = with_entry b (slot c r) None
noted b Call.OpenSweep a = b
noted b (Call.Step k) a = b
noted b Call.Shut a = b

-- a denial writes nothing
abbrev pub note : Ledger → Call → Outcome → Ledger
note b x (Err f) = b
note b x (Ok a) = noted b x a

abbrev pub noted_all : Ledger → List Call → List Outcome → Ledger
noted_all b [] os = b
noted_all b (x ∷ xs) [] = b
noted_all b (x ∷ xs) (o ∷ os) = noted_all (note b x o) xs os
