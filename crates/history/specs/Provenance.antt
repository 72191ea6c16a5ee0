-- Accesses follow provenance.
use Rattle.std.specs.Prelude.{◌≡◌, ℕ, ◌+◌, ◌<◌, ◌≤◌, true, List, [], ◌∷◌, Some, None, Ok, Option}
use Rattle.authority.specs.Capabilities.{base_of, meet_authority, permissions_of, top_of}
use Rattle.authority.specs.Masks.{allows}
use Rattle.authority.specs.declared.capability.Capability.{Capability}
use Rattle.authority.specs.declared.permission.Permission.{Permission}
use Rattle.authority.specs.declared.permission.Permission.TheVariants as P
use Rattle.machine.specs.Calls.{Call}
use Rattle.machine.specs.Model.{Fixed, State, register_at}
use Rattle.history.specs.Histories.{Sized, after, answer_to, outcomes_of}
use Rattle.history.specs.Ledgers.{Grant, Ledger, empty_ledger, noted_all, slot}

-- the ledger of a history
abbrev pub ledger : Fixed → List Call → Ledger
ledger K p = noted_all empty_ledger p (outcomes_of K p)

-- one capability lies within another: the meet of their authorities is the first's
abbrev pub LiesWithin : Capability → Capability → Type 0
LiesWithin a w = meet_authority a.authority w.authority ≡ a.authority

-- a load, a store or a free: the register that it goes through, the bytes that it touches, from low up to high, and the permissions that it needs
pub record Access : Type 0 where
  pub compartment : ℕ
  pub register : ℕ
  pub low : Capability → ℕ
  pub high : Capability → ℕ
  pub needs : List Permission

abbrev pub access_of : Call → Option Access
access_of (Call.Grant c r n) = None
access_of (Call.Free c r) = Some (record { compartment = c; register = r; low = base_of; high = top_of; needs = P.Own ∷ [] })
access_of (Call.Derive c r s lo len p) = None
access_of (Call.Getb c r off) = Some (record { compartment = c; register = r; low = λ a. base_of a + off; high = λ a. base_of a + off + 1; needs = P.Load ∷ [] })
access_of (Call.Putb c r off v) = Some (record { compartment = c; register = r; low = λ a. base_of a + off; high = λ a. base_of a + off + 1; needs = P.Store ∷ [] })
access_of (Call.Putc c r off s) = Some (record { compartment = c; register = r; low = λ a. base_of a + off; high = λ a. base_of a + off + 16; needs = P.Store ∷ (P.Capabilities ∷ []) })
access_of (Call.Getc c r off s) = Some (record { compartment = c; register = r; low = λ a. base_of a + off; high = λ a. base_of a + off + 16; needs = P.Load ∷ (P.Capabilities ∷ []) })
access_of (Call.Give c r d s) = None
access_of (Call.Drop c r) = None
access_of Call.OpenSweep = None
access_of (Call.Step k) = None
access_of Call.Shut = None

-- a capability has all of some permissions
abbrev pub AllowsAll : Capability → List Permission → Type 0
AllowsAll a [] = Unit {0}
AllowsAll a (p ∷ ps) = (allows (permissions_of a) p ≡ true) × AllowsAll a ps

-- the register holds the capability that the ledger has there; it lies within the grant of its provenance, which is the latest grant of every byte touched;
-- the bytes touched lie within it, and it has the permissions needed
pub record Rightful (s : State) (b : Ledger) (u : Access) : Type 0 where
  pub capability : Capability
  pub provenance : ℕ
  pub from : Grant
  pub holds : register_at s u.compartment u.register ≡ Some capability
  pub recorded : b.registers (slot u.compartment u.register) ≡ Some (record { capability = capability; provenance = provenance })
  pub granted : b.grants provenance ≡ Some from
  pub within : LiesWithin capability from.whole
  pub latest : (i : ℕ) → u.low capability ≤ i → i < u.high capability → b.latest i ≡ Some provenance
  pub inside : (base_of capability ≤ u.low capability) × (u.high capability ≤ top_of capability)
  pub permitted : AllowsAll capability u.needs

-- every accepted load, store or free is rightful
abbrev pub AccessesFollowProvenance : Type 0
AccessesFollowProvenance =
    (K : Fixed) (p : List Call) (x : Call) (u : Access) (a : ℕ) → Sized K → access_of x ≡ Some u → answer_to K p x ≡ Ok a → Rightful (after K p) (ledger K p) u
