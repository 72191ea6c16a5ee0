-- A group of compartments cannot interfere with the others.
use Rattle.std.specs.Prelude.{◌≡◌, ℕ, ◌/◌, ◌<◌, Bool, false, cond, List, [], ◌∷◌, Some, slice_index, slice_index_or}
use Rattle.machine.specs.Calls.{Call}
use Rattle.machine.specs.Model.{Fixed, compartment_count, register_at, register_count}
use Rattle.history.specs.Histories.{Outcome, Sized, after, outcomes_of}
use Rattle.history.specs.Ledgers.{Grant, Ledger}
use Rattle.history.specs.Provenance.{ledger}

-- any set of compartments
abbrev pub Group : Type 0
Group = ℕ → Bool

-- what is struck out: the group's loads, stores, derives, drops and gives
abbrev pub is_struck : Group → Call → Bool
is_struck m (Call.Grant c r n) = false
is_struck m (Call.Free c r) = false
is_struck m (Call.Derive c r s lo len p) = m c
is_struck m (Call.Getb c r off) = m c
is_struck m (Call.Putb c r off v) = m c
is_struck m (Call.Putc c r off s) = m c
is_struck m (Call.Getc c r off s) = m c
is_struck m (Call.Give c r d s) = m c
is_struck m (Call.Drop c r) = m c
is_struck m Call.OpenSweep = false
is_struck m (Call.Step k) = false
is_struck m Call.Shut = false

-- a call of the group; the host is not of it
abbrev pub is_ours : Group → Call → Bool
is_ours m (Call.Grant c r n) = m c
is_ours m (Call.Free c r) = m c
is_ours m (Call.Derive c r s lo len p) = m c
is_ours m (Call.Getb c r off) = m c
is_ours m (Call.Putb c r off v) = m c
is_ours m (Call.Putc c r off s) = m c
is_ours m (Call.Getc c r off s) = m c
is_ours m (Call.Give c r d s) = m c
is_ours m (Call.Drop c r) = m c
is_ours m Call.OpenSweep = false
is_ours m (Call.Step k) = false
is_ours m Call.Shut = false

-- a give has both compartments in the group or both outside
abbrev pub GivesApart : Group → Call → Type 0
GivesApart m (Call.Grant c r n) = Unit {0}
GivesApart m (Call.Free c r) = Unit {0}
GivesApart m (Call.Derive c r s lo len p) = Unit {0}
GivesApart m (Call.Getb c r off) = Unit {0}
GivesApart m (Call.Putb c r off v) = Unit {0}
GivesApart m (Call.Putc c r off s) = Unit {0}
GivesApart m (Call.Getc c r off s) = Unit {0}
GivesApart m (Call.Give c r d s) = m c ≡ m d
GivesApart m (Call.Drop c r) = Unit {0}
GivesApart m Call.OpenSweep = Unit {0}
GivesApart m (Call.Step k) = Unit {0}
GivesApart m Call.Shut = Unit {0}

-- of every element
abbrev pub Every : {X : Type 0} → (X → Type 0) → List X → Type 0
Every P [] = Unit {0}
Every P (x ∷ xs) = P x × Every P xs

-- a call with its outcome
pub record Line : Type 0 where
  pub call : Call
  pub outcome : Outcome

-- the calls that are not struck out, with their outcomes
abbrev pub lines_left : Group → List Call → List Outcome → List Line
lines_left m [] os = []
lines_left m (x ∷ xs) [] = []
lines_left m (x ∷ xs) (o ∷ os) = cond (is_struck m x) (lines_left m xs os) (record { call = x; outcome = o } ∷ lines_left m xs os)

abbrev pub left : Group → Fixed → List Call → List Line
left m K p = lines_left m p (outcomes_of K p)

abbrev pub calls_in : List Line → List Call
calls_in [] = []
calls_in (l ∷ ls) = l.call ∷ calls_in ls

-- the outcomes of the group's calls that are left: its grants and frees
abbrev pub own_outcomes : Group → List Line → List Outcome
own_outcomes m [] = []
own_outcomes m (l ∷ ls) = cond (is_ours m l.call) (l.outcome ∷ own_outcomes m ls) (own_outcomes m ls)

-- the outcomes of the others' calls and of the host's
abbrev pub other_outcomes : Group → List Line → List Outcome
other_outcomes m [] = []
other_outcomes m (l ∷ ls) = cond (is_ours m l.call) (other_outcomes m ls) (l.outcome ∷ other_outcomes m ls)

-- machines made alike
pub record Alike (K L : Fixed) : Type 0 where
  pub memory_granules : K.memory_granules ≡ L.memory_granules
  pub allocator_granules : K.allocator_granules ≡ L.allocator_granules
  pub most : K.most ≡ L.most
  pub place : K.place ≡ L.place

-- the latest grant of byte i went to a compartment outside the group
abbrev pub Outside : Group → Ledger → ℕ → Type 0
Outside m b i = (k : ℕ) × (g : Grant) × (b.latest i ≡ Some k) × (b.grants k ≡ Some g) × (m g.to ≡ false)

-- what the others cannot tell apart: their outcomes and the host's, their registers, and every byte granted to them with its granule's tag
pub record Indistinguishable (m : Group) (K L : Fixed) (p q : List Call) : Type 0 where
  pub outcomes : other_outcomes m (left m K p) ≡ other_outcomes m (left m L q)
  pub registers : (c r : ℕ) → m c ≡ false → c < compartment_count → r < register_count → register_at (after K p) c r ≡ register_at (after L q) c r
  pub bytes : (i : ℕ) → Outside m (ledger K p) i → slice_index (after K p).bytes i ≡ slice_index (after L q).bytes i
  pub tags : (i : ℕ) → Outside m (ledger K p) i → slice_index_or (after K p).tags (i / 16) false ≡ slice_index_or (after L q).tags (i / 16) false

-- two histories of machines made alike, with no give between group and others, which agree once the group's own calls are struck out, and in
-- which the group's grants and frees have equal outcomes, look the same to the others
abbrev pub GroupCannotInterfere : Type 0
GroupCannotInterfere =
    (m : Group) (K L : Fixed) (p q : List Call) → Sized K → Alike K L → Every (GivesApart m) p → Every (GivesApart m) q →
    calls_in (left m K p) ≡ calls_in (left m L q) → own_outcomes m (left m K p) ≡ own_outcomes m (left m L q) → Indistinguishable m K L p q
