-- What every history keeps, of the machine and its ledger.
use Rattle.std.proofs.Common.{◌≡◌, ℕ, ◌+◌, ◌*◌, ◌/◌, ◌<◌, ◌≤◌, true, false, cond, eqb, List, [], ◌∷◌, ◌++◌, length, get_or, Some, Option}
use Rattle.allocator.specs.declared.cell.Cell.{Cell}
use Rattle.allocator.specs.declared.cell.Cell.TheVariants.{Free, First, Rest}
use Rattle.authority.specs.Capabilities.{base_of, capability_of, top_of}
use Rattle.authority.specs.Images.{word_at}
use Rattle.authority.specs.Masks.{all_permissions}
use Rattle.authority.specs.declared.capability.Capability.{Capability}
use Rattle.machine.specs.Model.{Fixed, State}
use Rattle.machine.specs.Runs.{begins_at, in_runs}
use Rattle.quarantine.specs.declared.run.Run.{Run}
use Rattle.quarantine.specs.declared.sweep.Sweep.TheVariants.{Idle, Open}
use Rattle.history.specs.Histories.{Sized}
use Rattle.history.specs.Ledgers.{Entry, Grant, Ledger}
use Rattle.history.specs.Provenance.{LiesWithin}
use Rattle.history.proofs.Base.{Among}
use Rattle.history.proofs.Laws.{Shaped, capability_at, reg}

-- what the run's granule g is in the map
abbrev pub part : Run → ℕ → Cell
part w g = cond (eqb g w.start) First Rest

-- a run that grant k took and that is not released: its grant, its granules in the map, and the latest grant of its bytes
pub record Live (cs : List Cell) (latest : ℕ → Option ℕ) (grants : ℕ → Option Grant) (k : ℕ) (w : Run) : Type 0 where
  pub to : ℕ
  pub whole : Capability
  pub made : capability_of (16 * w.start) (16 * w.start + 16 * w.length) all_permissions ≡ Some whole
  pub granted : grants k ≡ Some (record { to = to; whole = whole })
  pub some : 0 < w.length
  pub cells : (g : ℕ) → w.start ≤ g → g < w.start + w.length → get_or cs g Free ≡ part w g
  pub mine : (i : ℕ) → 16 * w.start ≤ i → i < 16 * w.start + 16 * w.length → latest i ≡ Some k

-- a capability that the ledger has where it stands, within the grant of its provenance, whose run is live
pub record Sound (cs : List Cell) (latest : ℕ → Option ℕ) (grants : ℕ → Option Grant) (a : Capability) (e : Option Entry) : Type 0 where
  pub provenance : ℕ
  pub run : Run
  pub recorded : e ≡ Some (record { capability = a; provenance = provenance })
  pub live : Live cs latest grants provenance run
  pub inside : LiesWithin a live.whole

abbrev pub AllLive : List Cell → (ℕ → Option ℕ) → (ℕ → Option Grant) → List Run → Type 0
AllLive cs latest grants rs = (r : Run) → Among r rs → (k : ℕ) × Live cs latest grants k r

-- no two runs begin at one granule
abbrev pub Once : List Run → Type 0
Once [] = Unit {0}
Once (r ∷ rs) = (begins_at rs r.start ≡ false) × Once rs

pub record Inv (K : Fixed) (s : State) (b : Ledger) : Type 0 where
  pub sized : Sized K
  pub l_bytes : length s.bytes ≡ 16 * K.memory_granules
  pub l_tags : length s.tags ≡ K.memory_granules
  pub l_cells : length s.cells ≡ K.allocator_granules
  pub shaped : Shaped s.registers
  pub regs : (i : ℕ) (a : Capability) → reg s i ≡ Some a → Sound s.cells b.latest b.grants a (b.registers i)
  pub mem : (g : ℕ) → get_or s.tags g false ≡ true → (a : Capability) × (capability_at s.bytes g ≡ Some a) × Sound s.cells b.latest b.grants a (b.granules g)
  pub waiting : AllLive s.cells b.latest b.grants s.waiting
  pub painted : AllLive s.cells b.latest b.grants s.painted
  pub ends : (r : Run) → Among r (s.painted ++ s.waiting) → get_or s.cells (r.start + r.length) Free ≡ Rest → ⊥
  pub once : Once (s.painted ++ s.waiting)
  pub apart : (r : Run) → Among r s.waiting → in_runs s.painted r.start ≡ false
  pub numbered : (k : ℕ) (g : Grant) → b.grants k ≡ Some g → (k < b.next) × (top_of g.whole ≤ 16 * K.memory_granules)
  pub idle : s.sweep ≡ Idle → s.painted ≡ []
  pub regs_new : (i : ℕ) (a : Capability) → reg s i ≡ Some a → in_runs s.painted (base_of a / 16) ≡ false
  pub tags_new : (p : ℕ) → s.sweep ≡ Open p
      → (p ≤ K.memory_granules) × ((g : ℕ) → g < p → get_or s.tags g false ≡ true → in_runs s.painted (word_at s.bytes (16 * g) / 16) ≡ false)
