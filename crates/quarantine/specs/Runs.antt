-- Runs of granules.
use Rattle.std.specs.Prelude.{ℕ, ◌+◌, Bool, false, ◌&&◌, ◌||◌, List, [], ◌∷◌, map, ◌==◌, nat_le, nat_lt}
use Rattle.std.specs.List.{range_with_len}
use Rattle.quarantine.specs.declared.run.Run.{Run}

-- the most runs that the quarantine holds
abbrev pub most_runs : ℕ
most_runs = 64

-- granule g lies in a run
abbrev pub in_run : Run → ℕ → Bool
in_run r g = nat_le r.start g && nat_lt g (r.start + r.length)

-- granule g lies in one of several runs; of painted runs: g is painted
abbrev pub in_runs : List Run → ℕ → Bool
in_runs [] g = false
in_runs (r ∷ rs) g = in_run r g || in_runs rs g

-- a run that begins at granule b is among them
abbrev pub begins_at : List Run → ℕ → Bool
begins_at [] b = false
begins_at (r ∷ rs) b = r.start == b || begins_at rs b

-- for each granule below 1,024 whether it lies in one of the runs
unfoldable pub shadow_of : List Run → List Bool
shadow_of rs = map (in_runs rs) (range_with_len 0 1024)
