-- Stretches of addresses, by their base and their top.
use Rattle.std.specs.Prelude.{ℕ, min, max, Bool, cond, ◌&&◌, ◌||◌, ◌==◌, nat_le, nat_lt}

-- a base below its top, or 0 to 0
abbrev pub is_span : ℕ → ℕ → Bool
is_span from to = nat_lt from to || (from == 0 && to == 0)

-- the larger base, and the smaller top; 0 and 0 if that base is not below that top
abbrev pub shared_base : ℕ → ℕ → ℕ → ℕ → ℕ
shared_base a b c d = cond (nat_lt (max a c) (min b d)) (max a c) 0

abbrev pub shared_top : ℕ → ℕ → ℕ → ℕ → ℕ
shared_top a b c d = cond (nat_lt (max a c) (min b d)) (min b d) 0

-- the bytes of the largest memory: 1,024 granules of 16
abbrev pub most_bytes : ℕ
most_bytes = 16384

-- a base below its top, which is at most the last address of the largest memory
abbrev pub is_within : ℕ → ℕ → Bool
is_within from to = nat_lt from to && nat_le to most_bytes
