-- Permission numbers: r is bit 1, w 2, c 4, g 8, o 16.
use Rattle.std.specs.Prelude.{ℕ, Bool, not, ◌==◌, bit_and}
use Rattle.authority.specs.declared.permission.Permission.{Permission}
use Rattle.authority.specs.declared.permission.Permission.TheVariants.{Load, Store, Capabilities, Give, Own}

-- all permissions
abbrev pub all_permissions : ℕ
all_permissions = 31

-- the bit of a permission
abbrev pub bit_of : Permission → ℕ
bit_of Load = 1
bit_of Store = 2
bit_of Capabilities = 4
bit_of Give = 8
bit_of Own = 16

-- a permission number has a permission if it has its bit
abbrev pub allows : ℕ → Permission → Bool
allows mask p = not (bit_and mask (bit_of p) == 0)
