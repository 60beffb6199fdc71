-- A seat with its role.
use Rattle.std.specs.Prelude.{ℕ}
use Rattle.atomic_table.specs.Table.{Me}
use Rattle.kc_store.specs.declared.roles.Role.{Role}

-- a seat's role, and the slots that it holds: the table has none
abbrev pub Sat : Type 0
Sat = Me ℕ Role
