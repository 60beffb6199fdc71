-- The command line, and how the program ends.
use Rattle.std.specs.Prelude.{ℕ, ◌≡◌, List, [], ◌∷◌, Option, None, ◌⊎◌, true}
use Rattle.kc_text.specs.Causes.{Rose, Outlet}
use Rattle.kc_text.specs.Numbers.{number_of}
use Rattle.kc_shell.specs.declared.status.Status.{Status}
use Rattle.kc_shell.specs.Statuses.{unflushed}
use Rattle.kc_shell.specs.Workers.{few_workers}

-- the number of workers of a command line without the program's name: it is one word, that number
unfoldable pub workers_of : List (List ℕ) → Option ℕ
workers_of [] = None
workers_of (w ∷ []) = few_workers (number_of w)
workers_of (w ∷ a ∷ more) = None

-- the program ends as its call did if the output was flushed and its count of faults is as it was; else the count rose
abbrev pub EndsAs : Status → Status → Outlet → Outlet → Type 0
EndsAs status ended before now =
    ((ended ≡ status) × (now ≡ record before { is_flushed = true })) ⊎ ((ended ≡ unflushed status) × Rose before.faults now.faults)
