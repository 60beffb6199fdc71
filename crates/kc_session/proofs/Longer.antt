-- The growth of a history, if there is one.
use Rattle.std.proofs.Common.{◌≡◌, List, [], ◌++◌, refl, sym, ap, append_assoc, append-nil}
use Rattle.std.specs.Prelude.{Option, Some, None}
use Rattle.kc_history.specs.declared.entries.Entry.{Entry}
use Rattle.kc_session.specs.private.Audiences.{longer}

-- no entries leave it the same
pub longer_none : (h : Option (List Entry)) → h ≡ longer h []
longer_none None = refl
longer_none (Some es) = ap Some (sym (append-nil es))

-- some entries, and then others
pub longer_twice : (h i j : Option (List Entry)) (a b : List Entry) → i ≡ longer h a → j ≡ longer i b → j ≡ longer h (a ++ b)
longer_twice None i j a b e f = rw (f, e) refl
longer_twice (Some es) i j a b e f = rw (f, e) (ap Some (append_assoc es a b))
