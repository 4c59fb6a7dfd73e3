-- What an error that is passed on says.
use Rattle.std.proofs.Common.{◌≡◌, Result, Ok, Err, IfErr, sym, subst}
use Rattle.std.specs.Result.{IsErrAnd}
use Rattle.tree_cursor.specs.declared.refusal.CursorRefusal.{CursorRefusal}

pub passed_on : {T : Type 0} (r : Result T CursorRefusal) (e : CursorRefusal) (P : CursorRefusal → Type 0) → IsErrAnd r (λ x. x ≡ e) → P e → IfErr r P
passed_on (Ok x) e P is p = tt
passed_on (Err x) e P is p = subst P (sym is) p
