-- What results tell.
use Rattle.std.proofs.Common.{◌≡◌, ℕ, cond, List, ◌++◌, Option, Some, None, Result, Ok, Err, OnOk, IfOk, refl}
use Rattle.std.specs.Prelude.{IsNone, IfSome, is_ok}
use Rattle.std.specs.Option.{IsSomeAnd}
use Rattle.std.proofs.lemmas.Bool.{true≢false}

pub when_ok : {T E : Type 0} (r : Result T E) (done undone new : List ℕ) (P : Type 0) → new ≡ cond (is_ok r) done undone → (new ≡ done → P) → OnOk r P
when_ok (Ok x) done undone new P e f = f e
when_ok (Err x) done undone new P e f = tt

pub appended : {T E : Type 0} (r : Result T E) (old more new : List ℕ) (P : Type 0) → new ≡ cond (is_ok r) (old ++ more) old → (new ≡ old ++ more → P) → OnOk r P
appended (Ok x) old more new P e f = f e
appended (Err x) old more new P e f = tt

pub is_none : {A : Type 0} (x : Option A) → x ≡ None → IsNone x
is_none None e = refl
is_none (Some x) e = absurd (cc)

pub not_none : {A E : Type 0} (r : Result (Option A) E) (P : A → Type 0) (Q : Type 0) → IfOk r (λ e. IsSomeAnd e P) → IfOk r (λ e. IsNone e → Q)
not_none (Ok (Some x)) P Q h = λ e. absurd (true≢false e)
not_none (Ok None) P Q h = absurd h
not_none (Err x) P Q h = tt

pub some_if : {A E : Type 0} (r : Result (Option A) E) (P : A → Type 0) → IfOk r (λ e. IsSomeAnd e P) → IfOk r (λ e. IfSome e P)
some_if (Ok (Some x)) P h = h
some_if (Ok None) P h = absurd h
some_if (Err x) P h = tt

pub if_some : {T : Type 0} (o : Option T) (P Q : T → Type 0) → ((x : T) → P x → Q x) → IfSome o P → IfSome o Q
if_some (Some x) P Q f h = f x h
if_some None P Q f h = tt
