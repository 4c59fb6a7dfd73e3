-- A kind for each row.
use Rattle.std.proofs.Common.{◌≡◌, ◌⊎◌, inl, inr, ◌+◌, ◌++◌, List, [], ◌∷◌, length, take, get_or, sym, ap, ◌∙◌, subst, arith, length-append}
use Rattle.std.proofs.lemmas.Bool.{cases_lt}
use Rattle.std.proofs.lemmas.List.{get_or_append_left, get_or-append-add, take-append-le, take_all}
use Rattle.recognizer_model.specs.declared.thread.Thread.{Thread}
use Rattle.recognizer_model.specs.Flat.{FlatGrammar}
use Rattle.threads.specs.Lists.{list_at}
use Rattle.lexer.specs.declared.kinds.Kind.{Kind}
use Rattle.lexer.specs.Machines.{IsKindOf, AreKinds}

pub kinds_more : (g : FlatGrammar) (old new : List (List Thread)) (row : List Thread) (kinds after : List Kind) (kind : Kind) → AreKinds g old kinds → IsKindOf g row kind → (new ≡ old) ⊎ (new ≡ old ++ row ∷ []) →
    after ≡ take (length new) (kinds ++ kind ∷ []) → AreKinds g new after
kinds_more g old new row kinds after kind are is (inl e) t =
    let long = are.long in
    let count : length new ≡ length kinds = ap (λ (l : List (List Thread)). length l) e ∙ sym long in
    let same : after ≡ kinds = t ∙ (take-append-le (length new) kinds (kind ∷ []) (omega arith) ∙ take_all (length new) kinds (omega arith)) in
    subst (AreKinds g new) (sym same) (subst (λ l. AreKinds g l kinds) (sym e) are)
kinds_more g old new row kinds after kind are is (inr e) t =
    let long = are.long in
    let a = length-append old (row ∷ []) in
    let b = length-append kinds (kind ∷ []) in
    let count : length new ≡ length old + 1 = ap (λ (l : List (List Thread)). length l) e ∙ a in
    let same : after ≡ kinds ++ kind ∷ [] = t ∙ take_all (length new) (kinds ++ kind ∷ []) (omega arith) in
    let after_long : length after ≡ length kinds + 1 = ap (λ (l : List Kind). length l) same ∙ b in
    record {
      long = omega arith;
      each = λ s d lt. elim (cases_lt s (length old)) [
        | inl below ↦
            let one : list_at new s ≡ list_at old s = ap (λ l. get_or l s []) e ∙ get_or_append_left old (row ∷ []) [] s below in
            let two : get_or after s d ≡ get_or kinds s d = ap (λ l. get_or l s d) same ∙ get_or_append_left kinds (kind ∷ []) d s (omega arith) in
            subst (λ r. IsKindOf g r (get_or after s d)) (sym one) (subst (IsKindOf g (list_at old s)) (sym two) (are.each s d (omega arith)))
        | inr ge ↦
            let here : length old + 0 ≡ s = omega arith in
            let there : length kinds + 0 ≡ s = omega arith in
            let one : list_at new s ≡ row = subst (λ z. list_at new z ≡ row) here (ap (λ l. get_or l (length old + 0) []) e ∙ get_or-append-add old (row ∷ []) 0 []) in
            let two : get_or after s d ≡ kind = subst (λ z. get_or after z d ≡ kind) there (ap (λ l. get_or l (length kinds + 0) d) same ∙ get_or-append-add kinds (kind ∷ []) 0 d) in
            subst (λ r. IsKindOf g r (get_or after s d)) (sym one) (subst (IsKindOf g row) (sym two) is)
      ];
    }
