-- Names that are used, in a map.
use Rattle.std.proofs.Common.{◌≡◌, ℕ, ◌<◌, ◌+◌, Bool, true, false, cond, ◌||◌, List, [], ◌∷◌, ◌++◌, length, get_or, take, map, sym, ap, ◌∙◌, refl, bytes_eq, Option, Some, None, is_some}
use Rattle.std.specs.List.{list_any, flat_map}
use Rattle.std.specs.HashMap.{HashMap, UpdatesBy, get_by}
use Rattle.std.specs.Map.{lookup}
use Rattle.std.proofs.lemmas.List.Folds.{list_any_more}
use Rattle.std.proofs.lemmas.Map.Text.{hash_map_updates_str}
use Rattle.std.proofs.lemmas.Slice.Eq.{bytes_eq-Decides}
use denote.Ref.{Bor}
use Rattle.language_model.specs.Description.{Statement}
use Rattle.lint_hints.specs.declared.uses.Names.{Names as HeldNames}
use Rattle.lint_hints.specs.Hints.{Hint}
use Rattle.lint_hints.specs.Uses.{uses_of, is_used, unused, unused_hints}
use Rattle.lint_hints.specs.Found.{has}
use Rattle.lint_hints.proofs.Pieces.{same}

bytes_sym : (a b : List ℕ) → bytes_eq a b ≡ bytes_eq b a
bytes_sym a b = same (bytes_eq a b) (bytes_eq b a) (λ e. (bytes_eq-Decides b a).1 (sym ((bytes_eq-Decides a b).0 e))) (λ e. (bytes_eq-Decides a b).1 (sym ((bytes_eq-Decides b a).0 e)))

some_cond : (b : Bool) (o : Option Bool) → is_some (cond b (Some true) o) ≡ (is_some o || b)
some_cond true None = refl
some_cond true (Some x) = refl
some_cond false None = refl
some_cond false (Some x) = refl

pub put_is : (name : List ℕ) {S : Type 0} (old new : HashMap (Bor (List ℕ)) Bool S) → UpdatesBy (λ x y. bytes_eq x.now y.now) (λ k. bytes_eq name k.now) old new (Some true) → (q : List ℕ) → is_some (get_by (λ k. bytes_eq q k.now) new) ≡ (is_some (get_by (λ k. bytes_eq q k.now) old) || bytes_eq q name)
put_is name old new updates q =
    ap (λ (o : Option Bool). is_some o) (hash_map_updates_str name old new (Some true) updates q) ∙ (some_cond (bytes_eq name q) (get_by (λ k. bytes_eq q k.now) old) ∙ ap (λ b. is_some (get_by (λ k. bytes_eq q k.now) old) || b) (bytes_sym name q))

or_assoc : (a b c : Bool) → ((a || b) || c) ≡ (a || (b || c))
or_assoc true b c = refl
or_assoc false b c = refl

pub more_used : (q : List ℕ) (start old new : Bool) (names : List (Bor (List ℕ))) (i : ℕ) (d : Bor (List ℕ)) → i < length names → old ≡ (start || list_any (λ n. bytes_eq q n.now) (take i names)) → new ≡ (old || bytes_eq q (get_or names i d).now) → new ≡ (start || list_any (λ n. bytes_eq q n.now) (take (i + 1) names))
more_used q start old new names i d w e f =
    f ∙ (ap (λ b. b || bytes_eq q (get_or names i d).now) e ∙ (or_assoc start (list_any (λ n. bytes_eq q n.now) (take i names)) (bytes_eq q (get_or names i d).now) ∙ ap (λ b. start || b) (sym (list_any_more (λ n. bytes_eq q n.now) names i d w))))

any_map : (q : List ℕ) (names : List (Bor (List ℕ))) → list_any (λ n. bytes_eq q n.now) names ≡ list_any (bytes_eq q) (map (λ n. n.now) names)
any_map q [] = refl
any_map q (n ∷ names) = ap (λ b. bytes_eq q n.now || b) (any_map q names)

-- the names of a map that was empty, and got all these, are the used ones
pub used_is : (d : List Statement) (old new : HeldNames) (names slice : List (Bor (List ℕ))) → old.used.entries ≡ [] → map (λ n. n.now) names ≡ flat_map uses_of d → slice ≡ names → ((q : List ℕ) → has new q ≡ (has old q || list_any (λ n. bytes_eq q n.now) slice)) → (q : List ℕ) → has new q ≡ is_used d q
used_is d old new names slice none are is put q =
    put q ∙ (ap (λ es. is_some (lookup (λ k. bytes_eq q k.now) es) || list_any (λ n. bytes_eq q n.now) slice) none ∙ (ap (λ ns. list_any (λ n. bytes_eq q n.now) ns) is ∙ (any_map q names ∙ ap (λ ns. list_any (bytes_eq q) ns) are)))

pub unused_are : (d : List Statement) (names : HeldNames) (old new : List Hint) → ((q : List ℕ) → has names q ≡ is_used d q) → new ≡ old ++ flat_map (unused (has names)) d → new ≡ old ++ unused_hints d
unused_are d names old new are e =
    let same : has names ≡ is_used d = λ i q. are q i in
    e ∙ ap (λ (used : List ℕ → Bool). old ++ flat_map (unused used) d) same
