-- Whether a list has an edge.
use Rattle.std.proofs.Common.{◌≡◌, zero, suc, Bool, true, false, ◌==◌, ◌&&◌, ◌||◌, List, [], ◌∷◌, Contains, refl, sym, ap, ◌∙◌, subst, arith, eq-eqb}
use Rattle.std.specs.List.{list_any}
use Rattle.std.proofs.lemmas.Bool.{and_parts, eqb-true}
use Rattle.grammar_core.specs.declared.edges.Edge.{Edge}

abbrev pub edge_eq : Edge → Edge → Bool
edge_eq x y = (x.symbol == y.symbol) && (x.length == y.length)

edge_eq-true : (x y : Edge) → edge_eq x y ≡ true → x ≡ y
edge_eq-true x y h =
    let (a, b) = and_parts (x.symbol == y.symbol) (x.length == y.length) h in
    let ea = eqb-true x.symbol y.symbol a in
    let eb = eqb-true x.length y.length b in
    λ i. record { symbol = ea i; length = eb i }

edge_eq-same : (x : Edge) → edge_eq x x ≡ true
edge_eq-same x = subst (λ b. (b && (x.length == x.length)) ≡ true) (sym (eq-eqb x.symbol x.symbol refl)) (eq-eqb x.length x.length refl)

pub any_there : (es : List Edge) (x : Edge) → list_any (λ y. edge_eq y x) es ≡ true → Contains es x
any_there [] x e = absurd (cc)
any_there (y ∷ ys) x e = by (edge_eq y x) refl (any_there ys x)
  where
    by : (b : Bool) → edge_eq y x ≡ b → (list_any (λ y. edge_eq y x) ys ≡ true → Contains ys x) → Contains (y ∷ ys) x
    by true h rest = (0, omega arith, edge_eq-true y x h)
    by false h rest = let (k, lt, q) = rest (subst (λ b. (b || list_any (λ y. edge_eq y x) ys) ≡ true) h e) in (suc k, omega arith, q)

pub there_any : (es : List Edge) (x : Edge) → Contains es x → list_any (λ y. edge_eq y x) es ≡ true
there_any [] x (k, lt, e) = absurd (omega arith)
there_any (y ∷ ys) x (zero, lt, e) = subst (λ b. (b || list_any (λ y. edge_eq y x) ys) ≡ true) (sym (ap (λ z. edge_eq z x) e ∙ edge_eq-same x)) refl
there_any (y ∷ ys) x (suc k, lt, e) = by (edge_eq y x) (there_any ys x (k, omega arith, e))
  where
    by : (b : Bool) → list_any (λ y. edge_eq y x) ys ≡ true → (b || list_any (λ y. edge_eq y x) ys) ≡ true
    by true h = refl
    by false h = h
