-- Rows of lexemes as they are held, and the lexemes.
use Rattle.std.proofs.Common.{◌≡◌, ◌∙◌, ℕ, zero, suc, ◌<◌, List, [], ◌∷◌, map, length, All, Contains, Option, Some, None, sym, ap, subst, arith}
use Rattle.std.specs.Prelude.{IfSome}
use Rattle.finite_sets.proofs.Members.{among_from, contains_from, among_map, among_map_from}
use Rattle.grammar_model.specs.Grammar.{Grammar}
use Rattle.grammar_model.specs.Values.{name_of}
use Rattle.language_model.specs.Building.{LexemeRow}
use Rattle.dsl_build.specs.declared.built.LexemeRow.{LexemeRow as HeldRow}
use Rattle.dsl_build.specs.Tables.{row_of}

all_known : (n : ℕ) (rows : List HeldRow) → All (λ (l : LexemeRow). l.symbol < n) (map row_of rows) → All (λ (r : HeldRow). r.symbol < n) rows
all_known n [] all k d lt = absurd (omega (arith, lt))
all_known n (r ∷ rows) all zero d lt = all 0 (row_of r) (omega arith)
all_known n (r ∷ rows) all (suc k) d lt = all_known n rows (λ j e below. all (suc j) e (omega (arith, below))) k d (omega (arith, lt))

module _ (w g : Grammar) (same : w ≡ g) (rows : List HeldRow) (lexemes : List LexemeRow) (held : map row_of rows ≡ lexemes) where
  pub rows_known : All (λ (l : LexemeRow). l.symbol < length g.names) lexemes → All (λ (r : HeldRow). r.symbol < length w.names) rows
  rows_known all =
      subst (λ (x : Grammar). All (λ (r : HeldRow). r.symbol < length x.names) rows) (sym same)
      (all_known (length g.names) rows (subst (λ (ls : List LexemeRow). All (λ (l : LexemeRow). l.symbol < length g.names) ls) (sym held) all))

  pub found_named : (name : List ℕ) (found : Option ℕ) →
      IfSome found (λ symbol. ((r : HeldRow) × Contains rows r × (r.symbol ≡ symbol)) × (name_of w symbol ≡ name)) →
      IfSome found (λ symbol. ((l : LexemeRow) × Contains lexemes l × (l.symbol ≡ symbol)) × (name_of g symbol ≡ name))
  found_named name None none = none
  found_named name (Some symbol) ((r, among, is), named) = (
    (row_of r, subst (λ (ls : List LexemeRow). Contains ls (row_of r)) held (contains_from (map row_of rows) (row_of r) (among_map row_of r rows (among_from rows r among))), is),
    subst (λ (x : Grammar). name_of x symbol ≡ name) same named,
  )

  pub none_named : (name : List ℕ) → ((r : HeldRow) → Contains rows r → name_of w r.symbol ≡ name → ⊥) →
      ((symbol : ℕ) × ((l : LexemeRow) × Contains lexemes l × (l.symbol ≡ symbol)) × (name_of g symbol ≡ name)) → ⊥
  none_named name none (symbol, (l, among, is), named) =
      let (r, in_rows, row_is) = among_map_from row_of l rows (among_from (map row_of rows) l (subst (λ (ls : List LexemeRow). Contains ls l) (sym held) among)) in
      let symbol_is : r.symbol ≡ symbol = ap (λ (x : LexemeRow). x.symbol) row_is ∙ is in
      none r (contains_from rows r in_rows) (ap (name_of w) symbol_is ∙ subst (λ (x : Grammar). name_of x symbol ≡ name) (sym same) named)
