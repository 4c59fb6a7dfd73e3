-- Tokens have a description or a bad statement.
use Rattle.std.proofs.Common.{◌≡◌, ◌∙◌, ℕ, true, List, [], ◌∷◌, ◌++◌, ◌⊎◌, inl, inr, refl, sym, ap, filter, Option, Some, None}
use Rattle.std.specs.List.{list_all}
use Rattle.std.proofs.lemmas.Bool.{and_parts}
use Rattle.language_model.specs.Tokens.{Spelled}
use Rattle.language_model.specs.Description.{Statement, Together, Spells, Describes, IsBadStatement, pieces_of, cut, is_some}
use Rattle.dsl_reader.specs.Forms.{statement_in}
use Rattle.dsl_reader.proofs.AgainStatement.{statement_again}
use Rattle.dsl_reader.proofs.TakenStatement.{statement_takes}

reads : (piece : List Spelled) → ((s : Statement) × Spells s piece) ⊎ ((s : Statement) → Spells s piece → ⊥)
reads piece = by_form (statement_in piece) refl
  where
    by_form : (found : Option Statement) → statement_in piece ≡ found → ((s : Statement) × Spells s piece) ⊎ ((s : Statement) → Spells s piece → ⊥)
    by_form (Some s) e = inl (s, statement_takes piece s e)
    by_form None e = inr (λ s spells. let clash : Some s ≡ None = sym (statement_again s piece spells) ∙ e in absurd cc)

-- a piece that is no statement, after some that are
record HasBad (pieces : List (List Spelled)) : Type 0 where
  good : List (List Spelled)
  bad : Spelled
  behind : List Spelled
  rest : List (List Spelled)
  are : pieces ≡ good ++ (bad ∷ behind) ∷ rest
  statements : List Statement
  described : Together Spells statements good
  none : (s : Statement) → Spells s (bad ∷ behind) → ⊥

abbrev Decided : List (List Spelled) → Type 0
Decided pieces = ((d : List Statement) × Together Spells d pieces) ⊎ HasBad pieces

more : (piece : List Spelled) (pieces : List (List Spelled)) (s : Statement) → Spells s piece → Decided pieces → Decided (piece ∷ pieces)
more piece pieces s spells (inl some) = inl (s ∷ some.0, (spells, some.1))
more piece pieces s spells (inr bad) = inr (record {
  good = piece ∷ bad.good;
  bad = bad.bad;
  behind = bad.behind;
  rest = bad.rest;
  are = ap (λ ps. piece ∷ ps) bad.are;
  statements = s ∷ bad.statements;
  described = (spells, bad.described);
  none = bad.none;
})

decide : (pieces : List (List Spelled)) → list_all is_some pieces ≡ true → Decided pieces
decide [] some = inl ([], tt)
decide ([] ∷ pieces) some = absurd cc
decide ((t ∷ ts) ∷ pieces) some =
    elim (reads (t ∷ ts)) [
      | inl s ↦ more (t ∷ ts) pieces s.0 s.1 (decide pieces (and_parts (is_some (t ∷ ts)) (list_all is_some pieces) some).1)
      | inr none ↦ inr (record { good = []; bad = t; behind = ts; rest = pieces; are = refl; statements = []; described = tt; none = none })
    ]

all_some : (pieces : List (List Spelled)) → list_all is_some (filter is_some pieces) ≡ true
all_some [] = refl
all_some ([] ∷ pieces) = all_some pieces
all_some ((t ∷ ts) ∷ pieces) = all_some pieces

pub described_or_bad : (tokens : List Spelled) → ((d : List Statement) × Describes d tokens) ⊎ ((at : ℕ) × IsBadStatement tokens at)
described_or_bad tokens =
    elim (decide (pieces_of tokens) (all_some (cut tokens))) [
      | inl some ↦ inl some
      | inr bad ↦ inr (
        bad.bad.at,
        record {
          good = bad.good;
          bad = bad.bad;
          behind = bad.behind;
          rest = bad.rest;
          pieces = bad.are;
          statements = bad.statements;
          described = bad.described;
          none = bad.none;
          place = refl;
        },
      )
    ]
