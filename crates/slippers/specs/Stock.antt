-- What a supplier is seen as, and what it does when it is asked for a lexeme.
use Rattle.std.specs.Prelude.{◌≡◌, ℕ, ◌==◌, if◌then◌else◌, List, [], ◌∷◌, ◌++◌, Option, Some, None, Contains}
use Rattle.reading_model.specs.First.{IsFirstWith, HasNone}

-- the lexemes that it has, in the order in which they are given; and the place where it last was asked, with those given there
pub record Stock : Type 0 where
  pub names : List ℕ
  pub place : ℕ
  pub given : List ℕ

abbrev pub told : List ℕ → Stock
told names = record { names = names; place = 0; given = [] }

-- those that were given at a place
abbrev pub given_at : Stock → ℕ → List ℕ
given_at s at = if s.place == at then s.given else []

-- it is expected, and was not given at the place
abbrev pub MayGive : Stock → (at : ℕ) → (expected : List ℕ) → ℕ → Type 0
MayGive s at expected x = Contains expected x × (Contains (given_at s at) x → ⊥)

-- the first that may be given is, and is noted; or there is none
abbrev pub Offers : (old : Stock) → (at : ℕ) → (expected : List ℕ) → Option ℕ → (new : Stock) → Type 0
Offers old at expected None new = HasNone (MayGive old at expected) old.names × (new ≡ record { names = old.names; place = at; given = given_at old at })
Offers old at expected (Some x) new = IsFirstWith (MayGive old at expected) old.names x × (new ≡ record { names = old.names; place = at; given = given_at old at ++ x ∷ [] })
