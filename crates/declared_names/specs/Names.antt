-- The names that the statements of a text declare and use: each is to be declared before it is used, and once.
use Rattle.std.specs.Prelude.{◌≡◌, ℕ, ◌==◌, if◌then◌else◌, List, [], ◌∷◌, ◌++◌, Contains}
use Rattle.grammar_model.specs.Trees.{Tree, Children, Leaf, Nulled, Node, NoChild, Child}
use Rattle.grammar_model.specs.Values.{Token, token_at}
use Rattle.declared_names.specs.declared.scope.TheConstants.{DECLARATION, USE}

-- what is done with a name, which begins at that character
pub data Mention : Type 0 where
  Declared : (name : List ℕ) (start : ℕ) → Mention
  Used : (name : List ℕ) (start : ℕ) → Mention

-- what a rule does with the token that is its last part
abbrev pub mention_by : (rule : ℕ) → Token → List Mention
mention_by rule token =
    if rule == DECLARATION then Declared token.text token.start ∷ [] else (if rule == USE then Used token.text token.start ∷ [] else [])

module _ (tokens : List Token) where
  abbrev pub mention_of : (rule : ℕ) → Children → List Mention
  mention_of rule (Child prefix (Leaf symbol from to)) = mention_by rule (token_at tokens from)
  mention_of rule children = []

  -- from the left
  abbrev mutual
    pub mentions_of : Tree → List Mention
    mentions_of (Leaf symbol from to) = []
    mentions_of (Nulled symbol at) = []
    mentions_of (Node rule children from to) = mentions_of_all children ++ mention_of rule children

    pub mentions_of_all : Children → List Mention
    mentions_of_all NoChild = []
    mentions_of_all (Child prefix last) = mentions_of_all prefix ++ mentions_of last

-- each name that is used was declared before
abbrev pub AreDeclaredFirst : List Mention → Type 0
AreDeclaredFirst mentions = (before after : List Mention) (name : List ℕ) (start : ℕ) → mentions ≡ before ++ Used name start ∷ after →
    (first : ℕ) × Contains before (Declared name first)

-- no name that is declared was declared before
abbrev pub AreDeclaredOnce : List Mention → Type 0
AreDeclaredOnce mentions = (before after : List Mention) (name : List ℕ) (start : ℕ) → mentions ≡ before ++ Declared name start ∷ after →
    (first : ℕ) → Contains before (Declared name first) → ⊥

-- this use of a name is the first fault: the name was not declared
pub record IsFirstUndeclared (mentions : List Mention) (name : List ℕ) (start : ℕ) : Type 0 where
  pub before : List Mention
  pub after : List Mention
  pub is : mentions ≡ before ++ Used name start ∷ after
  pub undeclared : (first : ℕ) → Contains before (Declared name first) → ⊥
  pub first_before : AreDeclaredFirst before
  pub once_before : AreDeclaredOnce before

-- this declaration of a name is the first fault: the name was declared there already
pub record IsFirstDeclaredAgain (mentions : List Mention) (name : List ℕ) (start first : ℕ) : Type 0 where
  pub before : List Mention
  pub after : List Mention
  pub is : mentions ≡ before ++ Declared name start ∷ after
  pub declared : Contains before (Declared name first)
  pub first_before : AreDeclaredFirst before
  pub once_before : AreDeclaredOnce before
