-- The value of a derivation by a semantics of the caller's own, and where there is none.
use Rattle.std.specs.Prelude.{◌≡◌, ℕ, ◌-◌, List, [], ◌∷◌, ◌++◌, Result, Ok, Err, length, take, drop}
use Rattle.grammar_model.specs.Grammar.{Grammar, rule_at, lhs_of}
use Rattle.grammar_model.specs.Trees.{Tree, Children, Leaf, Nulled, Node, NoChild, Child}
use Rattle.grammar_model.specs.Steps.{Step, TokenStep, NulledStep, RuleStep, after_steps}
use Rattle.grammar_model.specs.Values.{Token, token_at, name_of}
use Rattle.tree_fold.specs.declared.semantics.Token.{Token as HeldToken}

abbrev pub token_told : HeldToken → Token
token_told t = record { start = t.start; length = t.length; text = t.text.now }

-- the values that a step leaves of those held
abbrev pub left_of : {V : Type 0} → List V → Step → List V
left_of held (TokenStep symbol from to) = held
left_of held (NulledStep symbol at) = held
left_of held (RuleStep rule n from to) = take (length held - n) held

module _ {S V E : Type 0} (token_gives : S → S → ℕ → List ℕ → Token → Result V E → Type 0)
    (nulled_gives : S → S → ℕ → List ℕ → Result V E → Type 0)
    (rule_gives : S → S → ℕ → List ℕ → List V → Result V E → Type 0) (g : Grammar) (tokens : List Token) where
  -- between two states of the semantics a tree has a value: its children have theirs, from the left, and then its rule gives it of them
  abbrev mutual
    pub HasValue : Tree → (before : S) → V → (after : S) → Type 0
    HasValue (Leaf symbol from to) before v after = token_gives before after symbol (name_of g symbol) (token_at tokens from) (Ok v)
    HasValue (Nulled symbol at) before v after = nulled_gives before after symbol (name_of g symbol) (Ok v)
    HasValue (Node rule children from to) before v after = (between : S) × (vs : List V) ×
        HaveValues children before vs between × rule_gives between after rule (name_of g (lhs_of (rule_at g rule))) vs (Ok v)

    pub HaveValues : Children → (before : S) → List V → (after : S) → Type 0
    HaveValues NoChild before vs after = (vs ≡ []) × (after ≡ before)
    HaveValues (Child prefix last) before vs after = (between : S) × (ws : List V) × (v : V) ×
        (vs ≡ ws ++ v ∷ []) × HaveValues prefix before ws between × HasValue last between v after

  -- what comes of a step over the values held, of which the newest are its children's
  abbrev pub Gives : (before : S) (held : List V) → Step → Result V E → (after : S) → Type 0
  Gives before held (TokenStep symbol from to) r after = token_gives before after symbol (name_of g symbol) (token_at tokens from) r
  Gives before held (NulledStep symbol at) r after = nulled_gives before after symbol (name_of g symbol) r
  Gives before held (RuleStep rule n from to) r after =
      rule_gives before after rule (name_of g (lhs_of (rule_at g rule))) (drop (length held - n) held) r

  -- the semantics was asked for the first of the steps: their trees have values
  pub record IsAsked (steps : List Step) (before after : S) : Type 0 where
    pub first : List Step
    pub rest : List Step
    pub steps_are : steps ≡ first ++ rest
    pub held : List V
    pub have : HaveValues (after_steps NoChild first) before held after

  -- the trees of the steps before have values, of which a step gives the error
  pub record Fails (steps : List Step) (before : S) (e : E) (after : S) : Type 0 where
    pub first : List Step
    pub step : Step
    pub rest : List Step
    pub steps_are : steps ≡ first ++ step ∷ rest
    pub held : List V
    pub between : S
    pub have : HaveValues (after_steps NoChild first) before held between
    pub gives : Gives between held step (Err e) after
