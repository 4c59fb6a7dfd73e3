-- What is declared after a tree is what was declared before it and what its statements declare.
use Rattle.std.proofs.Common.{◌≡◌, ◌≢◌, ◌⊎◌, ◌↔◌, inl, inr, ℕ, ◌<◌, nat_eq, Bool, true, false, cond, List, [], ◌∷◌, ◌++◌, Ok, None, Contains, String, string_bytes, refl, sym, ◌∙◌, ap, subst, arith, length, length-append, append_assoc}
use Rattle.std.specs.declared.alloc.Global.{Global}
use Rattle.std.proofs.lemmas.List.Elements.{Contains-append_left, Contains-push, Contains-push_cases}
use Rattle.std.proofs.lemmas.List.{append-nil}
use Rattle.std.proofs.lemmas.Bool.Decides.{Decides-eqb}
use Rattle.grammar_model.specs.Grammar.{Grammar}
use Rattle.grammar_model.specs.Trees.{Tree, Children, Leaf, Nulled, Node, NoChild, Child}
use Rattle.grammar_model.specs.Values.{Token, token_at}
use Rattle.tree_fold.specs.Values.{HasValue, HaveValues}
use Rattle.declared_names.specs.Scope.{Declares, IsAdded, IsFound, TokenGives, NulledGives, RuleGives, NamesNothing}
use Rattle.declared_names.specs.Names.{Mention, Declared, Used, mention_by, mention_of, mentions_of, mentions_of_all, AreDeclaredFirst, AreDeclaredOnce}
use Rattle.declared_names.specs.declared.scope.Scope.{Scope}
use Rattle.declared_names.specs.declared.scope.Value.{Value}
use Rattle.declared_names.specs.declared.scope.Value.TheVariants.{Word, Nothing}
use Rattle.declared_names.specs.declared.scope.TheConstants.{DECLARATION, USE}

-- the scope holds what these declare, and they keep the rules
pub record IsBehind (scope : Scope) (mentions : List Mention) : Type 0 where
  pub holds : (n : List ℕ) (s : ℕ) → Declares scope n s ↔ Contains mentions (Declared n s)
  pub first : AreDeclaredFirst mentions
  pub once : AreDeclaredOnce mentions

split_last : {A : Type 0} (xs : List A) (x : A) (before : List A) (y : A) (after : List A) → xs ++ x ∷ [] ≡ before ++ y ∷ after → ((xs ≡ before) × (x ≡ y)) ⊎ ((rest : List A) × (xs ≡ before ++ y ∷ rest))
split_last [] x [] y after e = inl (refl, cc)
split_last [] x (b ∷ before) y after e = absurd (omega (arith, ap length e, length-append before (y ∷ after)))
split_last (a ∷ xs) x [] y after e = inr (xs, cc)
split_last (a ∷ xs) x (b ∷ before) y after e = elim (split_last xs x before y after (cc)) [
  | inl (same, is) ↦ inl (cc, is)
  | inr (rest, same) ↦ inr (rest, cc)
]

pub last_is : {A : Type 0} (xs ys : List A) (x y : A) → xs ++ x ∷ [] ≡ ys ++ y ∷ [] → x ≡ y
last_is xs ys x y e = elim (split_last xs x ys y [] e) [
  | inl (same, is) ↦ is
  | inr (rest, same) ↦ absurd (omega (arith, ap length e, length-append xs (x ∷ []), length-append ys (y ∷ []), ap length same, length-append ys (y ∷ rest)))
]

-- one more is declared
declared_more : (before after : Scope) (mentions : List Mention) (name : List ℕ) (start : ℕ) → IsBehind before mentions → ((s : ℕ) → Declares before name s → ⊥) → IsAdded before after name start →
    IsBehind after (mentions ++ Declared name start ∷ [])
declared_more before after mentions name start behind missing added = record {
  holds = λ n s. (told n s, untold n s);
  first = λ b a n s e. elim (split_last mentions (Declared name start) b (Used n s) a e) [
    | inl (same, is) ↦ cc
    | inr (rest, same) ↦ behind.first b rest n s same
  ];
  once = λ b a n s e f has. elim (split_last mentions (Declared name start) b (Declared n s) a e) [
    | inl (same, is) ↦
        let name_is : name ≡ n = cc in
        missing f (subst (λ z. Declares before z f) (sym name_is) ((behind.holds n f).1 (subst (λ z. Contains z (Declared n f)) (sym same) has)))
    | inr (rest, same) ↦ behind.once b rest n s same f has
  ];
}
  where
    told : (n : List ℕ) (s : ℕ) → Declares after n s → Contains (mentions ++ Declared name start ∷ []) (Declared n s)
    told n s d = elim ((added n s).0 d) [
      | inl (name_is, start_is) ↦ subst (λ z. Contains (mentions ++ Declared name start ∷ []) z) (cc) (Contains-push mentions (Declared name start))
      | inr old ↦ Contains-append_left mentions (Declared name start ∷ []) (Declared n s) ((behind.holds n s).0 old)
    ]

    untold : (n : List ℕ) (s : ℕ) → Contains (mentions ++ Declared name start ∷ []) (Declared n s) → Declares after n s
    untold n s c = elim (Contains-push_cases mentions (Declared name start) (Declared n s) c) [
      | inl old ↦ (added n s).1 (inr ((behind.holds n s).1 old))
      | inr new ↦ (added n s).1 (inl (cc, cc))
    ]

-- one is used
used_more : (scope : Scope) (mentions : List Mention) (name : List ℕ) (start first : ℕ) → IsBehind scope mentions → Declares scope name first → IsBehind scope (mentions ++ Used name start ∷ [])
used_more scope mentions name start first behind has = record {
  holds = λ n s. (
    λ d. Contains-append_left mentions (Used name start ∷ []) (Declared n s) ((behind.holds n s).0 d),
    λ c. elim (Contains-push_cases mentions (Used name start) (Declared n s) c) [ inl old ↦ (behind.holds n s).1 old | inr new ↦ cc ],
  );
  first = λ b a n s e. elim (split_last mentions (Used name start) b (Used n s) a e) [
    | inl (same, is) ↦
        let name_is : name ≡ n = cc in
        (first, subst (λ z. Contains z (Declared n first)) same (subst (λ z. Contains mentions (Declared z first)) name_is ((behind.holds name first).0 has)))
    | inr (rest, same) ↦ behind.first b rest n s same
  ];
  once = λ b a n s e f has. elim (split_last mentions (Used name start) b (Declared n s) a e) [
    | inl (same, is) ↦ cc
    | inr (rest, same) ↦ behind.once b rest n s same f has
  ];
}

-- no word stands last
pub no_word : (rule : ℕ) (before : List Value) → NamesNothing rule (before ++ Nothing ∷ [])
no_word rule before others text start e = absurd (nothing_is_no_word (last_is before others Nothing (Word text start) e))
  where
    nothing_is_no_word : Nothing ≡ Word text start → ⊥
    nothing_is_no_word e = cc

pub no_child : (rule : ℕ) → NamesNothing rule []
no_child rule others text start e = absurd (omega (arith, ap length e, length-append others (Word text start ∷ [])))

pub other_rule : (rule : ℕ) (children : List Value) → rule ≢ DECLARATION → rule ≢ USE → NamesNothing rule children
other_rule rule children no_declaration no_use others text start e = (no_declaration, no_use)

pub differ : true ≡ false → ⊥
differ e = cc

-- nothing is declared yet
pub none_behind : (scope : Scope) → scope.declared.entries ≡ [] → IsBehind scope []
none_behind scope empty = record {
  holds = λ n s. (λ (key, has, is). absurd (none has.0 has.1), λ has. absurd (omega (arith, has.1)));
  first = λ b a n s e. absurd (omega (arith, ap length e, length-append b (Used n s ∷ a)));
  once = λ b a n s e. absurd (omega (arith, ap length e, length-append b (Declared n s ∷ a)));
}
  where
    none : (k : ℕ) → k < length scope.declared.entries → ⊥
    none k below = absurd (omega (arith, below, ap length empty))

module _ (g : Grammar) (tokens : List Token) where
  abbrev pub Has : Tree → Scope → Value → Scope → Type 0
  Has = HasValue (λ before after symbol name token r. TokenGives before after token r) (λ before after symbol name r. NulledGives before after r) (λ before after rule name children r. RuleGives before after rule children r) g tokens

  abbrev pub Have : Children → Scope → List Value → Scope → Type 0
  Have = HaveValues (λ before after symbol name token r. TokenGives before after token r) (λ before after symbol name r. NulledGives before after r) (λ before after rule name children r. RuleGives before after rule children r) g tokens

  nothing_more : (before after : Scope) (mentions : List Mention) → IsBehind before mentions → after ≡ before → IsBehind after (mentions ++ [])
  nothing_more before after mentions behind same = subst (λ z. IsBehind after z) (sym (append-nil mentions)) (subst (λ z. IsBehind z mentions) (sym same) behind)

  -- a rule over the values of its children
  by_word : (before after : Scope) (mentions : List Mention) (rule : ℕ) (others : List Value) (text : String Global) (start : ℕ) (token : Token) (v : Value) → IsBehind before mentions →
      string_bytes text ≡ token.text → start ≡ token.start → RuleGives before after rule (others ++ Word text start ∷ []) (Ok v) → IsBehind after (mentions ++ mention_by rule token)
  by_word before after mentions rule others text start token v behind text_is start_is gives = by_test (nat_eq rule DECLARATION) (nat_eq rule USE) refl refl
    where
      by_test : (declares uses : Bool) → nat_eq rule DECLARATION ≡ declares → nat_eq rule USE ≡ uses →
          IsBehind after (mentions ++ cond declares (Declared token.text token.start ∷ []) (cond uses (Used token.text token.start ∷ []) []))
      by_test true uses is other =
          let (nothing, missing, added) = gives.declares others text start ((Decides-eqb rule DECLARATION).0 is) refl in
          declared_more before after mentions token.text token.start behind (subst (λ z. IsFound before z None) text_is missing)
          (subst (λ z. IsAdded before after z token.start) text_is (subst (λ z. IsAdded before after (string_bytes text) z) start_is added))
      by_test false true none is =
          let (same, (nothing, (first, has))) = gives.uses others text start ((Decides-eqb rule USE).0 is) refl in
          used_more after mentions token.text token.start first (subst (λ z. IsBehind z mentions) (sym same) behind)
          (subst (λ z. Declares z token.text first) (sym same) (subst (λ z. Declares before z first) text_is has))
      by_test false false none neither =
          let no_declaration : rule ≢ DECLARATION = λ e. differ (sym ((Decides-eqb rule DECLARATION).1 e) ∙ none) in
          let no_use : rule ≢ USE = λ e. differ (sym ((Decides-eqb rule USE).1 e) ∙ neither) in
          nothing_more before after mentions behind (gives.nothing (other_rule rule (others ++ Word text start ∷ []) no_declaration no_use)).0

  by_rule : (before between after : Scope) (mentions : List Mention) (rule : ℕ) (children : Children) (vs : List Value) (v : Value) → IsBehind between mentions →
      Have children before vs between → RuleGives between after rule vs (Ok v) → IsBehind after (mentions ++ mention_of tokens rule children)
  by_rule before between after mentions rule NoChild vs v behind (none, same) gives =
      nothing_more between after mentions behind (gives.nothing (subst (NamesNothing rule) (sym none) (no_child rule))).0
  by_rule before between after mentions rule (Child prefix (Leaf symbol from to)) vs v behind (middle, ws, Word text start, is, have, (same, (text_is, start_is))) gives =
      by_word between after mentions rule ws text start (token_at tokens from) v behind text_is start_is (subst (λ z. RuleGives between after rule z (Ok v)) is gives)
  by_rule before between after mentions rule (Child prefix (Leaf symbol from to)) vs v behind (middle, ws, Nothing, is, have, (same, none)) gives = absurd none
  by_rule before between after mentions rule (Child prefix (Nulled symbol at)) vs v behind (middle, ws, w, is, have, (same, none)) gives =
      let nothing : w ≡ Nothing = cc in
      nothing_more between after mentions behind (gives.nothing (subst (NamesNothing rule) (sym (is ∙ ap (λ z. ws ++ z ∷ []) nothing)) (no_word rule ws))).0
  by_rule before between after mentions rule (Child prefix (Node other inner from to)) vs v behind (middle, ws, w, is, have, (deeper, xs, within, made)) gives =
      nothing_more between after mentions behind (gives.nothing (subst (NamesNothing rule) (sym (is ∙ ap (λ z. ws ++ z ∷ []) made.value)) (no_word rule ws))).0

  mutual
    pub behind_tree : (t : Tree) (before after : Scope) (v : Value) (mentions : List Mention) → Has t before v after → IsBehind before mentions → IsBehind after (mentions ++ mentions_of tokens t)
    behind_tree (Leaf symbol from to) before after v mentions (same, word) behind = nothing_more before after mentions behind same
    behind_tree (Nulled symbol at) before after v mentions (same, none) behind = nothing_more before after mentions behind same
    behind_tree (Node rule children from to) before after v mentions (between, vs, have, gives) behind =
        let within = behind_children children before between vs mentions have behind in
        subst (λ z. IsBehind after z) (append_assoc mentions (mentions_of_all tokens children) (mention_of tokens rule children))
        (by_rule before between after (mentions ++ mentions_of_all tokens children) rule children vs v within have gives)

    pub behind_children : (children : Children) (before after : Scope) (vs : List Value) (mentions : List Mention) → Have children before vs after → IsBehind before mentions → IsBehind after (mentions ++ mentions_of_all tokens children)
    behind_children NoChild before after vs mentions (none, same) behind = nothing_more before after mentions behind same
    behind_children (Child prefix last) before after vs mentions (between, ws, v, is, have, has) behind =
        subst (λ z. IsBehind after z) (append_assoc mentions (mentions_of_all tokens prefix) (mentions_of tokens last))
        (behind_tree last between after v (mentions ++ mentions_of_all tokens prefix) has (behind_children prefix before between ws mentions have behind))
