-- Where the fold of a tree fails, one of its statements is at fault.
use Rattle.std.proofs.Common.{◌≡◌, ◌≢◌, ℕ, zero, suc, ◌-◌, nat_eq, Bool, true, false, cond, List, [], ◌∷◌, ◌++◌, Ok, Err, String, string_bytes, refl, sym, ◌∙◌, ap, subst, arith, length, length-append, append_assoc, drop}
use Rattle.std.specs.declared.alloc.Global.{Global}
use Rattle.std.proofs.lemmas.List.{append-nil, drop-append-le, drop_all}
use Rattle.std.proofs.lemmas.Bool.Decides.{Decides-eqb}
use Rattle.grammar_model.specs.Grammar.{Grammar}
use Rattle.grammar_model.specs.Trees.{Tree, Children, Leaf, Nulled, Node, NoChild, Child}
use Rattle.grammar_model.specs.Steps.{Step, TokenStep, NulledStep, RuleStep, steps_of, below_newest, newest, after_step, after_steps}
use Rattle.grammar_model.specs.Values.{Token, token_at}
use Rattle.grammar_model.proofs.Steps.{steps_make}
use Rattle.tree_fold.specs.Values.{Gives, Fails}
use Rattle.declared_names.specs.Scope.{Declares, TokenGives, NulledGives, RuleGives, DeclarationGives, UseGives, NamesNothing}
use Rattle.declared_names.specs.Names.{Mention, Declared, Used, mention_by, mention_of, mentions_of, mentions_of_all}
use Rattle.declared_names.specs.Faults.{IsFaultOf}
use Rattle.declared_names.specs.declared.fault.Fault.{Fault}
use Rattle.declared_names.specs.declared.fault.Fault.TheVariants.{NotDeclared, DeclaredTwice, NoMemory}
use Rattle.declared_names.specs.declared.scope.Scope.{Scope}
use Rattle.declared_names.specs.declared.scope.Value.{Value}
use Rattle.declared_names.specs.declared.scope.Value.TheVariants.{Word, Nothing}
use Rattle.declared_names.specs.declared.scope.TheConstants.{DECLARATION, USE}
use Rattle.declared_names.proofs.Mentions.{IsBehind, Have, behind_children, no_word, no_child, other_rule, differ}

after_append : (stack : Children) (xs ys : List Step) → after_steps stack (xs ++ ys) ≡ after_steps (after_steps stack xs) ys
after_append stack [] ys = refl
after_append stack (x ∷ xs) ys = after_append (after_step stack x) xs ys

-- a fault is no value
no_value : (e : Fault) (v : Value) → Err e ≡ Ok v → ⊥
no_value e v is = cc

module _ (tokens : List Token) where
  abbrev of_all : Children → List Mention
  of_all = mentions_of_all tokens

  -- a stack cut in two
  cut : (n : ℕ) (stack : Children) → of_all (below_newest n stack) ++ of_all (newest n stack) ≡ of_all stack
  cut zero stack = append-nil (of_all stack)
  cut (suc n) NoChild = refl
  cut (suc n) (Child prefix last) =
      sym (append_assoc (of_all (below_newest n prefix)) (of_all (newest n prefix)) (mentions_of tokens last)) ∙ ap (λ z. z ++ mentions_of tokens last) (cut n prefix)

  rule_step : (stack : Children) (rule n from to : ℕ) → of_all (after_step stack (RuleStep rule n from to)) ≡ of_all stack ++ mention_of tokens rule (newest n stack)
  rule_step stack rule n from to =
      sym (append_assoc (of_all (below_newest n stack)) (of_all (newest n stack)) (mention_of tokens rule (newest n stack))) ∙ ap (λ z. z ++ mention_of tokens rule (newest n stack)) (cut n stack)

  -- steps add to what is mentioned
  one_step : (stack : Children) (step : Step) → (more : List Mention) × (of_all (after_step stack step) ≡ of_all stack ++ more)
  one_step stack (TokenStep symbol from to) = ([], refl)
  one_step stack (NulledStep symbol at) = ([], refl)
  one_step stack (RuleStep rule n from to) = (mention_of tokens rule (newest n stack), rule_step stack rule n from to)

  all_steps : (stack : Children) (steps : List Step) → (more : List Mention) × (of_all (after_steps stack steps) ≡ of_all stack ++ more)
  all_steps stack [] = ([], sym (append-nil (of_all stack)))
  all_steps stack (step ∷ steps) =
      let (one, first) = one_step stack step in
      let (more, rest) = all_steps (after_step stack step) steps in
      (one ++ more, rest ∙ ap (λ z. z ++ more) first ∙ append_assoc (of_all stack) one more)

  -- the tree mentions what its first steps mention, then what its next rule does
  around : (t : Tree) (first rest : List Step) (rule n from to : ℕ) → steps_of t ≡ first ++ RuleStep rule n from to ∷ rest →
      (more : List Mention) × (mentions_of tokens t ≡ of_all (after_steps NoChild first) ++ (mention_of tokens rule (newest n (after_steps NoChild first)) ++ more))
  around t first rest rule n from to is =
      let stack = after_steps NoChild first in
      let (more, rest_is) = all_steps (after_step stack (RuleStep rule n from to)) rest in
      let whole : Child NoChild t ≡ after_steps (after_step stack (RuleStep rule n from to)) rest =
      sym (steps_make t NoChild) ∙ ap (after_steps NoChild) is ∙ after_append NoChild first (RuleStep rule n from to ∷ rest) in
      (more, ap of_all whole ∙ rest_is ∙ ap (λ z. z ++ more) (rule_step stack rule n from to) ∙ append_assoc (of_all stack) (mention_of tokens rule (newest n stack)) more)

-- a rule that fails over the values of its children is at fault for the word that stands last
module _ (between after : Scope) (rule : ℕ) (e : Fault) (mentions : List Mention) where
  no_fault : (vs : List Value) → NamesNothing rule vs → RuleGives between after rule vs (Err e) → ⊥
  no_fault vs none gives = no_value e Nothing (gives.nothing none).1

  declared_again : (text : String Global) (start : ℕ) (token : Token) (more : List Mention) → IsBehind between mentions → string_bytes text ≡ token.text → start ≡ token.start →
      DeclarationGives between after (string_bytes text) start (Err e) → IsFaultOf (mentions ++ (Declared token.text token.start ∷ [] ++ more)) e
  declared_again text start token more behind text_is start_is gives = of_fault e gives
    where
      of_fault : (f : Fault) → DeclarationGives between after (string_bytes text) start (Err f) → IsFaultOf (mentions ++ (Declared token.text token.start ∷ [] ++ more)) f
      of_fault (DeclaredTwice n s first) (same, name_is, at_is, has) = record {
        before = mentions;
        after = more;
        is = cc (name_is, at_is);
        declared = (behind.holds (string_bytes n) first).0 (subst (λ z. Declares between z first) (sym name_is) has);
        first_before = behind.first;
        once_before = behind.once;
      }
      of_fault (NotDeclared n s) gives = absurd gives
      of_fault NoMemory gives = tt

  undeclared : (text : String Global) (start : ℕ) (token : Token) (more : List Mention) → IsBehind between mentions → string_bytes text ≡ token.text → start ≡ token.start →
      UseGives between (string_bytes text) start (Err e) → IsFaultOf (mentions ++ (Used token.text token.start ∷ [] ++ more)) e
  undeclared text start token more behind text_is start_is gives = of_fault e gives
    where
      of_fault : (f : Fault) → UseGives between (string_bytes text) start (Err f) → IsFaultOf (mentions ++ (Used token.text token.start ∷ [] ++ more)) f
      of_fault (NotDeclared n s) (name_is, at_is, missing) = record {
        before = mentions;
        after = more;
        is = cc (name_is, at_is);
        undeclared = λ first has. missing first (subst (λ z. Declares between z first) name_is ((behind.holds (string_bytes n) first).1 has));
        first_before = behind.first;
        once_before = behind.once;
      }
      of_fault (DeclaredTwice n s first) gives = absurd gives
      of_fault NoMemory gives = absurd gives

  by_word : (others : List Value) (text : String Global) (start : ℕ) (token : Token) (more : List Mention) → IsBehind between mentions → string_bytes text ≡ token.text → start ≡ token.start →
      RuleGives between after rule (others ++ Word text start ∷ []) (Err e) → IsFaultOf (mentions ++ (mention_by rule token ++ more)) e
  by_word others text start token more behind text_is start_is gives = by_test (nat_eq rule DECLARATION) (nat_eq rule USE) refl refl
    where
      by_test : (declares uses : Bool) → nat_eq rule DECLARATION ≡ declares → nat_eq rule USE ≡ uses →
          IsFaultOf (mentions ++ (cond declares (Declared token.text token.start ∷ []) (cond uses (Used token.text token.start ∷ []) []) ++ more)) e
      by_test true uses is other =
          declared_again text start token more behind text_is start_is (gives.declares others text start ((Decides-eqb rule DECLARATION).0 is) refl)
      by_test false true none is =
          undeclared text start token more behind text_is start_is (gives.uses others text start ((Decides-eqb rule USE).0 is) refl).1
      by_test false false none neither =
          let no_declaration : rule ≢ DECLARATION = λ e. differ (sym ((Decides-eqb rule DECLARATION).1 e) ∙ none) in
          let no_use : rule ≢ USE = λ e. differ (sym ((Decides-eqb rule USE).1 e) ∙ neither) in
          absurd (no_fault (others ++ Word text start ∷ []) (other_rule rule (others ++ Word text start ∷ []) no_declaration no_use) gives)

-- the newest so many of some values, of which there is a last one
newest_values : (n : ℕ) (ws : List Value) (w : Value) → drop (length (ws ++ w ∷ []) - suc n) (ws ++ w ∷ []) ≡ drop (length (ws ++ w ∷ []) - suc n) ws ++ w ∷ []
newest_values n ws w = drop-append-le (length (ws ++ w ∷ []) - suc n) ws (w ∷ []) (omega (arith, length-append ws (w ∷ [])))

no_newest : (vs : List Value) → drop (length vs - 0) vs ≡ []
no_newest vs = drop_all (length vs - 0) vs (omega arith)

drop-none : (k : ℕ) (vs : List Value) → vs ≡ [] → drop k vs ≡ []
drop-none k vs none = drop_all k vs (omega (arith, ap length none))

module _ (g : Grammar) (tokens : List Token) where
  no_newest_word : (between after : Scope) (rule : ℕ) (e : Fault) (held ws : List Value) (w : Value) (n : ℕ) → held ≡ ws ++ w ∷ [] → w ≡ Nothing → RuleGives between after rule (drop (length held - suc n) held) (Err e) → ⊥
  no_newest_word between after rule e held ws w n is nothing gives =
      let values : drop (length held - suc n) held ≡ drop (length (ws ++ w ∷ []) - suc n) ws ++ w ∷ [] = ap (λ h. drop (length h - suc n) h) is ∙ newest_values n ws w in
      no_fault between after rule e [] (drop (length held - suc n) held)
      (subst (NamesNothing rule) (sym (values ∙ ap (λ z. drop (length (ws ++ w ∷ []) - suc n) ws ++ z ∷ []) nothing)) (no_word rule (drop (length (ws ++ w ∷ []) - suc n) ws))) gives

  by_rule : (start between after : Scope) (stack : Children) (held : List Value) (rule n : ℕ) (e : Fault) (mentions more : List Mention) → IsBehind between mentions → Have g tokens stack start held between →
      RuleGives between after rule (drop (length held - n) held) (Err e) → IsFaultOf (mentions ++ (mention_of tokens rule (newest n stack) ++ more)) e
  by_rule start between after stack held rule zero e mentions more behind have gives =
      absurd (no_fault between after rule e mentions (drop (length held - 0) held) (subst (NamesNothing rule) (sym (no_newest held)) (no_child rule)) gives)
  by_rule start between after NoChild held rule (suc n) e mentions more behind (none, same) gives =
      absurd (no_fault between after rule e mentions (drop (length held - suc n) held) (subst (NamesNothing rule) (sym (drop-none (length held - suc n) held none)) (no_child rule)) gives)
  by_rule start between after (Child prefix (Leaf symbol from to)) held rule (suc n) e mentions more behind (middle, ws, Word text at, is, have, (same, (text_is, at_is))) gives =
      by_word between after rule e mentions (drop (length (ws ++ Word text at ∷ []) - suc n) ws) text at (token_at tokens from) more behind text_is at_is
      (subst (λ z. RuleGives between after rule z (Err e)) (ap (λ h. drop (length h - suc n) h) is ∙ newest_values n ws (Word text at)) gives)
  by_rule start between after (Child prefix (Leaf symbol from to)) held rule (suc n) e mentions more behind (middle, ws, Nothing, is, have, (same, none)) gives = absurd none
  by_rule start between after (Child prefix (Nulled symbol at)) held rule (suc n) e mentions more behind (middle, ws, w, is, have, (same, none)) gives =
      let nothing : w ≡ Nothing = cc in
      absurd (no_newest_word between after rule e held ws w n is nothing gives)
  by_rule start between after (Child prefix (Node other inner from to)) held rule (suc n) e mentions more behind (middle, ws, w, is, have, (deeper, xs, within, made)) gives =
      absurd (no_newest_word between after rule e held ws w n is made.value gives)

  pub failing : (t : Tree) (before after : Scope) (e : Fault) → IsBehind before [] →
      Fails (λ before after symbol name token r. TokenGives before after token r) (λ before after symbol name r. NulledGives before after r) (λ before after rule name children r. RuleGives before after rule children r) g tokens (steps_of t) before e after →
      IsFaultOf (mentions_of tokens t) e
  failing t before after e none f = by_step f.step f.steps_are f.gives
    where
      by_step : (step : Step) → steps_of t ≡ f.first ++ step ∷ f.rest →
          Gives (λ before after symbol name token r. TokenGives before after token r) (λ before after symbol name r. NulledGives before after r) (λ before after rule name children r. RuleGives before after rule children r) g tokens f.between f.held step (Err e) after →
          IsFaultOf (mentions_of tokens t) e
      by_step (TokenStep symbol from to) is (same, no_memory) = subst (IsFaultOf (mentions_of tokens t)) (sym no_memory) tt
      by_step (NulledStep symbol at) is (same, none) = absurd (no_value e Nothing none)
      by_step (RuleStep rule n from to) is gives =
          let stack = after_steps NoChild f.first in
          let (more, mentions_are) = around tokens t f.first f.rest rule n from to is in
          subst (λ z. IsFaultOf z e) (sym mentions_are)
          (by_rule before f.between after stack f.held rule n e (mentions_of_all tokens stack) more (behind_children g tokens stack before f.between f.held [] f.have none) f.have gives)
