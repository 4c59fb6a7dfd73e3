-- Names that are declared before they are used.
use Rattle.std.specs.Prelude.{◌≡◌, ◌≢◌, ◌⊎◌, ℕ, List, [], ◌∷◌, ◌++◌, Result, Ok, Err, Option, Some, None, Contains, ◌↔◌, IfOk, String, string_bytes}
use Rattle.std.specs.declared.alloc.Global.{Global}
use Rattle.grammar_model.specs.Values.{Token}
use Rattle.declared_names.specs.declared.scope.Value.{Value}
use Rattle.declared_names.specs.declared.scope.Value.TheVariants.{Word, Nothing}
use Rattle.declared_names.specs.declared.scope.Scope.{Scope}
use Rattle.declared_names.specs.declared.scope.TheConstants.{DECLARATION, USE}
use Rattle.declared_names.specs.declared.fault.Fault.{Fault}
use Rattle.declared_names.specs.declared.fault.Fault.TheVariants.{NotDeclared, DeclaredTwice, NoMemory}

-- the name is declared there
abbrev pub Declares : Scope → (name : List ℕ) → (start : ℕ) → Type 0
Declares scope name start = (key : String Global) × Contains scope.declared.entries (key, start) × (string_bytes key ≡ name)

-- where it is declared, if it is
abbrev pub IsFound : Scope → List ℕ → Option ℕ → Type 0
IsFound scope name (Some start) = Declares scope name start
IsFound scope name None = (start : ℕ) → Declares scope name start → ⊥

-- one more name
abbrev pub IsAdded : (before after : Scope) → List ℕ → ℕ → Type 0
IsAdded before after name start = (n : List ℕ) (s : ℕ) → Declares after n s ↔ (((n ≡ name) × (s ≡ start)) ⊎ Declares before n s)

abbrev pub DeclarationGives : (before after : Scope) → List ℕ → ℕ → Result Value Fault → Type 0
DeclarationGives before after name start (Ok v) = (v ≡ Nothing) × IsFound before name None × IsAdded before after name start
DeclarationGives before after name start (Err (DeclaredTwice n s first)) = (after ≡ before) × (string_bytes n ≡ name) × (s ≡ start) × IsFound before name (Some first)
DeclarationGives before after name start (Err NoMemory) = after.declared.entries ≡ before.declared.entries
DeclarationGives before after name start (Err e) = ⊥

abbrev pub UseGives : Scope → List ℕ → ℕ → Result Value Fault → Type 0
UseGives scope name start (Ok v) = (v ≡ Nothing) × ((first : ℕ) × Declares scope name first)
UseGives scope name start (Err (NotDeclared n s)) = (string_bytes n ≡ name) × (s ≡ start) × IsFound scope name None
UseGives scope name start (Err e) = ⊥

abbrev pub IsWord : Token → Result Value Fault → Type 0
IsWord token (Ok (Word text start)) = (string_bytes text ≡ token.text) × (start ≡ token.start)
IsWord token (Ok v) = ⊥
IsWord token (Err e) = e ≡ NoMemory

abbrev pub TokenGives : (before after : Scope) → Token → Result Value Fault → Type 0
TokenGives before after token r = (after ≡ before) × IsWord token r

abbrev pub NulledGives : (before after : Scope) → Result Value Fault → Type 0
NulledGives before after r = (after ≡ before) × (r ≡ Ok Nothing)

-- no word stands last, or the rule says nothing of one
abbrev pub NamesNothing : (rule : ℕ) → List Value → Type 0
NamesNothing rule children = (others : List Value) (text : String Global) (start : ℕ) → children ≡ others ++ Word text start ∷ [] → (rule ≢ DECLARATION) × (rule ≢ USE)

-- a word that stands last is declared or used
pub record RuleGives (before after : Scope) (rule : ℕ) (children : List Value) (r : Result Value Fault) : Type 0 where
  pub declares : (others : List Value) (text : String Global) (start : ℕ) → rule ≡ DECLARATION → children ≡ others ++ Word text start ∷ [] → DeclarationGives before after (string_bytes text) start r
  pub uses : (others : List Value) (text : String Global) (start : ℕ) → rule ≡ USE → children ≡ others ++ Word text start ∷ [] → (after ≡ before) × UseGives before (string_bytes text) start r
  pub nothing : NamesNothing rule children → (after ≡ before) × (r ≡ Ok Nothing)
  pub value : IfOk r (λ v. v ≡ Nothing)
