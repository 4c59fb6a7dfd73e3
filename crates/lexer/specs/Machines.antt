-- States, which are rows of threads, and what is noted of steps from one to another.
use Rattle.std.specs.Prelude.{◌≡◌, ◌≢◌, ℕ, ◌+◌, ◌*◌, ◌<◌, ◌↔◌, IsTrue, List, length, Some, Contains, slice_get, slice_index_or}
use Rattle.std.specs.declared.vec.Vec.{Vec}
use Rattle.std.specs.declared.alloc.Global.{Global}
use Rattle.recognizer_model.specs.declared.thread.Label.{Label}
use Rattle.recognizer_model.specs.declared.thread.Thread.{Thread}
use Rattle.recognizer_model.specs.Flat.{FlatGrammar}
use Rattle.recognizer_model.specs.Threads.{IsTopRule, Waiting}
use Rattle.threads.specs.Lists.{list_at, IsGrown, AreThreads, AreParts}
use Rattle.threads.specs.Steps.{IsReadBy, IsNext, IsBegin}
use Rattle.lexer.specs.declared.kinds.Kind.{Kind}
use Rattle.lexer.specs.declared.machine.Machine.{Machine}
use Rattle.lexer.specs.Lexical.{LexicalForm}
use Rattle.lexer.specs.Terminals.{AreTerminalsOf}
use Rattle.jagged.specs.Rows.{row_at}

-- the state that follows by a class stands in the state's row of the table
abbrev pub IsNoted : List ℕ → (state class to : ℕ) → Type 0
IsNoted next s c t = (slice_get next (s * 128 + c) ≡ Some t) × (t ≢ 4294967295)

abbrev pub HasBegin : List (Vec ℕ Global × ℕ) → List ℕ → ℕ → Type 0
HasBegin begins starts s = (v : Vec ℕ Global) × Contains begins (v, s) × (v.items ≡ starts)

-- a start's rule is done, after a character or more
abbrev pub IsMatch : FlatGrammar → Thread → Type 0
IsMatch g th = (th.dot ≡ 1) × ((l : Label) × (th.label ≡ Some l)) × IsTopRule g th.rule

pub record IsKindOf (g : FlatGrammar) (row : List Thread) (kind : Kind) : Type 0 where
  pub matches : IsTrue kind.matches ↔ ((th : Thread) × Contains row th × IsMatch g th)
  pub goes : IsTrue kind.goes ↔ ((th : Thread) × Waiting g row th)

pub record AreKinds (g : FlatGrammar) (rows : List (List Thread)) (kinds : List Kind) : Type 0 where
  pub long : length kinds ≡ length rows
  pub each : (s : ℕ) (d : Kind) → s < length kinds → IsKindOf g (list_at rows s) (slice_index_or kinds s d)

abbrev pub form_of : Machine → LexicalForm
form_of m = record { flat = m.flat.now; sets = m.classes.sets }

-- one state leads to another by a class of characters
abbrev pub LeadsBy : FlatGrammar → (classes : List (List ℕ)) → (parts rows : List (List Thread)) → (state class to : ℕ) → Type 0
LeadsBy g classes parts rows s c t = (set : List Thread) × IsNext g parts (IsReadBy g (row_at classes c)) (list_at rows s) set (list_at rows t)

abbrev pub IsStepBy : Machine → (state class to : ℕ) → Type 0
IsStepBy m s c t = LeadsBy m.flat.now m.classes.rows m.parts m.rows s c t

-- one state leads to another by a character
abbrev pub IsStepOver : Machine → (state character to : ℕ) → Type 0
IsStepOver m s c t =
    (terminals : List ℕ) × AreTerminalsOf m.classes.sets c terminals × ((set : List Thread) × IsNext m.flat.now m.parts (IsReadBy m.flat.now terminals) (list_at m.rows s) set (list_at m.rows t))

-- what is noted of a step is so
pub record IsNotedIn (g : FlatGrammar) (classes : List (List ℕ)) (parts rows : List (List Thread)) (s c t : ℕ) : Type 0 where
  pub from : s < length rows
  pub by_class : c < length classes
  pub to : t < length rows
  pub steps : LeadsBy g classes parts rows s c t

abbrev pub IsNotedStep : Machine → (state class to : ℕ) → Type 0
IsNotedStep m s c t = IsNotedIn m.flat.now m.classes.rows m.parts m.rows s c t

-- whatever is noted of states is so: `threads` has the threads of each, `pieces` the parts that their labels tell of
pub record AreStates (g : FlatGrammar) (classes : List (List ℕ)) (pieces threads : List (List Thread)) (told : List Kind) (noted : List ℕ) (firsts : List (Vec ℕ Global × ℕ)) : Type 0 where
  pub parts : AreParts g pieces
  pub rows : (s : ℕ) → AreThreads g (length pieces) (list_at threads s)
  pub kinds : AreKinds g threads told
  pub next : (s c t : ℕ) → c < 128 → IsNoted noted s c t → IsNotedIn g classes pieces threads s c t
  pub begins : (starts : List ℕ) (s : ℕ) → HasBegin firsts starts s → (s < length threads) × ((set : List Thread) × IsBegin g pieces starts set (list_at threads s))

abbrev pub IsMachine : Machine → Type 0
IsMachine m = AreStates m.flat.now m.classes.rows m.parts m.rows m.kinds.items m.next.items m.begins

-- what was there keeps its place
pub record Goes (old new : Machine) : Type 0 where
  pub is : IsMachine new
  pub form : form_of new ≡ form_of old
  pub parts : IsGrown old.parts new.parts
  pub rows : IsGrown old.rows new.rows
