-- What the parts of an expression are worth: whole numbers of 64 bits, and why there is none.
use Rattle.std.specs.Prelude.{◌≡◌, ◌≢◌, ℕ, ℤ, pos, neg_ℤ, ◌+◌, ◌-◌, ◌*◌, ◌^◌, ◌*ℤ◌, ◌+ℤ◌, ◌-ℤ◌, int_div, min, List, [], ◌∷◌, Result, Ok, Err, Option, Some, None, FitsSigned, unsigned_abs, codes}
use Rattle.std.specs.Int.{w64}
use Rattle.std.specs.Str.Parse.{IsNumeral, digits_value}
use Rattle.grammar_model.specs.Values.{Token}
use Rattle.calculator.specs.declared.arithmetic.Value.{Value}
use Rattle.calculator.specs.declared.arithmetic.Value.TheVariants.{Number, Sign, Function as FunctionAt}
use Rattle.calculator.specs.declared.arithmetic.TheConstants.{PRODUCT, QUOTIENT, SUM, DIFFERENCE}
use Rattle.calculator.specs.declared.function.Function.{Function}
use Rattle.calculator.specs.declared.function.Function.TheVariants.{Magnitude, Root}
use Rattle.calculator.specs.declared.error.CalculationError.{CalculationError}
use Rattle.calculator.specs.declared.error.CalculationError.TheVariants.{DivisionByZero, NoRoot, NoFunction, TooLarge, NoNumber}

-- the number where it fits, and otherwise that it is too large
pub record Gives (n : ℤ) (column : ℕ) (r : Result Value CalculationError) : Type 0 where
  pub fits : FitsSigned w64 n → r ≡ Ok (Number n)
  pub too_large : ¬ (FitsSigned w64 n) → r ≡ Err (TooLarge column)

-- what was computed, or that it is too large
abbrev pub IsFitting : Option ℤ → (column : ℕ) → Result Value CalculationError → Type 0
IsFitting (Some n) column r = r ≡ Ok (Number n)
IsFitting None column r = r ≡ Err (TooLarge column)

-- the number that a value is, if it is one
abbrev pub IsNumberOf : Value → Result ℤ CalculationError → Type 0
IsNumberOf (Number n) r = r ≡ Ok n
IsNumberOf v r = r ≡ Err NoNumber

-- TOKENS

-- columns count characters from 1
abbrev pub column_of : (start : ℕ) → ℕ
column_of start = min (start + 1) (2 ^ 32 - 1)

-- of decimal digits: their number
abbrev pub NumberGives : (text : List ℕ) (column : ℕ) → Result Value CalculationError → Type 0
NumberGives text column r = IsNumeral 10 text → Gives (pos (digits_value 10 text)) column r

pub record IsFunctionNamed (name : List ℕ) (found : Option Function) : Type 0 where
  pub magnitude : name ≡ codes "abs" → found ≡ Some Magnitude
  pub root : name ≡ codes "sqrt" → found ≡ Some Root
  pub none : name ≢ codes "abs" → name ≢ codes "sqrt" → found ≡ None

pub record NameGives (name : List ℕ) (column : ℕ) (r : Result Value CalculationError) : Type 0 where
  pub magnitude : name ≡ codes "abs" → r ≡ Ok (FunctionAt Magnitude column)
  pub root : name ≡ codes "sqrt" → r ≡ Ok (FunctionAt Root column)
  pub none : name ≢ codes "abs" → name ≢ codes "sqrt" → r ≡ Err (NoFunction column)

pub record TokenGives (name : List ℕ) (token : Token) (r : Result Value CalculationError) : Type 0 where
  pub number : name ≡ codes "Number" → NumberGives token.text (column_of token.start) r
  pub function : name ≡ codes "Name" → NameGives token.text (column_of token.start) r
  pub sign : name ≢ codes "Number" → name ≢ codes "Name" → r ≡ Ok (Sign (column_of token.start))

-- RULES

-- the whole number whose square it is, if there is one
pub record IsRoot (n : ℤ) (found : Option ℤ) : Type 0 where
  pub root : (k : ℕ) → n ≡ pos (k * k) → found ≡ Some (pos k)
  pub none : ((k : ℕ) → n ≢ pos (k * k)) → found ≡ None

pub record RootGives (n : ℤ) (column : ℕ) (r : Result Value CalculationError) : Type 0 where
  pub root : (k : ℕ) → n ≡ pos (k * k) → r ≡ Ok (Number (pos k))
  pub none : ((k : ℕ) → n ≢ pos (k * k)) → r ≡ Err (NoRoot column)

abbrev pub CallGives : Function → ℤ → (column : ℕ) → Result Value CalculationError → Type 0
CallGives Magnitude n column r = Gives (pos (unsigned_abs n)) column r
CallGives Root n column r = RootGives n column r

-- a quotient is cut towards 0
pub record OperationGives (rule : ℕ) (left right : ℤ) (column : ℕ) (r : Result Value CalculationError) : Type 0 where
  pub product : rule ≡ PRODUCT → Gives (left *ℤ right) column r
  pub quotient : rule ≡ QUOTIENT → right ≢ pos 0 → Gives (int_div left right) column r
  pub by_zero : rule ≡ QUOTIENT → right ≡ pos 0 → r ≡ Err (DivisionByZero column)
  pub sum : rule ≡ SUM → Gives (left +ℤ right) column r
  pub difference : rule ≡ DIFFERENCE → Gives (left -ℤ right) column r
  pub other : rule ≢ PRODUCT → rule ≢ QUOTIENT → rule ≢ SUM → rule ≢ DIFFERENCE → r ≡ Err NoNumber

-- a number; one in brackets; a call; a negation; an operation
abbrev pub RuleGives : (rule : ℕ) → List Value → Result Value CalculationError → Type 0
RuleGives rule (Number n ∷ []) r = r ≡ Ok (Number n)
RuleGives rule (Sign left ∷ Number n ∷ Sign right ∷ []) r = r ≡ Ok (Number n)
RuleGives rule (FunctionAt f column ∷ Sign left ∷ Number n ∷ Sign right ∷ []) r = CallGives f n column r
RuleGives rule (Sign column ∷ Number n ∷ []) r = Gives (neg_ℤ n) column r
RuleGives rule (Number left ∷ Sign column ∷ Number right ∷ []) r = OperationGives rule left right column r
RuleGives rule children r = r ≡ Err NoNumber
