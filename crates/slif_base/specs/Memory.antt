-- The outside in memory: what each object holds, and which of its calls fail.
use Rattle.std.specs.Prelude.{◌≡◌, ℕ, ◌+◌, ◌-◌, ◌^◌, min, List, Option, Result, Contains, IsErr, ◌↔◌}

-- the numbers of the calls that fail, how many calls were made, and how many have failed
pub record CallCount : Type 0 where
  pub fails : List ℕ
  pub made : ℕ
  pub faults : ℕ

-- calls are numbered from 1, up to the last number of u64
abbrev pub next_call : CallCount → ℕ
next_call calls = min (calls.made + 1) (2 ^ 64 - 1)

-- one call more was made
pub record OneCallMore (old new : CallCount) : Type 0 where
  pub fails : new.fails ≡ old.fails
  pub made : new.made ≡ next_call old

-- no call was made
abbrev pub no_calls : List ℕ → CallCount
no_calls fails = record { fails = fails; made = 0; faults = 0 }

-- a call fails exactly where its number is one of those that fail
abbrev pub FailsExactly : {T E : Type 0} → CallCount → Result T E → Type 0
FailsExactly calls result = IsErr result ↔ Contains calls.fails (next_call calls)

-- the bytes that are left, and how many a call gives at most
pub record InputInMemory : Type 0 where
  pub left : List ℕ
  pub give : ℕ
  pub calls : CallCount

-- the bytes that were written, and how many a call takes at most
pub record OutputInMemory : Type 0 where
  pub written : List ℕ
  pub take : ℕ
  pub calls : CallCount

-- the files by name, what is left of the current one, and the names asked for
pub record FilesInMemory : Type 0 where
  pub files : List (List ℕ × List ℕ)
  pub current : Option (List ℕ)
  pub asked : List (List ℕ)
  pub calls : CallCount
