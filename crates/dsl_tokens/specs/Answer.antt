-- What `tokens` answers.
use Rattle.std.specs.Prelude.{ℕ, List}
use Rattle.language_model.specs.Tokens.{IsBadPlace}
use Rattle.dsl_tokens.specs.declared.reading.TokenRefusal.{TokenRefusal}
use Rattle.dsl_tokens.specs.declared.reading.TokenRefusal.TheVariants.{BadToken, NoMemory}

abbrev pub Refused : List ℕ → TokenRefusal → Type 0
Refused text (BadToken at) = IsBadPlace text at
Refused text NoMemory = Unit {0}
