-- The words ask for one job, or for none.
use Rattle.std.proofs.Common.{◌≡◌, ℕ, List, Option, Some, None, ◌⊎◌, inl, inr, refl, sym, ◌∙◌}
use Rattle.words_model.specs.Words.{Job, Asks, AskNothing, job_asked}

pub asks_once : (words : List (List ℕ)) (a b : Job) → Asks words a → Asks words b → a ≡ b
asks_once words a b p q = let same : Some a ≡ Some b = sym p ∙ q in cc same

pub asks_or_not : (words : List (List ℕ)) → ((job : Job) × Asks words job) ⊎ AskNothing words
asks_or_not words = by (job_asked words) refl
  where
    by : (o : Option Job) → job_asked words ≡ o → ((job : Job) × Asks words job) ⊎ AskNothing words
    by None e = inr e
    by (Some job) e = inl (job, e)

pub not_both : (words : List (List ℕ)) (job : Job) → Asks words job → AskNothing words → ⊥
not_both words job asks none = let e : Some job ≡ None = sym asks ∙ none in cc e
