use Rattle.std.proofs.Common.{◌≡◌, ◌<◌, ℕ, List, length, Option, Some, None, IfSome, IsNone, MatchOption, ◌++◌, ◌∷◌, eqb, arith}
use Rattle.std.specs.List.{position_or_len, before_first, after_first}
use Rattle.std.proofs.lemmas.Str.Pattern.{split_once_first}
use Rattle.std.proofs.Common.{Bor}
use Rattle.tree_cursor.specs.Told.{IsCut}
use Rattle.tree_cursor.proofs.Letters.{no_comma, cut_at}
use Rattle.tree_cursor.proofs.pieces.parts.Goals as goal

abbrev Cuts : List ℕ → Option (Bor (List ℕ) × Bor (List ℕ)) → Type 0
Cuts bs r = MatchOption r (position_or_len (λ b. eqb b 44) bs ≡ length bs) (λ x. (position_or_len (λ b. eqb b 44) bs < length bs) × (x.0.now ≡ before_first (λ b. eqb b 44) bs) × (x.1.now ≡ after_first (λ b. eqb b 44) bs))

some_cut : (bs : List ℕ) (r : Option (Bor (List ℕ) × Bor (List ℕ))) → Cuts bs r → IfSome r (λ x. IsCut bs x.0.now x.1.now)
some_cut bs None h = tt
some_cut bs (Some x) h = cut_at bs x.0.now x.1.now h.0 h.1 h.2

none_cut : (bs : List ℕ) (r : Option (Bor (List ℕ) × Bor (List ℕ))) → Cuts bs r → IsNone r → (a b : List ℕ) → bs ≡ a ++ 44 ∷ b → ⊥
none_cut bs None h none a b e = no_comma bs a b h e
none_cut bs (Some x) h none a b e = cc

pub returns-clause-some : goal.returns-clause-some
returns-clause-some c = some_cut c.args.text.now c.split_once.result (split_once_first 44 c.args.text.now c.split_once.result c.split_once.ensures.cases (omega arith))

pub returns-clause-none : goal.returns-clause-none
returns-clause-none c = none_cut c.args.text.now c.split_once.result (split_once_first 44 c.args.text.now c.split_once.result c.split_once.ensures.cases (omega arith))
