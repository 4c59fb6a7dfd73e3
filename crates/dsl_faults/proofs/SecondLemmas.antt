-- Faults of whole statements by those before, and of the parts of right sides.
use Rattle.std.proofs.Common.{◌≡◌, ℕ, zero, suc, ◌+◌, ◌<◌, true, false, List, [], ◌∷◌, ◌++◌, length, drop, refl, sym, ap, ◌∙◌, arith, map, add-one, subst, Option, Some, None, Bor, Vec, Global}
use Rattle.std.specs.Prelude.{flat_map, ◌||◌, codes, bytes_eq, MatchOption}
use Rattle.std.specs.List.{list_any, enumerate_from, AllWithin, HoldsAt}
use Rattle.std.proofs.Math.Bool.{or_comm}
use Rattle.std.proofs.lemmas.List.Folds.{flat_map-map}
use Rattle.finite_sets.proofs.Lists.{flat_flat}
use Rattle.language_model.specs.Tokens.{Spelled}
use Rattle.language_model.specs.Description as description
use Rattle.language_model.specs.Description.{Alternative, Statement, Adverb}
use Rattle.language_model.specs.Building.{Fault, at_most, repeated, repeated_statement, second_starts, start_places, is_lexeme_default, is_lexeme_of, is_one_of, long_parts, parts_of, alternatives_of, repeated_in, pairs_of, adverb_lists, AdverbPlace}
use Rattle.dsl_statement.specs.declared.statement.Statement.{Statement as HeldStatement}
use Rattle.dsl_statement.specs.declared.statement.Alternative.{Alternative as HeldAlternative}
use Rattle.dsl_statement.specs.Statements.{statement_of}
use Rattle.dsl_faults.specs.declared.seconds.Seen.{Seen}
use Rattle.dsl_faults.specs.declared.checks.Check.TheVariants.{Once}
use Rattle.dsl_faults.specs.Adverbs.{statement_faults, list_faults}
use Rattle.dsl_faults.specs.Found.{along}
use Rattle.dsl_faults.specs.Faults.{second_fault, seen_after, start_fault, is_start, long_fault}
use Rattle.dsl_faults.proofs.Lists.{flat_same}
use Rattle.dsl_faults.proofs.Keeping.{among_more, bytes_eq_sym}

abbrev pub repeated_each : Seen → HeldStatement → List Fault
repeated_each seen s = second_fault seen.default seen.lexemes (statement_of s) ++ statement_faults Once (statement_of s)

abbrev pub repeated_next : Seen → HeldStatement → Seen
repeated_next seen s = seen_after seen (statement_of s)

-- what was seen is what stands before
abbrev Knows : Seen → List Statement → Type 0
Knows seen before = (seen.default ≡ list_any is_lexeme_default before) × ((t : List ℕ) → is_one_of seen.lexemes t ≡ list_any (is_lexeme_of t) before)

knows_next : (seen : Seen) (before : List Statement) (s : Statement) → Knows seen before → Knows (seen_after seen s) (s ∷ before)
knows_next seen before (description.LexemeDefault at adverbs) k = (refl, k.1)
knows_next seen before (description.Lexeme at n adverbs) k =
    (k.0, λ t. among_more seen.lexemes n.content t ∙ or_comm (is_one_of seen.lexemes t) (bytes_eq n.content t) ∙ ap (λ b. b || is_one_of seen.lexemes t) (bytes_eq_sym n.content t) ∙ ap (λ b. bytes_eq t n.content || b) (k.1 t))
knows_next seen before (description.Start at n) k = k
knows_next seen before (description.Default at adverbs) k = k
knows_next seen before (description.Discard at item adverbs) k = k
knows_next seen before (description.Empty left lexical adverbs) k = k
knows_next seen before (description.Quantified left lexical item plus adverbs) k = k
knows_next seen before (description.Rules left lexical groups) k = k

second_is : (seen : Seen) (before : List Statement) (s : Statement) → Knows seen before → repeated_statement before s ≡ second_fault seen.default seen.lexemes s
second_is seen before (description.LexemeDefault at adverbs) k = ap (λ b. at_most b (record { at = at; name = codes "lexeme default" })) (sym k.0)
second_is seen before (description.Lexeme at n adverbs) k = ap (λ b. at_most b (record { at = at; name = codes ":lexeme" })) (sym (k.1 n.content))
second_is seen before (description.Start at n) k = refl
second_is seen before (description.Default at adverbs) k = refl
second_is seen before (description.Discard at item adverbs) k = refl
second_is seen before (description.Empty left lexical adverbs) k = refl
second_is seen before (description.Quantified left lexical item plus adverbs) k = refl
second_is seen before (description.Rules left lexical groups) k = refl

repeated_behind : (seen : Seen) (before : List Statement) (ss : List HeldStatement) → Knows seen before → repeated before (map statement_of ss) ≡ along repeated_each repeated_next seen ss
repeated_behind seen before [] k = refl
repeated_behind seen before (s ∷ ss) k =
    let lists = statement_faults Once (statement_of s) in
    let each = flat_same (λ l. repeated_in [] (pairs_of l.1)) (list_faults Once) (adverb_lists (statement_of s)) (λ (l : AdverbPlace × List Adverb). refl) in
    ap (λ fs. (repeated_statement before (statement_of s) ++ fs) ++ repeated (statement_of s ∷ before) (map statement_of ss)) each
    ∙ ap (λ fs. (fs ++ lists) ++ repeated (statement_of s ∷ before) (map statement_of ss)) (second_is seen before (statement_of s) k)
    ∙ ap (λ fs. (second_fault seen.default seen.lexemes (statement_of s) ++ lists) ++ fs) (repeated_behind (seen_after seen (statement_of s)) (statement_of s ∷ before) ss (knows_next seen before (statement_of s) k))

pub repeated_along : (seen : Seen) (ss : List HeldStatement) → seen.default ≡ false → seen.lexemes ≡ [] → repeated [] (map statement_of ss) ≡ along repeated_each repeated_next seen ss
repeated_along seen ss none empty = repeated_behind seen [] ss (none, λ t. ap (λ ns. is_one_of ns t) empty)

-- the places of the parts, from so many on
pub long_numbered : (n : ℕ) (ts : List (Bor Spelled)) → long_parts n (map (λ t. t.now) ts) ≡ flat_map (λ p. long_fault p.0 p.1.now) (enumerate_from n ts)
long_numbered n [] = refl
long_numbered n (t ∷ ts) = ap (λ fs. long_fault n t.now ++ fs) (long_numbered (n + 1) ts)

-- the parts of all alternatives
pub long_flat : (groups : List (Vec HeldAlternative Global)) →
    flat_map (long_parts 0) (map parts_of (alternatives_of (map (λ g. g.items) groups))) ≡ flat_map (λ g. flat_map (λ a. long_parts 0 (parts_of a)) g.items) groups
long_flat groups =
    flat_map-map (long_parts 0) parts_of (alternatives_of (map (λ g. g.items) groups))
    ∙ flat_flat (λ (g : List Alternative). g) (λ (a : Alternative). long_parts 0 (parts_of a)) (map (λ g. g.items) groups)
    ∙ flat_map-map (λ (g : List Alternative). flat_map (λ a. long_parts 0 (parts_of a)) g) (λ g. g.items) groups

abbrev start_at : ℕ → Fault
start_at at = record { at = at; name = codes ":start" }

abbrev pub starts_in : List HeldStatement → List Fault
starts_in ss = flat_map (λ s. start_fault (statement_of s)) ss

start_here : (s : Statement) → is_start s ≡ true → (fs : List Fault) → drop 1 (start_fault s ++ fs) ≡ fs
start_here (description.Start at n) e fs = refl
start_here (description.LexemeDefault at adverbs) e fs = cc
start_here (description.Lexeme at n adverbs) e fs = cc
start_here (description.Default at adverbs) e fs = cc
start_here (description.Discard at item adverbs) e fs = cc
start_here (description.Empty left lexical adverbs) e fs = cc
start_here (description.Quantified left lexical item plus adverbs) e fs = cc
start_here (description.Rules left lexical groups) e fs = cc

no_start_here : (s : Statement) → is_start s ≡ false → start_fault s ≡ []
no_start_here (description.Start at n) e = cc
no_start_here (description.LexemeDefault at adverbs) e = refl
no_start_here (description.Lexeme at n adverbs) e = refl
no_start_here (description.Default at adverbs) e = refl
no_start_here (description.Discard at item adverbs) e = refl
no_start_here (description.Empty left lexical adverbs) e = refl
no_start_here (description.Quantified left lexical item plus adverbs) e = refl
no_start_here (description.Rules left lexical groups) e = refl

start_told : (s : Statement) (places : List ℕ) → map start_at (start_places s ++ places) ≡ start_fault s ++ map start_at places
start_told (description.Start at n) places = refl
start_told (description.LexemeDefault at adverbs) places = refl
start_told (description.Lexeme at n adverbs) places = refl
start_told (description.Default at adverbs) places = refl
start_told (description.Discard at item adverbs) places = refl
start_told (description.Empty left lexical adverbs) places = refl
start_told (description.Quantified left lexical item plus adverbs) places = refl
start_told (description.Rules left lexical groups) places = refl

all_starts : (ss : List HeldStatement) → map start_at (flat_map start_places (map statement_of ss)) ≡ starts_in ss
all_starts [] = refl
all_starts (s ∷ ss) = start_told (statement_of s) (flat_map start_places (map statement_of ss)) ∙ ap (λ fs. start_fault (statement_of s) ++ fs) (all_starts ss)

map_behind : {A B : Type 0} (f : A → B) (xs : List A) → map f (drop 1 xs) ≡ drop 1 (map f xs)
map_behind f [] = refl
map_behind f (x ∷ xs) = refl

second_of : (ss : List HeldStatement) → second_starts (map statement_of ss) ≡ drop 1 (starts_in ss)
second_of ss = map_behind start_at (flat_map start_places (map statement_of ss)) ∙ ap (drop 1) (all_starts ss)

behind : (ss : List HeldStatement) (i : ℕ) → i < length ss → HoldsAt (λ s. true ≡ is_start (statement_of s)) ss i → AllWithin (λ s. false ≡ is_start (statement_of s)) ss 0 i → drop 1 (starts_in ss) ≡ starts_in (drop (suc i) ss)
behind [] i lt at before = absurd (omega arith)
behind (s ∷ ss) zero lt at before = start_here (statement_of s) (sym (at s)) (starts_in ss)
behind (s ∷ ss) (suc i) lt at before =
    ap (λ fs. drop 1 (fs ++ starts_in ss)) (no_start_here (statement_of s) (sym (before 0 s (omega arith) (omega arith))))
    ∙ behind ss i (omega arith) at (λ k d l m. before (suc k) d (omega arith) (omega arith))

no_starts : (ss : List HeldStatement) → AllWithin (λ s. false ≡ is_start (statement_of s)) ss 0 (length ss) → starts_in ss ≡ []
no_starts [] before = refl
no_starts (s ∷ ss) before = ap (λ fs. fs ++ starts_in ss) (no_start_here (statement_of s) (sym (before 0 s (omega arith) (omega arith)))) ∙ no_starts ss (λ k d l m. before (suc k) d (omega arith) (omega arith))

-- where `position` says the first is
abbrev IsFirstStart : List HeldStatement → Option ℕ → Type 0
IsFirstStart ss r = MatchOption r (AllWithin (λ s. false ≡ is_start (statement_of s)) ss 0 (length ss)) (λ i. (i < length ss) × HoldsAt (λ s. true ≡ is_start (statement_of s)) ss i × AllWithin (λ s. false ≡ is_start (statement_of s)) ss 0 i)

pub no_second : (ss : List HeldStatement) (r : Option ℕ) → IsFirstStart ss r → r ≡ None → second_starts (map statement_of ss) ≡ []
no_second ss None h e = second_of ss ∙ ap (drop 1) (no_starts ss h)
no_second ss (Some i) h e = cc

pub second_behind : (ss : List HeldStatement) (r : Option ℕ) (i : ℕ) → IsFirstStart ss r → r ≡ Some i → second_starts (map statement_of ss) ≡ starts_in (drop (i + 1) ss)
second_behind ss r i h e =
    let at = subst (IsFirstStart ss) e h in
    second_of ss ∙ behind ss i at.0 at.1 at.2 ∙ ap (λ k. starts_in (drop k ss)) (sym (add-one i))
