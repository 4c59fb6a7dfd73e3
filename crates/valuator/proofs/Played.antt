-- What is told of a derivation's steps.
use Rattle.std.proofs.Common.{◌≡◌, ℕ, zero, suc, ◌+◌, ◌-◌, ◌<◌, ◌≤◌, Bool, true, false, List, [], ◌∷◌, ◌++◌, length, get_or, refl, sym, ap, ◌∙◌, arith, length-append, Option, Some, None, cond, nat_lt}
use Rattle.grammar_core.specs.declared.steps.Span.{Span}
use Rattle.grammar_model.specs.Values.{Value, RuleMeaning, is_nulling, Meaning, Action, MakeUndefined, meaning_at, Token, token_at, end_before, name_of, nulled_action, items_shown, shown_of, rule_value, value_of_rule, token_value, nulling_value, value_of_token, value_of_nulled}
use Rattle.grammar_model.specs.declared.Show.{Show}
use Rattle.grammar_model.specs.Grammar.{Grammar, Plain, Sequence, IsChildCount, is_item, is_even, WrittenRule, rule_at, no_rule, lhs_of}
use Rattle.std.proofs.lemmas.List.Sums.{position_or_len_is}
use Rattle.std.proofs.lemmas.Bool.{lt-ltb, le-ltb}
use Rattle.std.proofs.lemmas.List.{length-map, get_or-map}
use Rattle.std.proofs.lemmas.Option.{get_or_from_slice_get}
use Rattle.std.specs.List.{position, position_or_len}
use Rattle.std.specs.Prelude.{slice_get, option_map, ◌==◌, ◌&&◌, is_some, if◌then◌else◌}
use Rattle.value_text.specs.declared.meaning.Meaning.{Meaning as MeaningCode}
use Rattle.value_text.specs.declared.meaning.RuleMeaning.{RuleMeaning as RuleMeaningCode}
use Rattle.value_text.specs.Meaning.{meaning_of, rule_meaning_of, action_of}
use Rattle.valuator.specs.Play.{token_of, tokens_of, Suits}
use Rattle.valuator.specs.Told.{replace_newest}

pub end_of_span : (chars : List ℕ) (spans : List Span) (p : ℕ) (d : Span) → 0 < p → p ≤ length spans →
    (get_or spans (p - 1) d).start + (get_or spans (p - 1) d).length ≡ end_before (tokens_of chars spans) p
end_of_span chars spans zero d some b = absurd (omega arith)
end_of_span chars spans (suc p) d some b =
    let at : suc p - 1 ≡ p = omega arith in
    ap (λ k. (get_or spans k d).start + (get_or spans k d).length) at
    ∙ sym (ap (λ (t : Token). t.start + t.length) (get_or-map (token_of chars) spans p d (record { start = 0; length = 0; text = [] }) (omega arith)))

pub told_token : (show : Show) (g : Grammar) (m : Meaning) (chars : List ℕ) (spans : List Span) (old new : List Value) (symbol from : ℕ) (name text : List ℕ) (d : Span) (action : Option Action) →
    name ≡ name_of g symbol → text ≡ (token_at (tokens_of chars spans) from).text → from < length spans → action ≡ m.lexeme →
    new ≡ old ++ token_value show name text (get_or spans from d).start (get_or spans from d).length from action ∷ [] →
    new ≡ old ++ value_of_token show g m (tokens_of chars spans) symbol from ∷ []
told_token show g m chars spans old new symbol from name text d action n t b a e =
    let at : token_at (tokens_of chars spans) from ≡ token_of chars (get_or spans from d) = get_or-map (token_of chars) spans from d (record { start = 0; length = 0; text = [] }) b in
    e ∙ (λ i. old ++ token_value show (n i) (t i) (sym at i).start (sym at i).length from (a i) ∷ [])

pub told_nulled : (show : Show) (g : Grammar) (m : Meaning) (tokens : List Token) (old new : List Value) (symbol at : ℕ) (name : List ℕ) (start : ℕ) (action : Option Action) →
    name ≡ name_of g symbol → start ≡ end_before tokens at → action ≡ nulled_action g m symbol →
    new ≡ old ++ nulling_value show name start at action ∷ [] → new ≡ old ++ value_of_nulled show g m tokens symbol at ∷ []
told_nulled show g m tokens old new symbol at name start action n s a e = e ∙ (λ i. old ++ nulling_value show (n i) (s i) at (a i) ∷ [])

-- the first place that passes, and none
pub first_passes : {X : Type 0} (p : X → Bool) (xs : List X) (i : ℕ) (d : X) → i < length xs → ((j : ℕ) → j < i → p (get_or xs j d) ≡ false) → p (get_or xs i d) ≡ true → position p xs ≡ Some i
first_passes p xs i d b before here =
    let at : position_or_len p xs ≡ i = position_or_len_is p xs i d (omega arith) before (λ _. here) in
    (λ k. cond (nat_lt (at k) (length xs)) (Some (at k)) None) ∙ ap (λ (t : Bool). cond t (Some i) None) (lt-ltb i (length xs) b)

pub none_passes : {X : Type 0} (p : X → Bool) (xs : List X) (d : X) → ((j : ℕ) → j < length xs → p (get_or xs j d) ≡ false) → position p xs ≡ None
none_passes p xs d before =
    let at : position_or_len p xs ≡ length xs = position_or_len_is p xs (length xs) d (omega arith) before (λ h. absurd (omega arith)) in
    (λ k. cond (nat_lt (at k) (length xs)) (Some (at k)) None) ∙ ap (λ (t : Bool). cond t (Some (length xs)) None) (le-ltb (length xs) (length xs) (omega arith))

-- the rule that is read
pub read_rule : (g : Grammar) (i : ℕ) (rule : WrittenRule) → slice_get g.rules i ≡ Some rule → rule_at g i ≡ rule
read_rule g i rule e = get_or_from_slice_get g.rules i rule no_rule e

pub meaning_read : (m : MeaningCode) (i : ℕ) (d : RuleMeaningCode) → i < length m.rules → meaning_at (meaning_of m) i ≡ rule_meaning_of (get_or m.rules i d)
meaning_read m i d b = get_or-map rule_meaning_of m.rules i d (record { action = MakeUndefined; shown = []; sequence = false; separated = false }) b

-- the action of a nulled symbol, by the first rule that nulls it
abbrev pub nulls_symbol : ℕ → WrittenRule → Bool
nulls_symbol symbol rule = (lhs_of rule == symbol) && is_nulling rule

pub nulled_found : (g : Grammar) (m : MeaningCode) (symbol i : ℕ) (item d : RuleMeaningCode) → length (meaning_of m).rules ≡ length g.rules → i < length g.rules →
    ((j : ℕ) → j < i → nulls_symbol symbol (rule_at g j) ≡ false) → nulls_symbol symbol (rule_at g i) ≡ true → item ≡ get_or m.rules i d →
    Some (action_of item.action) ≡ nulled_action g (meaning_of m) symbol
nulled_found g m symbol i item d count b before here at =
    let inside : i < length m.rules = omega (arith, count, b, length-map m.rules rule_meaning_of) in
    ap (λ (r : RuleMeaningCode). Some (action_of r.action)) at
    ∙ ap (λ (r : RuleMeaning). Some r.action) (sym (meaning_read m i d inside))
    ∙ sym (ap (option_map (λ k. (meaning_at (meaning_of m) k).action)) (first_passes (nulls_symbol symbol) g.rules i no_rule b before here))

pub nulled_none : (g : Grammar) (m : Meaning) (symbol i : ℕ) → length g.rules ≤ i → ((j : ℕ) → j < i → nulls_symbol symbol (rule_at g j) ≡ false) → None ≡ nulled_action g m symbol
nulled_none g m symbol i b before =
    sym (ap (option_map (λ k. (meaning_at m k).action)) (none_passes (nulls_symbol symbol) g.rules no_rule (λ j h. before j (omega arith))))

pub nulls_read : (g : Grammar) (symbol i : ℕ) (rule : WrittenRule) (b t : Bool) → slice_get g.rules i ≡ Some rule → b ≡ nulls_symbol symbol rule → b ≡ t → nulls_symbol symbol (rule_at g i) ≡ t
nulls_read g symbol i rule b t e p q = ap (nulls_symbol symbol) (read_rule g i rule e) ∙ sym p ∙ q

pub length-items_shown : (separator : Option ℕ) (n : ℕ) → length (items_shown separator n) ≡ n
length-items_shown separator zero = refl
length-items_shown separator (suc n) =
    let e = length-items_shown separator n in
    omega (arith, e, length-append (items_shown separator n) (is_item separator n ∷ []))

items_shown_alike : (separator : Option ℕ) (n : ℕ) → items_shown (if is_some separator then Some 0 else None) n ≡ items_shown separator n
items_shown_alike None n = refl
items_shown_alike (Some s) zero = refl
items_shown_alike (Some s) (suc n) = ap (λ xs. xs ++ is_even n ∷ []) (items_shown_alike (Some s) n)

pub sequence_shown : (rule : WrittenRule) (r : RuleMeaning) (n : ℕ) (shown : List Bool) → Suits rule r → r.sequence ≡ true → shown ≡ items_shown (if r.separated then Some 0 else None) n → shown ≡ shown_of rule r.shown n
sequence_shown (Plain p) r n shown s e f = let not_one = s.0 in absurd (cc)
sequence_shown (Sequence p) r n shown s e f = f ∙ ap (λ b. items_shown (if b then Some 0 else None) n) s.1 ∙ items_shown_alike p.separator n

pub plain_shown : (rule : WrittenRule) (r : RuleMeaning) (n : ℕ) → Suits rule r → r.sequence ≡ false → IsChildCount rule n → (r.shown ≡ shown_of rule r.shown n) × (length r.shown ≡ n)
plain_shown (Plain p) r n s e count = (refl, s.2 ∙ sym count)
plain_shown (Sequence p) r n s e count = let not_one = s.0 in absurd (cc)

pub told_rule : (show : Show) (g : Grammar) (m : Meaning) (chars : List ℕ) (spans : List Span) (old new : List Value) (rule n from to : ℕ) (name : List ℕ) (shown : List Bool) (d : Span) (end : ℕ) (action : Action) →
    name ≡ name_of g (lhs_of (rule_at g rule)) → shown ≡ shown_of (rule_at g rule) (meaning_at m rule).shown n → from < length spans → end ≡ end_before (tokens_of chars spans) to →
    action ≡ (meaning_at m rule).action → length shown ≡ n →
    new ≡ replace_newest (length shown) (rule_value show rule name shown (get_or spans from d).start (end - (get_or spans from d).start) from (to - from) action) old →
    new ≡ replace_newest n (value_of_rule show g m (tokens_of chars spans) rule n from to) old
told_rule show g m chars spans old new rule n from to name shown d end action nm sh b en ac count e =
    let at : (get_or spans from d).start ≡ (token_at (tokens_of chars spans) from).start =
    ap (λ (t : Token). t.start) (sym (get_or-map (token_of chars) spans from d (record { start = 0; length = 0; text = [] }) b)) in
    e ∙ (λ i. replace_newest (count i) (rule_value show rule (nm i) (sh i) (at i) (en i - at i) from (to - from) (ac i)) old)

pub meaning_found : (m : MeaningCode) (all : List RuleMeaningCode) (i j : ℕ) (item : RuleMeaningCode) → all ≡ m.rules → i ≡ j → j < length m.rules → item ≡ get_or all i item → meaning_at (meaning_of m) j ≡ rule_meaning_of item
meaning_found m all i j item e s b at = meaning_read m j item b ∙ ap rule_meaning_of (sym (at ∙ (λ k. get_or (e k) (s k) item)))

pub rules_count : (m : MeaningCode) (n i : ℕ) → length (meaning_of m).rules ≡ n → i < n → i < length m.rules
rules_count m n i e b = omega (arith, e, b, length-map m.rules rule_meaning_of)
