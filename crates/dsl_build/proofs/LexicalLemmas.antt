-- The rules of character sets, token after token.
use Rattle.std.proofs.Common.{◌≡◌, ℕ, suc, ◌+◌, ◌<◌, ◌≤◌, List, ◌∷◌, ◌++◌, length, take, drop, get_or, sym, ap, ◌∙◌, arith, map, Bor, append_assoc, length-append, add-one}
use Rattle.std.specs.Prelude.{flat_map}
use Rattle.std.proofs.lemmas.List.{take_all, take-append-drop}
use Rattle.std.proofs.lemmas.Grind.{flat_map-append}
use Rattle.std.proofs.lemmas.List.Folds.{flat_map-map}
use Rattle.std.proofs.Math.Seq.{drop-cons}
use Rattle.grammar_model.specs.Grammar.{WrittenRule}
use Rattle.language_model.specs.Tokens.{Spelled}
use Rattle.language_model.specs.Classes.{Class}
use Rattle.language_model.specs.Building.{sets_of, added_rules}
use Rattle.dsl_build.specs.Lexical.{added_rule}

abbrev now : Bor Spelled → Spelled
now t = t.now

pub rules_on : (tokens : List (Bor Spelled)) (i : ℕ) (x : Bor Spelled) (first : ℕ) (sets after : List Class) (whole rules before : List WrittenRule) → i < length tokens → x ≡ get_or tokens i x → after ≡ sets ++ sets_of x.now →
    before ++ added_rules i (first + length sets) (map now (drop i tokens)) ≡ whole → rules ≡ before ++ added_rule i (first + length sets) x.now →
    rules ++ added_rules (i + 1) (first + length after) (map now (drop (i + 1) tokens)) ≡ whole
rules_on tokens i x first sets after whole rules before lt is a w r =
    let long : length after ≡ length sets + length (sets_of x.now) = ap length a ∙ length-append sets (sets_of x.now) in
    let next : first + length after ≡ first + length sets + length (sets_of x.now) = omega arith in
    let rest : drop i tokens ≡ x ∷ drop (i + 1) tokens = drop-cons tokens i x lt ∙ ap (λ y. y ∷ drop (suc i) tokens) (sym is) ∙ ap (λ k. x ∷ drop k tokens) (sym (add-one i)) in
    ap (λ rs. rs ++ added_rules (i + 1) (first + length after) (map now (drop (i + 1) tokens))) r
    ∙ append_assoc before (added_rule i (first + length sets) x.now) (added_rules (i + 1) (first + length after) (map now (drop (i + 1) tokens)))
    ∙ ap (λ n. before ++ (added_rule i (first + length sets) x.now ++ added_rules (i + 1) n (map now (drop (i + 1) tokens)))) next
    ∙ ap (λ ts. before ++ added_rules i (first + length sets) (map now ts)) (sym rest) ∙ w

pub sets_all : (tokens : List (Bor Spelled)) (i : ℕ) (sets : List Class) → length tokens ≤ i → sets ≡ flat_map (λ (t : Bor Spelled). sets_of t.now) (take i tokens) → sets ≡ flat_map sets_of (map now tokens)
sets_all tokens i sets le e = e ∙ ap (flat_map (λ (t : Bor Spelled). sets_of t.now)) (take_all i tokens le) ∙ sym (flat_map-map sets_of now tokens)

-- the first tokens have no more sets than all
pub sets_within : (tokens : List (Bor Spelled)) (k : ℕ) → length (flat_map (λ (t : Bor Spelled). sets_of t.now) (take k tokens)) ≤ length (flat_map sets_of (map now tokens))
sets_within tokens k =
    let g = λ (t : Bor Spelled). sets_of t.now in
    let whole = ap length (flat_map-map sets_of now tokens ∙ ap (flat_map g) (sym (take-append-drop k tokens)) ∙ flat_map-append g (take k tokens) (drop k tokens)) in
    let both = length-append (flat_map g (take k tokens)) (flat_map g (drop k tokens)) in
    omega (arith, whole, both)
