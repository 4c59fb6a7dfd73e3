-- The JSON of a value is that of its parts.
use Rattle.std.proofs.Common.{◌≡◌, Bool, true, false, List, ℕ, [], ◌∷◌, ◌++◌, refl, sym, ap, ◌∙◌, codes, append_assoc, append-nil}
use Rattle.grammar_model.specs.Values.{Value, Values, Undefined, Number, Text, ListOf, NoValue, MoreValues}
use Rattle.tree_text.specs.Parts.{Part, Closes, parts_of, parts_of_all}
use Rattle.tree_text.specs.Written.{json_of, items_json, json_behind, parts_json}

abbrev comma_if : Bool → List ℕ
comma_if true = codes ","
comma_if false = []

mutual
  value_json : (v : Value) (follows : Bool) (rest : List Part) → parts_json follows (parts_of v ++ rest) ≡ comma_if follows ++ (json_of v ++ parts_json true rest)
  value_json Undefined true rest = refl
  value_json Undefined false rest = refl
  value_json (Number n) true rest = refl
  value_json (Number n) false rest = refl
  value_json (Text bytes) true rest = refl
  value_json (Text bytes) false rest = refl
  value_json (ListOf items) true rest =
      ap (λ t. codes "," ++ (codes "[" ++ t)) (ap (parts_json false) (append_assoc (parts_of_all items) (Closes ∷ []) rest) ∙ all_json items rest ∙ sym (append_assoc (items_json items) (codes "]") (parts_json true rest)))
  value_json (ListOf items) false rest =
      ap (λ t. codes "[" ++ t) (ap (parts_json false) (append_assoc (parts_of_all items) (Closes ∷ []) rest) ∙ all_json items rest ∙ sym (append_assoc (items_json items) (codes "]") (parts_json true rest)))

  all_json : (vs : Values) (rest : List Part) → parts_json false (parts_of_all vs ++ Closes ∷ rest) ≡ items_json vs ++ (codes "]" ++ parts_json true rest)
  all_json NoValue rest = refl
  all_json (MoreValues first more) rest =
      ap (parts_json false) (append_assoc (parts_of first) (parts_of_all more) (Closes ∷ rest))
      ∙ value_json first false (parts_of_all more ++ Closes ∷ rest)
      ∙ ap (λ t. json_of first ++ t) (more_json more rest)
      ∙ sym (append_assoc (json_of first) (json_behind more) (codes "]" ++ parts_json true rest))

  more_json : (vs : Values) (rest : List Part) → parts_json true (parts_of_all vs ++ Closes ∷ rest) ≡ json_behind vs ++ (codes "]" ++ parts_json true rest)
  more_json NoValue rest = refl
  more_json (MoreValues first more) rest =
      ap (parts_json true) (append_assoc (parts_of first) (parts_of_all more) (Closes ∷ rest))
      ∙ value_json first true (parts_of_all more ++ Closes ∷ rest)
      ∙ ap (λ t. codes "," ++ (json_of first ++ t)) (more_json more rest)
      ∙ ap (λ t. codes "," ++ t) (sym (append_assoc (json_of first) (json_behind more) (codes "]" ++ parts_json true rest)))

pub json_is : (v : Value) (parts : List Part) → parts ≡ parts_of v → parts_json false parts ≡ json_of v
json_is v parts e = ap (parts_json false) (e ∙ sym (append-nil (parts_of v))) ∙ value_json v false [] ∙ append-nil (json_of v)
