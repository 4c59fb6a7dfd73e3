-- A value as a list of marks, each of which is done to two stacks, of values and of lists: so marks tell values apart.
use Rattle.std.specs.Prelude.{◌≡◌, ℕ, Bool, true, false, Option, Some, None, ◌⊎◌, List, [], ◌∷◌, ◌++◌, refl}
use Rattle.std.specs.Coded.{Coded, code_by, coded_list, coded_ℕ, coded_bool, coded_option, coded⊎}
use Rattle.std.proofs.Common.{sym, ap, ◌∙◌, append_assoc, inl, inr}
use Rattle.grammar_model.specs.Values.{Value, Values, Undefined, Number, Text, ListOf, NoValue, MoreValues}

pub data Mark : Type 0 where
  PutUndefined : Mark
  PutNumber : (n : ℕ) → Mark
  PutText : (bytes : List ℕ) → Mark
  PutList : Mark
  PutEmpty : Mark
  PutBefore : Mark

abbrev mutual
  pub marks_of : Value → List Mark
  marks_of Undefined = PutUndefined ∷ []
  marks_of (Number n) = PutNumber n ∷ []
  marks_of (Text bytes) = PutText bytes ∷ []
  marks_of (ListOf items) = marks_of_all items ++ PutList ∷ []

  pub marks_of_all : Values → List Mark
  marks_of_all NoValue = PutEmpty ∷ []
  marks_of_all (MoreValues first rest) = marks_of first ++ (marks_of_all rest ++ PutBefore ∷ [])

-- the newest value and the newest list, or some where there are none
abbrev pub top_value : List Value → Value
top_value [] = Undefined
top_value (v ∷ vs) = v

abbrev pub top_list : List Values → Values
top_list [] = NoValue
top_list (l ∷ ls) = l

abbrev pub below : {X : Type 0} → List X → List X
below [] = []
below (x ∷ xs) = xs

abbrev pub value_by : List Value → List Values → List Mark → Value
value_by vs ls [] = top_value vs
value_by vs ls (PutUndefined ∷ ms) = value_by (Undefined ∷ vs) ls ms
value_by vs ls (PutNumber n ∷ ms) = value_by (Number n ∷ vs) ls ms
value_by vs ls (PutText bytes ∷ ms) = value_by (Text bytes ∷ vs) ls ms
value_by vs ls (PutList ∷ ms) = value_by (ListOf (top_list ls) ∷ vs) (below ls) ms
value_by vs ls (PutEmpty ∷ ms) = value_by vs (NoValue ∷ ls) ms
value_by vs ls (PutBefore ∷ ms) = value_by (below vs) (MoreValues (top_value vs) (top_list ls) ∷ below ls) ms

mutual
  pub value_by-marks_of : (v : Value) (vs : List Value) (ls : List Values) (ms : List Mark) → value_by vs ls (marks_of v ++ ms) ≡ value_by (v ∷ vs) ls ms
  value_by-marks_of Undefined vs ls ms = refl
  value_by-marks_of (Number n) vs ls ms = refl
  value_by-marks_of (Text bytes) vs ls ms = refl
  value_by-marks_of (ListOf items) vs ls ms =
      ap (value_by vs ls) (append_assoc (marks_of_all items) (PutList ∷ []) ms)
      ∙ value_by-marks_of_all items vs ls (PutList ∷ ms)

  pub value_by-marks_of_all : (l : Values) (vs : List Value) (ls : List Values) (ms : List Mark) → value_by vs ls (marks_of_all l ++ ms) ≡ value_by vs (l ∷ ls) ms
  value_by-marks_of_all NoValue vs ls ms = refl
  value_by-marks_of_all (MoreValues first rest) vs ls ms =
      ap (value_by vs ls) (append_assoc (marks_of first) (marks_of_all rest ++ PutBefore ∷ []) ms)
      ∙ value_by-marks_of first vs ls ((marks_of_all rest ++ PutBefore ∷ []) ++ ms)
      ∙ ap (value_by (first ∷ vs) ls) (append_assoc (marks_of_all rest) (PutBefore ∷ []) ms)
      ∙ value_by-marks_of_all rest (first ∷ vs) ls (PutBefore ∷ ms)

pub value_of_marks : (v : Value) → value_by [] [] (marks_of v) ≡ v
value_of_marks v =
    ap (value_by [] []) (sym (Rattle.std.proofs.lemmas.List.append-nil (marks_of v))) ∙ value_by-marks_of v [] [] []

abbrev pub Parts : Type 0
Parts = (Option ℕ ⊎ List ℕ) ⊎ Option Bool

abbrev pub parts_of : Mark → Parts
parts_of PutUndefined = inl (inl None)
parts_of (PutNumber n) = inl (inl (Some n))
parts_of (PutText bytes) = inl (inr bytes)
parts_of PutList = inr None
parts_of PutEmpty = inr (Some false)
parts_of PutBefore = inr (Some true)

abbrev pub mark_of : Parts → Mark
mark_of (inl (inl None)) = PutUndefined
mark_of (inl (inl (Some n))) = PutNumber n
mark_of (inl (inr bytes)) = PutText bytes
mark_of (inr None) = PutList
mark_of (inr (Some false)) = PutEmpty
mark_of (inr (Some true)) = PutBefore

pub mark_of_parts : (m : Mark) → mark_of (parts_of m) ≡ m
mark_of_parts PutUndefined = refl
mark_of_parts (PutNumber n) = refl
mark_of_parts (PutText bytes) = refl
mark_of_parts PutList = refl
mark_of_parts PutEmpty = refl
mark_of_parts PutBefore = refl

abbrev pub mark_code : Coded Mark
mark_code =
    code_by Parts (coded⊎ (coded⊎ (coded_option coded_ℕ) (coded_list coded_ℕ)) (coded_option coded_bool)) parts_of mark_of mark_of_parts

abbrev pub value_code : Coded Value
value_code = code_by (List Mark) (coded_list mark_code) marks_of (value_by [] []) value_of_marks
