-- The first line of a text and those after it.
use Rattle.std.proofs.Common.{◌≡◌, ◌∙◌, ℕ, suc, ◌+◌, ◌<◌, Bool, true, false, not, cond, List, [], ◌∷◌, length, refl, sym, ap, arith}
use Rattle.std.specs.Prelude.{◌==◌}
use Rattle.std.specs.List.{slice_split, onto_first, position_or_len, before_first, after_first}
use Rattle.std.proofs.lemmas.List.Splits.{length-slice_split, slice_split_first, slice_split-cons_no}
use Rattle.script_model.specs.Commands.{lines_of, without_empty_end}

abbrev ends : ℕ → Bool
ends c = c == 10

end_kept : (x : List ℕ) (parts : List (List ℕ)) → 0 < length parts → without_empty_end (x ∷ parts) ≡ x ∷ without_empty_end parts
end_kept x [] lt = absurd (omega (arith, lt))
end_kept [] (y ∷ ys) lt = refl
end_kept (c ∷ cs) (y ∷ ys) lt = refl

some_parts : (text : List ℕ) → 0 < length (slice_split ends text)
some_parts text = let n = length-slice_split ends text in omega (arith, n)

pub lines_cut : (text : List ℕ) → position_or_len ends text < length text → lines_of text ≡ before_first ends text ∷ lines_of (after_first ends text)
lines_cut text lt = ap without_empty_end (slice_split_first ends text 0 lt) ∙ end_kept (before_first ends text) (slice_split ends (after_first ends text)) (some_parts (after_first ends text))

one_part : (text : List ℕ) → position_or_len ends text ≡ length text → slice_split ends text ≡ text ∷ []
one_part [] e = refl
one_part (c ∷ cs) e = by (ends c) refl (λ rest. one_part cs rest)
  where
    by : (b : Bool) → ends c ≡ b → (position_or_len ends cs ≡ length cs → slice_split ends cs ≡ cs ∷ []) → slice_split ends (c ∷ cs) ≡ (c ∷ cs) ∷ []
    by true is next = let bad : 0 ≡ suc (length cs) = sym (ap (λ (t : Bool). cond (not t) (1 + position_or_len ends cs) 0) is) ∙ e in absurd (omega (arith, bad))
    by false is next =
        let more : 1 + position_or_len ends cs ≡ suc (length cs) = sym (ap (λ (t : Bool). cond (not t) (1 + position_or_len ends cs) 0) is) ∙ e in
        let rest : position_or_len ends cs ≡ length cs = omega (arith, more) in
        slice_split-cons_no ends c cs is ∙ ap (onto_first c) (next rest)

one_end : (text : List ℕ) → 0 < length text → without_empty_end (text ∷ []) ≡ text ∷ []
one_end [] lt = absurd (omega (arith, lt))
one_end (c ∷ cs) lt = refl

pub lines_one : (text : List ℕ) → 0 < length text → position_or_len ends text ≡ length text → lines_of text ≡ text ∷ []
lines_one text some e = ap without_empty_end (one_part text e) ∙ one_end text some
