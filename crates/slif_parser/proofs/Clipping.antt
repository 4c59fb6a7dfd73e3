-- Parts of a text.
use Rattle.std.proofs.Common.{◌≡◌, ◌∙◌, inl, inr, ℕ, zero, suc, ◌-◌, List, [], length, take, drop, min, sym, ap, refl, arith, length-drop}
use Rattle.std.specs.Prelude.{slice_range}
use Rattle.std.proofs.lemmas.Bool.{cases_lt}
use Rattle.std.proofs.lemmas.List.{take_all, drop_all, take_min}
use Rattle.outside_model.specs.Places.{line_after, column_after}
use Rattle.text_reading.specs.Refusals.{place_in}
use Rattle.text_reading.specs.declared.refusal.Place.{Place}

nothing : (n : ℕ) → ◌≡◌ {A = List ℕ} (take n []) []
nothing zero = refl
nothing (suc n) = refl

-- a part whose ends are moved into the text
pub clipped : (cs : List ℕ) (start end to from : ℕ) → to ≡ min end (length cs) → from ≡ min start to → slice_range cs from to ≡ slice_range cs start end
clipped cs start end to from e f = elim (cases_lt (length cs) end) [
  | inl past ↦
      let all : to ≡ length cs = omega (arith, e, past) in
      elim (cases_lt (length cs) start) [
        | inl beyond ↦
            let none : to - from ≡ 0 = omega (arith, all, f, beyond) in
            ap (λ n. take n (drop from cs)) none ∙ sym (ap (take (end - start)) (drop_all start cs (omega (arith, beyond))) ∙ nothing (end - start))
        | inr within ↦
            let same : from ≡ start = omega (arith, all, f, within) in
            ap (λ n. take (to - from) (drop n cs)) same ∙ take_all (to - from) (drop start cs) (omega (arith, all, same, length-drop start cs)) ∙ sym (take_all (end - start) (drop start cs) (omega (arith, past, length-drop start cs)))
      ]
  | inr within ↦
      let same : to ≡ end = omega (arith, e, within) in
      elim (cases_lt end start) [
        | inl turned ↦
            let none : to - from ≡ 0 = omega (arith, same, f, turned) in
            let other : end - start ≡ 0 = omega (arith, turned) in
            ap (λ n. take n (drop from cs)) none ∙ sym (ap (λ n. take n (drop start cs)) other)
        | inr ordered ↦
            let stays : from ≡ start = omega (arith, same, f, ordered) in
            ap (λ n. take (to - from) (drop n cs)) stays ∙ ap (λ n. take n (drop start cs)) (let d : to - from ≡ end - start = omega (arith, same, stays) in d)
      ]
]

-- the place of a character, which is taken for the end where it lies behind that
pub placed : (cs : List ℕ) (character at line column : ℕ) → at ≡ min character (length cs) → line ≡ line_after (take at cs) → column ≡ column_after (take at cs) → record { line = line; column = column } ≡ place_in cs character
placed cs character at line column is line_is column_is =
    let same : take at cs ≡ take character cs = ap (λ n. take n cs) is ∙ take_min character cs in
    ap (λ l. at_column l column) (line_is ∙ ap line_after same) ∙ ap (at_column (line_after (take character cs))) (column_is ∙ ap column_after same)
  where
    at_column : ℕ → ℕ → Place
    at_column l c = record { line = l; column = c }
