-- Glades that are told, one after the other.
use Rattle.std.proofs.Common.{◌≡◌, ◌∙◌, ℕ, suc, ◌+◌, ◌<◌, ◌≤◌, List, [], ◌∷◌, ◌++◌, Option, None, length, get_or, drop, refl, sym, ap, subst, arith, append_assoc, append-nil}
use Rattle.std.specs.Io.KnownBytes.{Appends}
use Rattle.std.proofs.Math.Seq.{drop-cons}
use Rattle.std.proofs.lemmas.List.{drop_all}
use Rattle.slif_base.proofs.Bytes.{appends_none, appends_twice}
use Rattle.grammar_model.specs.Grammar.{Grammar}
use Rattle.glade_model.specs.Glades.{Glade}
use Rattle.slif_parser.specs.Views.{Read}
use Rattle.slif_glades.specs.Told.{marked_text, told_text}

module _ (g : Grammar) (r : Read) (glades : List Glade) (marks : List (Option ℕ)) where
  -- the text of the first glades was written
  pub record IsUpTo (k : ℕ) (before now : Option (List ℕ)) : Type 0 where
    pub written : List ℕ
    pub appends : Appends before now written
    pub split : told_text g r glades marks ≡ written ++ told_text g r (drop k glades) (drop k marks)

  pub up_to_none : (before : Option (List ℕ)) → IsUpTo 0 before before
  up_to_none before = record { written = []; appends = appends_none before; split = refl }

  pub up_to_all : (k : ℕ) (before now : Option (List ℕ)) → length glades ≤ k → IsUpTo k before now → Appends before now (told_text g r glades marks)
  up_to_all k before now past known =
      let none : told_text g r (drop k glades) (drop k marks) ≡ [] = ap (λ (xs : List Glade). told_text g r xs (drop k marks)) (drop_all k glades past) in
      subst (Appends before now) (sym (known.split ∙ ap (λ t. known.written ++ t) none ∙ append-nil known.written)) known.appends

  module _ (k : ℕ) (glade : Glade) (mark : Option ℕ) (within : k < length glades) (long : length marks ≡ length glades) (is : glade ≡ get_or glades k glade) (mark_is : get_or marks k None ≡ mark) where
    one_more : told_text g r (drop k glades) (drop k marks) ≡ marked_text g r glade mark ++ told_text g r (drop (k + 1) glades) (drop (k + 1) marks)
    one_more =
        let index : suc k ≡ k + 1 = omega arith in
        let some : k < length marks = omega (arith, long, within) in
        let xs : drop k glades ≡ glade ∷ drop (k + 1) glades = drop-cons glades k glade within ∙ ap (λ (x : Glade). x ∷ drop (suc k) glades) (sym is) ∙ ap (λ (n : ℕ). glade ∷ drop n glades) index in
        let ms : drop k marks ≡ mark ∷ drop (k + 1) marks = drop-cons marks k None some ∙ ap (λ (m : Option ℕ). m ∷ drop (suc k) marks) mark_is ∙ ap (λ (n : ℕ). mark ∷ drop n marks) index in
        ap (λ (ys : List Glade). told_text g r ys (drop k marks)) xs ∙ ap (told_text g r (glade ∷ drop (k + 1) glades)) ms

    pub split_more : (written : List ℕ) → told_text g r glades marks ≡ written ++ told_text g r (drop k glades) (drop k marks)
        → told_text g r glades marks ≡ written ++ (marked_text g r glade mark ++ told_text g r (drop (k + 1) glades) (drop (k + 1) marks))
    split_more written split = split ∙ ap (λ t. written ++ t) one_more

    pub up_to_more : (before middle after : Option (List ℕ)) → IsUpTo k before middle → Appends middle after (marked_text g r glade mark) → IsUpTo (k + 1) before after
    up_to_more before middle after known appends = record {
      written = known.written ++ marked_text g r glade mark;
      appends = appends_twice before middle after known.written (marked_text g r glade mark) known.appends appends;
      split = split_more known.written known.split ∙ sym (append_assoc known.written (marked_text g r glade mark) (told_text g r (drop (k + 1) glades) (drop (k + 1) marks)));
    }
