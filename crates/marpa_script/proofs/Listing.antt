-- Names that are put one after another, parted by commas.
use Rattle.std.proofs.Common.{◌≡◌, ◌∙◌, ℕ, ◌+◌, ◌<◌, ◌≤◌, ◌++◌, List, [], ◌∷◌, length, map, take, get_or, refl, sym, ap, append_assoc, append-nil, arith}
use Rattle.std.specs.Prelude.{codes}
use Rattle.std.specs.List.{flat_map}
use Rattle.std.proofs.lemmas.List.{take_more, take_all}
use Rattle.grammar_model.specs.Grammar.{Grammar}
use Rattle.grammar_model.specs.Values.{name_of}
use Rattle.grammar_model.specs.Refusals.{listed}

-- names, each after a comma
abbrev pub more_names : Grammar → List ℕ → List ℕ
more_names g symbols = flat_map (λ n. codes ", " ++ n) (map (name_of g) symbols)

more_push : (g : Grammar) (symbols : List ℕ) (s : ℕ) → more_names g (symbols ++ s ∷ []) ≡ more_names g symbols ++ (codes ", " ++ name_of g s)
more_push g [] s = append-nil (codes ", " ++ name_of g s)
more_push g (x ∷ symbols) s =
    ap (λ l. (codes ", " ++ name_of g x) ++ l) (more_push g symbols s) ∙ sym (append_assoc (codes ", " ++ name_of g x) (more_names g symbols) (codes ", " ++ name_of g s))

module _ (g : Grammar) (symbols start : List ℕ) where
  pub one_more_name : (k d : ℕ) (before middle after name : List ℕ) → k < length symbols → before ≡ start ++ more_names g (take k symbols) → middle ≡ before ++ codes ", " → after ≡ middle ++ name →
      name ≡ name_of g (get_or symbols k d) → after ≡ start ++ more_names g (take (k + 1) symbols)
  one_more_name k d before middle after name lt so_far comma named is =
      let last = name_of g (get_or symbols k d) in
      named ∙ ap (λ l. l ++ name) comma ∙ append_assoc before (codes ", ") name ∙ ap (λ l. l ++ (codes ", " ++ name)) so_far
      ∙ append_assoc start (more_names g (take k symbols)) (codes ", " ++ name) ∙ ap (λ l. start ++ (more_names g (take k symbols) ++ (codes ", " ++ l))) is
      ∙ ap (λ l. start ++ l) (sym (more_push g (take k symbols) (get_or symbols k d)) ∙ ap (more_names g) (sym (take_more symbols k d lt)))

  pub no_name_yet : start ≡ start ++ more_names g (take 0 symbols)
  no_name_yet = sym (append-nil start)

  pub all_named : (k : ℕ) (text : List ℕ) → length symbols ≤ k → text ≡ start ++ more_names g (take k symbols) → text ≡ start ++ more_names g symbols
  all_named k text end so_far = so_far ∙ ap (λ l. start ++ more_names g l) (take_all k symbols end)

pub none_listed : (g : Grammar) (symbols text : List ℕ) → length symbols ≡ 0 → text ≡ codes "none" → text ≡ listed (map (name_of g) symbols)
none_listed g [] text none is = is
none_listed g (s ∷ symbols) text none is = absurd (omega (arith, none))

pub some_listed : (g : Grammar) (symbols : List ℕ) (first : ℕ) (others start text : List ℕ) → symbols ≡ first ∷ others → start ≡ name_of g first → text ≡ start ++ more_names g others → text ≡ listed (map (name_of g) symbols)
some_listed g symbols first others start text are named is = is ∙ ap (λ l. l ++ more_names g others) named ∙ ap (λ l. listed (map (name_of g) l)) (sym are)
