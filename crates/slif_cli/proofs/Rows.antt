-- The rows of the left sides, as they are collected rule by rule.
use Rattle.std.proofs.Common.{◌≡◌, ◌∙◌, ℕ, zero, suc, ◌+◌, ◌<◌, ◌==◌, ◌||◌, Bool, true, false, List, [], ◌∷◌, ◌++◌, length, map, take, drop, All, eqb-true, refl, sym, ap, subst, arith, append_assoc, append-nil, slice_index_or, slice_set}
use Rattle.std.proofs.lemmas.Bool.{eqb-false}
use Rattle.std.proofs.lemmas.List.{get_or-set_same, get_or-set_other, length-set, map-append}
use Rattle.std.proofs.lemmas.List.Elements.{All-push, All-nil, All-cons}
use Rattle.std.proofs.Math.Seq.{drop-cons}
use Rattle.grammar_model.specs.Grammar.{Grammar, WrittenRule, rule_at, no_rule, lhs_of, occurs}
use Rattle.run_model.specs.Checking.{SymbolRow, IsRowOf, AreRows, left_sides, row_line}
use Rattle.slif_cli.specs.declared.checking.SymbolRow as held
use Rattle.slif_cli.specs.Stops.{told_row}

-- the list turned round, before another
abbrev turned : List ℕ → List ℕ → List ℕ
turned [] behind = behind
turned (x ∷ xs) behind = turned xs (x ∷ behind)

turned_more : (xs : List ℕ) (x : ℕ) (behind : List ℕ) → turned (xs ++ x ∷ []) behind ≡ x ∷ turned xs behind
turned_more [] x behind = refl
turned_more (y ∷ ys) x behind = turned_more ys x (y ∷ behind)

abbrev symbols_of : List SymbolRow → List ℕ
symbols_of rows = map (λ r. r.symbol) rows

-- what is known where the first so many rules were looked at
pub record Collected (g : Grammar) (i : ℕ) (seen : List Bool) (rows : List SymbolRow) : Type 0 where
  pub sized : length seen ≡ length g.names
  pub marks : (s : ℕ) (d : Bool) → s < length g.names → slice_index_or seen s d ≡ occurs s (turned (symbols_of rows) [])
  pub left : symbols_of rows ++ left_sides (turned (symbols_of rows) []) (drop i g.rules) ≡ left_sides [] g.rules
  pub each : All (IsRowOf g) rows
  pub known : All (λ r. r.symbol < length g.names) rows

pub collected_none : (g : Grammar) (seen : List Bool) → length seen ≡ length g.names → ((s : ℕ) (d : Bool) → s < length g.names → slice_index_or seen s d ≡ false) → Collected g 0 seen []
collected_none g seen sized none = record { sized = sized; marks = none; left = refl; each = All-nil (IsRowOf g); known = All-nil (λ r. r.symbol < length g.names) }

-- the left sides from a rule on, by whether its own stood before
of_seen : (g : Grammar) (i : ℕ) (before : List ℕ) → i < length g.rules → occurs (lhs_of (rule_at g i)) before ≡ true → left_sides before (drop i g.rules) ≡ left_sides before (drop (i + 1) g.rules)
of_seen g i before lt seen =
    let next : i + 1 ≡ suc i = omega arith in
    rw (drop-cons g.rules i no_rule lt, next, seen) refl

of_new : (g : Grammar) (i : ℕ) (before : List ℕ) → i < length g.rules → occurs (lhs_of (rule_at g i)) before ≡ false
    → left_sides before (drop i g.rules) ≡ lhs_of (rule_at g i) ∷ left_sides (lhs_of (rule_at g i) ∷ before) (drop (i + 1) g.rules)
of_new g i before lt new =
    let next : i + 1 ≡ suc i = omega arith in
    rw (drop-cons g.rules i no_rule lt, next, new) refl

module _ (g : Grammar) (i : ℕ) (seen : List Bool) (rows : List SymbolRow) (c : Collected g i seen rows) (lt : i < length g.rules) (s : ℕ) (is : s ≡ lhs_of (rule_at g i)) (known : s < length g.names) where
  pub collected_same : (d : Bool) → slice_index_or seen s d ≡ true → Collected g (i + 1) seen rows
  collected_same d was =
      let before = turned (symbols_of rows) [] in
      let occurred : occurs (lhs_of (rule_at g i)) before ≡ true = subst (λ (t : ℕ). occurs t before ≡ true) is (sym (c.marks s d known) ∙ was) in
      record {
        sized = c.sized;
        marks = c.marks;
        left = ap (λ (ss : List ℕ). symbols_of rows ++ ss) (sym (of_seen g i before lt occurred)) ∙ c.left;
        each = c.each;
        known = c.known;
      }

  marks_more : (t : ℕ) (d : Bool) → t < length g.names → slice_index_or (slice_set seen s true) t d ≡ occurs t (s ∷ turned (symbols_of rows) [])
  marks_more t d within = by_same (s == t) refl
    where
      by_same : (b : Bool) → (s == t) ≡ b → slice_index_or (slice_set seen s true) t d ≡ (b || occurs t (turned (symbols_of rows) []))
      by_same true e = let size = c.sized in let same : t ≡ s = sym (eqb-true s t e) in ap (λ (x : ℕ). slice_index_or (slice_set seen s true) x d) same ∙ get_or-set_same seen s true d (omega (arith, size, known))
      by_same false e = get_or-set_other seen s t true d (λ same. eqb-false s t e (sym same)) ∙ c.marks t d within

  pub collected_more : (row : SymbolRow) → row.symbol ≡ s → IsRowOf g row → (d : Bool) → slice_index_or seen s d ≡ false → Collected g (i + 1) (slice_set seen s true) (rows ++ row ∷ [])
  collected_more row same told d was =
      let before = turned (symbols_of rows) [] in
      let new : occurs (lhs_of (rule_at g i)) before ≡ false = subst (λ (t : ℕ). occurs t before ≡ false) is (sym (c.marks s d known) ∙ was) in
      let more : symbols_of (rows ++ row ∷ []) ≡ symbols_of rows ++ s ∷ [] = map-append (λ r. r.symbol) rows (row ∷ []) ∙ ap (λ (x : ℕ). symbols_of rows ++ x ∷ []) same in
      let behind : turned (symbols_of (rows ++ row ∷ [])) [] ≡ s ∷ before = ap (λ (ss : List ℕ). turned ss []) more ∙ turned_more (symbols_of rows) s [] in
      record {
        sized = length-set seen s true ∙ c.sized;
        marks = λ t e within. marks_more t e within ∙ ap (λ (ss : List ℕ). occurs t ss) (sym behind);
        left = ap (λ (ss : List ℕ). ss ++ left_sides (turned (symbols_of (rows ++ row ∷ [])) []) (drop (i + 1) g.rules)) more
            ∙ append_assoc (symbols_of rows) (s ∷ []) (left_sides (turned (symbols_of (rows ++ row ∷ [])) []) (drop (i + 1) g.rules))
            ∙ ap (λ (b : List ℕ). symbols_of rows ++ s ∷ left_sides b (drop (i + 1) g.rules)) behind
            ∙ ap (λ (t : ℕ). symbols_of rows ++ t ∷ left_sides (t ∷ before) (drop (i + 1) g.rules)) is
            ∙ ap (λ (ss : List ℕ). symbols_of rows ++ ss) (sym (of_new g i before lt new))
            ∙ c.left;
        each = All-push (IsRowOf g) rows row c.each told;
        known = All-push (λ r. r.symbol < length g.names) rows row c.known (subst (λ (t : ℕ). t < length g.names) (sym same) known);
      }

drop_all : {A : Type 0} (xs : List A) → drop (length xs) xs ≡ []
drop_all [] = refl
drop_all (x ∷ xs) = drop_all xs

pub collected_all : (g : Grammar) (seen : List Bool) (rows : List SymbolRow) → Collected g (length g.rules) seen rows → AreRows g rows
collected_all g seen rows c = record {
  symbols = sym (append-nil (symbols_of rows)) ∙ ap (λ (rs : List WrittenRule). symbols_of rows ++ left_sides (turned (symbols_of rows) []) rs) (sym (drop_all g.rules)) ∙ c.left;
  each = c.each;
}

-- what is known of rows, as a program holds them
pub known_held : (n : ℕ) (rows : List held.SymbolRow) → All (λ r. r.symbol < n) (map told_row rows) → All (λ r. r.symbol < n) rows
known_held n [] all = All-nil (λ r. r.symbol < n)
known_held n (x ∷ xs) all =
    All-cons (λ r. r.symbol < n) x xs (all 0 (told_row x) (omega arith)) (known_held n xs (λ k d lt. all (suc k) d (omega (arith, lt))))

-- the line of one row more
row_more : (f : SymbolRow → List ℕ) (rows : List held.SymbolRow) (k : ℕ) (x : held.SymbolRow) → k < length rows → x ≡ slice_index_or rows k x
    → map f (take (suc k) (map told_row rows)) ≡ map f (take k (map told_row rows)) ++ f (told_row x) ∷ []
row_more f [] k x lt e = absurd (omega arith)
row_more f (y ∷ ys) zero x lt e = ap (λ (r : held.SymbolRow). f (told_row r) ∷ []) (sym e)
row_more f (y ∷ ys) (suc k) x lt e = ap (λ ls. f (told_row y) ∷ ls) (row_more f ys k x (omega arith) e)

pub line_more : (g : Grammar) (head : List ℕ) (rows : List held.SymbolRow) (k : ℕ) (x : held.SymbolRow) → k < length rows → x ≡ slice_index_or rows k x → (old new : List (List ℕ)) (line : List ℕ)
    → old ≡ head ∷ map (row_line g) (take k (map told_row rows)) → line ≡ row_line g (told_row x) → new ≡ old ++ line ∷ [] → new ≡ head ∷ map (row_line g) (take (k + 1) (map told_row rows))
line_more g head rows k x lt e old new line before is more =
    let next : k + 1 ≡ suc k = omega arith in
    more ∙ ap (λ ls. ls ++ line ∷ []) before ∙ ap (λ l. head ∷ (map (row_line g) (take k (map told_row rows)) ++ l ∷ [])) is
    ∙ ap (λ ls. head ∷ ls) (sym (row_more (row_line g) rows k x lt e)) ∙ ap (λ (n : ℕ). head ∷ map (row_line g) (take n (map told_row rows))) (sym next)
