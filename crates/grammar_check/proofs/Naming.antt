-- The text of a cycle, name by name.
use Rattle.std.proofs.Common.{arith, ◌≡◌, ℕ, zero, suc, ◌+◌, ◌-◌, ◌<◌, List, [], ◌∷◌, ◌++◌, length, codes, map, get_or, refl, sym, ◌∙◌, ap, append_assoc, append-nil}
use Rattle.std.specs.List.{flat_map}
use Rattle.grammar_model.specs.Grammar.{Grammar}
use Rattle.grammar_model.specs.Values.{name_of}
use Rattle.grammar_check.specs.Told.{slots_with}
use Rattle.grammar_check.specs.Message.{cycle_text}

abbrev pub more_names : Grammar → List (ℕ × ℕ) → ℕ → List ℕ
more_names g ps zero = []
more_names g [] (suc n) = []
more_names g (p ∷ ps) (suc n) = (codes ", " ++ name_of g p.0) ++ more_names g ps n

-- the text of the first n slots, of which there is at least one
abbrev pub named_to : Grammar → List (ℕ × ℕ) → ℕ → List ℕ
named_to g [] n = []
named_to g (p ∷ ps) n = codes "cyclic: " ++ (name_of g p.0 ++ more_names g ps (n - 1))

names_push : (g : Grammar) (ps : List (ℕ × ℕ)) (n : ℕ) (d : ℕ × ℕ) → n < length ps → more_names g ps (suc n) ≡ more_names g ps n ++ (codes ", " ++ name_of g (get_or ps n d).0)
names_push g [] n d lt = absurd (omega arith)
names_push g (p ∷ ps) zero d lt = append-nil (codes ", " ++ name_of g p.0)
names_push g (p ∷ ps) (suc n) d lt = ap (λ l. (codes ", " ++ name_of g p.0) ++ l) (names_push g ps n d (omega arith)) ∙ sym (append_assoc (codes ", " ++ name_of g p.0) (more_names g ps n) (codes ", " ++ name_of g (get_or ps n d).0))

names_all : (g : Grammar) (ps : List (ℕ × ℕ)) → more_names g ps (length ps) ≡ flat_map (λ n. codes ", " ++ n) (map (λ slot. name_of g slot.symbol) (slots_with ps))
names_all g [] = refl
names_all g (p ∷ ps) = ap (λ l. (codes ", " ++ name_of g p.0) ++ l) (names_all g ps)

pub named_first : (g : Grammar) (ps : List (ℕ × ℕ)) (text name : List ℕ) (d : ℕ × ℕ) → 0 < length ps → name ≡ name_of g (get_or ps 0 d).0 → text ≡ codes "cyclic: " ++ (name ++ []) → text ≡ named_to g ps 1
named_first g [] text name d some en et = absurd (omega arith)
named_first g (p ∷ ps) text name d some en et = et ∙ ap (λ n. codes "cyclic: " ++ (n ++ [])) en

pub named_more : (g : Grammar) (ps : List (ℕ × ℕ)) (k : ℕ) (d : ℕ × ℕ) (text name : List ℕ) → 0 < k → k < length ps → text ≡ named_to g ps k → name ≡ name_of g (get_or ps k d).0 → (text ++ codes ", ") ++ name ≡ named_to g ps (k + 1)
named_more g [] k d text name some lt e en = absurd (omega arith)
named_more g (p ∷ ps) zero d text name some lt e en = absurd (omega arith)
named_more g (p ∷ ps) (suc k) d text name some lt e en =
    let z : suc k + 1 - 1 ≡ suc k = omega arith in
    let z' : suc k - 1 ≡ k = omega arith in
    let prefix : text ≡ codes "cyclic: " ++ (name_of g p.0 ++ more_names g ps k) = e ∙ ap (λ n. codes "cyclic: " ++ (name_of g p.0 ++ more_names g ps n)) z' in
    let last = name_of g (get_or ps k d).0 in
    append_assoc text (codes ", ") name ∙ (ap (λ t. t ++ (codes ", " ++ name)) prefix ∙ (ap (λ n. (codes "cyclic: " ++ (name_of g p.0 ++ more_names g ps k)) ++ (codes ", " ++ n)) en
    ∙ (append_assoc (codes "cyclic: ") (name_of g p.0 ++ more_names g ps k) (codes ", " ++ last) ∙ ap (λ l. codes "cyclic: " ++ l)
    (append_assoc (name_of g p.0) (more_names g ps k) (codes ", " ++ last) ∙ ap (λ l. name_of g p.0 ++ l) (sym (names_push g ps k d (omega arith)) ∙ ap (more_names g ps) (sym z))))))

pub named_end : (g : Grammar) (ps : List (ℕ × ℕ)) (k : ℕ) (text : List ℕ) → 0 < length ps → k ≡ length ps → text ≡ named_to g ps k → text ≡ cycle_text g ps
named_end g [] k text some e et = absurd (omega arith)
named_end g (p ∷ ps) k text some e et = et ∙ ap (λ l. codes "cyclic: " ++ (name_of g p.0 ++ l)) (ap (more_names g ps) (let z : k - 1 ≡ length ps = omega (arith, e) in z) ∙ names_all g ps)
