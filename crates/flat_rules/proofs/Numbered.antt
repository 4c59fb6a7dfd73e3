-- Symbols are numbered by their places, so a rule by numbers is told back by its names.
use Rattle.std.proofs.Common.{◌≡◌, ℕ, suc, ◌<◌, Bool, true, false, cond, List, [], ◌∷◌, map, length, inl, inr, refl, sym, ap, ◌∙◌, arith}
use Rattle.std.specs.Prelude.{nat_eq, slice_index_or}
use Rattle.std.proofs.lemmas.Bool.{eqb-true, eq-eqb, true≢false, and_from, and_parts}
use Rattle.finite_sets.proofs.Members.{Among}
use Rattle.grammar_model.specs.Grammar.{Grammar}
use Rattle.recognizer_model.specs.Flat.{FlatGrammar}
use Rattle.recognizer_model.specs.declared.flat.FlatSymbol.{FlatSymbol}
use Rattle.recognizer_model.specs.declared.flat.FlatSymbol.TheVariants.{Terminal, Slot, Sequence, Top}
use Rattle.recognizer_model.specs.FlatForm.{NamedRule, symbol_at, named}
use Rattle.flat_model.specs.Flatten
use Rattle.flat_model.specs.Flatten.{Decided, same_symbol, place_in}

same_from : (x s : FlatSymbol) → same_symbol x s ≡ true → x ≡ s
same_from (Terminal s) (Terminal t) e = ap Terminal (eqb-true s t e)
same_from (Terminal s) (Slot t l) e = cc
same_from (Terminal s) (Sequence j) e = cc
same_from (Terminal s) (Top l) e = cc
same_from (Slot s k) (Terminal t) e = cc
same_from (Slot s k) (Slot t l) e =
    let (a, b) = and_parts (nat_eq s t) (nat_eq k l) e in
    let p = eqb-true s t a in
    let q = eqb-true k l b in
    λ i. Slot (p i) (q i)
same_from (Slot s k) (Sequence j) e = cc
same_from (Slot s k) (Top l) e = cc
same_from (Sequence i) (Terminal t) e = cc
same_from (Sequence i) (Slot t l) e = cc
same_from (Sequence i) (Sequence j) e = ap Sequence (eqb-true i j e)
same_from (Sequence i) (Top l) e = cc
same_from (Top k) (Terminal t) e = cc
same_from (Top k) (Slot t l) e = cc
same_from (Top k) (Sequence j) e = cc
same_from (Top k) (Top l) e = ap Top (eqb-true k l e)

same_itself : (s : FlatSymbol) → same_symbol s s ≡ true
same_itself (Terminal s) = eq-eqb s s refl
same_itself (Slot s k) = and_from (nat_eq s s) (nat_eq k k) (eq-eqb s s refl) (eq-eqb k k refl)
same_itself (Sequence i) = eq-eqb i i refl
same_itself (Top k) = eq-eqb k k refl

placed_by : (b : Bool) (x s : FlatSymbol) (xs : List FlatSymbol) (d : FlatSymbol) → same_symbol x s ≡ b → (b ≡ false → (place_in xs s < length xs) × (slice_index_or xs (place_in xs s) d ≡ s)) →
    (cond b 0 (suc (place_in xs s)) < suc (length xs)) × (slice_index_or (x ∷ xs) (cond b 0 (suc (place_in xs s))) d ≡ s)
placed_by true x s xs d e rest = (omega arith, same_from x s e)
placed_by false x s xs d e rest = let (lt, is) = rest refl in (omega arith, is)

later_in : (x s : FlatSymbol) (xs : List FlatSymbol) → Among s (x ∷ xs) → same_symbol x s ≡ false → Among s xs
later_in x s xs (inl e) no_same = absurd (true≢false (sym (same_itself s) ∙ ap (λ z. same_symbol z s) (sym e) ∙ no_same))
later_in x s xs (inr m) no_same = m

pub placed : (s : FlatSymbol) (xs : List FlatSymbol) (d : FlatSymbol) → Among s xs → (place_in xs s < length xs) × (slice_index_or xs (place_in xs s) d ≡ s)
placed s [] d m = absurd m
placed s (x ∷ xs) d m = placed_by (same_symbol x s) x s xs d refl (λ e. placed s xs d (later_in x s xs m e))

module _ (w : Grammar) (d : Decided w) where
  abbrev f : FlatGrammar
  f = Flatten.flat_of w d

  abbrev number_of : FlatSymbol → ℕ
  number_of = Flatten.number_of w d

  pub numbered_in : (s : FlatSymbol) → Among s f.symbols → number_of s < length f.symbols
  numbered_in s m = (placed s f.symbols (Top 0) m).0

  pub told_back : (s : FlatSymbol) → Among s f.symbols → symbol_at f (number_of s) ≡ s
  told_back s m = (placed s f.symbols (Top 0) m).1

  all_back : (ss : List FlatSymbol) → ((s : FlatSymbol) → Among s ss → Among s f.symbols) → map (symbol_at f) (map number_of ss) ≡ ss
  all_back [] h = refl
  all_back (s ∷ ss) h = λ i. told_back s (h s (inl refl)) i ∷ all_back ss (λ t m. h t (inr m)) i

  abbrev pub AreSymbols : NamedRule → Type 0
  AreSymbols n = Among n.left f.symbols × ((s : FlatSymbol) → Among s n.right → Among s f.symbols)

  pub rule_back : (n : NamedRule) → AreSymbols n → named f (Flatten.numbered w d n) ≡ n
  rule_back n (left, right) = λ i. record { left = told_back n.left left i; right = all_back n.right right i; source = n.source }

  rules_back : (ns : List NamedRule) → ((n : NamedRule) → Among n ns → AreSymbols n) → map (named f) (map (Flatten.numbered w d) ns) ≡ ns
  rules_back [] h = refl
  rules_back (n ∷ ns) h = λ i. rule_back n (h n (inl refl)) i ∷ rules_back ns (λ m a. h m (inr a)) i

  pub named_back : ((n : NamedRule) → Among n (Flatten.named_rules w d) → AreSymbols n) → map (named f) f.rules ≡ Flatten.named_rules w d
  named_back h = rules_back (Flatten.named_rules w d) h
