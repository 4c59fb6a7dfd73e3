-- Each symbol of the flat grammar is productive and accessible.
use Rattle.std.proofs.Common.{◌≡◌, ◌≢◌, ℕ, zero, suc, ◌<◌, ◌≤◌, ◌+◌, List, [], ◌∷◌, length, ◌⊎◌, inl, inr, Option, Some, None, refl, sym, ap, ◌∙◌, subst, arith, lit≤}
use Rattle.std.specs.Prelude.{slice_get, slice_index, slice_index_or}
use Rattle.grammar_model.specs.Grammar.{PlainRule, SequenceRule, WrittenRule, Plain, Grammar, slot_of, child_slot, Fits, sequence_symbol}
use Rattle.grammar_model.specs.Grammar
use Rattle.grammar_model.specs.Analysis
use Rattle.grammar_model.specs.Analysis.{IsProductive, IsAccessible, IsLive}
use Rattle.grammar_model.specs.Checked.{IsChecked}
use Rattle.recognizer_model.specs.Flat.{FlatGrammar, IsRule, lhs_of, rhs_of}
use Rattle.recognizer_model.specs.declared.flat.FlatSymbol.{FlatSymbol}
use Rattle.recognizer_model.specs.declared.flat.FlatSymbol.TheVariants.{Terminal, Slot, Sequence, Top}
use Rattle.recognizer_model.specs.declared.flat.FlatSource.TheVariants.{Written, Top as OfStart}
use Rattle.recognizer_model.specs.FlatForm.{IsUsedSlot, IsSymbolOf, Stands, AsTerminal, AsSlot, StandAll, NamedRule, IsRuleOf, OfPlain, OfList, OfItem, OfSeparated, OfTop}
use Rattle.recognizer_model.proofs.FlatNamed.{stand_one}
use Rattle.flat_model.specs.Flatten
use Rattle.flat_model.specs.Flatten.{Decided}
use Rattle.flat_rules.proofs.Parts.{child_used, start_used}
use Rattle.std.proofs.lemmas.Bool.{cases_lt}
use Rattle.std.proofs.lemmas.List.{length-map}
use Rattle.std.proofs.lemmas.Option.{slice_get-get_or}
use Rattle.finite_sets.proofs.Members.{among_from, Among}
use Rattle.finite_sets.proofs.Lists.{get_among, among_get, get_index}
use Rattle.grammar_model.proofs.Productive.{nullable_by, item_first}
use Rattle.recognizer_model.specs.Invariant
use Rattle.recognizer_model.specs.Invariant.{Outermost, Below}
use Rattle.recognizer_model.specs.Acceptable
use Rattle.recognizer_model.specs.Acceptable.{Itself, Marked, ByRule, Both}
use Rattle.flat_rules.proofs.Parts.{level_zero, item_used}
use Rattle.flat_rules.proofs.Rules.{stand, parts_stand, parts_length}
use Rattle.flat_rules.proofs.Named.{name_of, lhs_is, rhs_is, is_part, rule_of, told, symbol_of, at_number, marked}

module _ (w : Grammar) (d : Decided w) (c : IsChecked w) where
  abbrev f : FlatGrammar
  f = Flatten.flat_of w d

  abbrev number_of : FlatSymbol → ℕ
  number_of = Flatten.number_of w d

  -- a terminal has level 0 where it stands
  abbrev IsLevel : Grammar.Slot → Type 0
  IsLevel slot = Grammar.IsTerminal w slot.symbol → slot ≡ slot_of slot.symbol

  stands_symbol : (slot : Grammar.Slot) (s : FlatSymbol) → Stands w slot s → IsUsedSlot w slot → IsLevel slot → IsSymbolOf w s
  stands_symbol slot s (AsTerminal t) used flat = (t, subst (IsUsedSlot w) (flat t) used)
  stands_symbol slot s (AsSlot n) used flat = (n, used)

  -- ---- by rules

  parts_productive : (r dot : ℕ) → IsRule f r → dot ≤ length (name_of w d r).right → ((x : FlatSymbol) → Among x (name_of w d r).right → Acceptable.IsProductive f (number_of x)) → Acceptable.AreProductive f r dot
  parts_productive r zero lt le h = Acceptable.None
  parts_productive r (suc dot) lt le h =
      let at = slice_get-get_or (name_of w d r).right dot (Top 0) (omega arith) in
      let x = slice_index_or (name_of w d r).right dot (Top 0) in
      Both (parts_productive r dot lt (omega arith) h) (is_part w d r dot x lt at) (h x (get_among (name_of w d r).right dot x at))

  by_named : (n : NamedRule) → IsRuleOf w n → ((x : FlatSymbol) → Among x n.right → Acceptable.IsProductive f (number_of x)) → Acceptable.IsProductive f (number_of n.left)
  by_named n rule h =
      let (r, lt, e) = rule_of w d n rule in
      let len : length (rhs_of f r) ≡ length (name_of w d r).right = ap length (rhs_is w d r lt) ∙ length-map (name_of w d r).right number_of in
      let all : Acceptable.AreProductive f r (length (name_of w d r).right) = parts_productive r (length (name_of w d r).right) lt (omega arith) (subst (λ (z : NamedRule). (x : FlatSymbol) → Among x z.right → Acceptable.IsProductive f (number_of x)) (sym e) h) in
      ByRule lt (lhs_is w d r lt ∙ ap (λ (z : NamedRule). number_of z.left) e) (subst (Acceptable.AreProductive f r) (sym len) all)

  below : (n : NamedRule) → IsRuleOf w n → Invariant.IsAccessible f (number_of n.left) → (k : ℕ) (s : FlatSymbol) → slice_get n.right k ≡ Some s → Invariant.IsAccessible f (number_of s)
  below n rule acc k s at =
      let (r, lt, e) = rule_of w d n rule in
      let up : Invariant.IsAccessible f (lhs_of f r) = subst (Invariant.IsAccessible f) (ap (λ (z : NamedRule). number_of z.left) (sym e) ∙ sym (lhs_is w d r lt)) acc in
      Below k lt up (is_part w d r k s lt (ap (λ (z : NamedRule). slice_get z.right k) e ∙ at))

  -- ---- productive

  abbrev Told : Grammar.Slot → Type 0
  Told slot = IsUsedSlot w slot → (x : FlatSymbol) → Stands w slot x → IsLevel slot → Acceptable.IsProductive f (number_of x)

  terminal_told : (slot : Grammar.Slot) → Grammar.IsTerminal w slot.symbol → Told slot
  terminal_told slot t used x (AsTerminal t') flat = Itself (slot.symbol, told w d (Terminal slot.symbol) (stands_symbol slot (Terminal slot.symbol) (AsTerminal t') used flat))
  terminal_told slot t used x (AsSlot n) flat = absurd (n t)

  null_told : (slot : Grammar.Slot) → (Grammar.IsTerminal w slot.symbol → ⊥) → Analysis.IsNullable w slot → Told slot
  null_told slot other n used x (AsTerminal t) flat = absurd (other t)
  null_told slot other n used x (AsSlot o) flat = Marked (marked w d c (Slot slot.symbol slot.level) (stands_symbol slot (Slot slot.symbol slot.level) (AsSlot o) used flat) n)

  cause_told : (i : ℕ) (r : PlainRule) (above : Grammar.Slot) (k : ℕ) (ss : List FlatSymbol) (x : FlatSymbol) → i < length w.rules → Grammar.rule_at w i ≡ Plain r → Fits (Plain r) above → IsLive w (Plain r) → IsUsedSlot w above →
      ((j : ℕ) → j < length r.rhs → Told (child_slot (Plain r) j)) → StandAll w (Plain r) k ss → k + length ss ≤ length r.rhs → Among x ss → Acceptable.IsProductive f (number_of x)
  cause_told i r above k [] x lt is fits live used h all le m = absurd m
  cause_told i r above k (s ∷ ss) x lt is fits live used h all le (inl e) =
      let child = child_used w i (Plain r) above (child_slot (Plain r) k) lt is fits live used (live k (omega arith)) (k, omega arith, refl) in
      subst (λ z. Acceptable.IsProductive f (number_of z)) e (h k (omega arith) child s all.0 (level_zero w i r lt is k))
  cause_told i r above k (s ∷ ss) x lt is fits live used h all le (inr m) = cause_told i r above (suc k) ss x lt is fits live used h all.1 (omega arith) m

  not_terminal : (i : ℕ) (rule : WrittenRule) (slot : Grammar.Slot) → i < length w.rules → Grammar.rule_at w i ≡ rule → Fits rule slot → Grammar.IsTerminal w slot.symbol → ⊥
  not_terminal i rule slot lt is fits t = t i lt (ap Grammar.lhs_of is ∙ fits.0)

  some_parts : (ss : List FlatSymbol) → 0 < length ss → ss ≢ []
  some_parts [] lt e = omega arith
  some_parts (x ∷ xs) lt e = cc

  abbrev parts : PlainRule → List FlatSymbol
  parts r = Flatten.parts_from w d (Plain r) 0 (length r.rhs)

  plain_named : (i s k : ℕ) (r : PlainRule) → i < length w.rules → Grammar.rule_at w i ≡ Plain r → Fits (Plain r) (record { symbol = s; level = k }) → IsLive w (Plain r) → IsUsedSlot w (record { symbol = s; level = k }) → 0 < length r.rhs →
      IsRuleOf w (record { left = Slot s k; right = parts r; source = Written i })
  plain_named i s k r lt is fits live used more =
      let len = parts_length w d (Plain r) 0 (length r.rhs) in
      OfPlain i s k r (parts r) lt is (some_parts (parts r) (omega arith)) live fits used len (parts_stand w d (Plain r) 0 (length r.rhs))

  by_plain : (i : ℕ) (r : PlainRule) (slot : Grammar.Slot) → i < length w.rules → Grammar.rule_at w i ≡ Plain r → Fits (Plain r) slot → IsLive w (Plain r) → ((j : ℕ) → j < length r.rhs → Told (child_slot (Plain r) j)) → Told slot
  by_plain i r slot lt is fits live h used x (AsTerminal t) flat = absurd (not_terminal i (Plain r) slot lt is fits t)
  by_plain i r slot lt is fits live h used x (AsSlot o) flat = go (cases_lt 0 (length r.rhs))
    where
      go : (0 < length r.rhs) ⊎ (length r.rhs ≤ 0) → Acceptable.IsProductive f (number_of (Slot slot.symbol slot.level))
      go (inl more) =
          let len = parts_length w d (Plain r) 0 (length r.rhs) in
          by_named (record { left = Slot slot.symbol slot.level; right = parts r; source = Written i }) (plain_named i slot.symbol slot.level r lt is fits live used more)
          (λ y m. cause_told i r slot 0 (parts r) y lt is fits live used h (parts_stand w d (Plain r) 0 (length r.rhs)) (omega arith) m)
      go (inr none) =
          null_told slot o (nullable_by w i slot lt (subst (λ z. Fits z slot) (sym is) fits) (subst (λ z. Grammar.EachChildSlot (Analysis.IsNullable w) z) (sym is) (λ j less. absurd (omega arith))))
          used (Slot slot.symbol slot.level) (AsSlot o) flat

  list_symbol : (i : ℕ) (r : SequenceRule) → i < length w.rules → Grammar.rule_at w i ≡ Grammar.Sequence r → IsLive w (Grammar.Sequence r) → IsUsedSlot w (slot_of r.lhs) → IsSymbolOf w (Sequence i)
  list_symbol i r lt is live used = (r, lt, is, live, used)

  list_productive : (i : ℕ) (r : SequenceRule) → IsSymbolOf w (Sequence i) → Grammar.rule_at w i ≡ Grammar.Sequence r → IsUsedSlot w (slot_of r.item) → Told (slot_of r.item) → Acceptable.IsProductive f (number_of (Sequence i))
  list_productive i r symbol is item h =
      let b = Flatten.symbol_for w d (slot_of r.item) in
      let st = stand w d (slot_of r.item) in
      by_named (record { left = Sequence i; right = b ∷ []; source = Written i }) (OfItem i r b symbol is st)
      (λ x m. elim m [ inl e ↦ subst (λ z. Acceptable.IsProductive f (number_of z)) e (h item b st (λ t. refl)) | inr bad ↦ absurd bad ])

  flat_slot : (r : SequenceRule) (slot : Grammar.Slot) → Fits (Grammar.Sequence r) slot → slot_of r.lhs ≡ slot
  flat_slot r slot (left, low) = let e : 0 ≡ slot.level = omega arith in λ z. record { symbol = left z; level = e z }

  by_sequence : (i : ℕ) (r : SequenceRule) (slot : Grammar.Slot) → i < length w.rules → Grammar.rule_at w i ≡ Grammar.Sequence r → Fits (Grammar.Sequence r) slot → IsLive w (Grammar.Sequence r) → Told (slot_of r.item) → Told slot
  by_sequence i r slot lt is fits live h used x (AsTerminal t) flat = absurd (not_terminal i (Grammar.Sequence r) slot lt is fits t)
  by_sequence i r slot lt is fits live h used x (AsSlot o) flat =
      let same = flat_slot r slot fits in
      let used' : IsUsedSlot w (slot_of r.lhs) = subst (IsUsedSlot w) (sym same) used in
      let symbol = list_symbol i r lt is live used' in
      let item = item_used w i r r is is lt live used' in
      let list = list_productive i r symbol is item h in
      let p : Acceptable.IsProductive f (number_of (Slot r.lhs 0)) = by_named (record { left = Slot r.lhs 0; right = Sequence i ∷ []; source = Written i }) (OfList i r symbol is)
      (λ y m. elim m [ inl e ↦ subst (λ z. Acceptable.IsProductive f (number_of z)) e list | inr bad ↦ absurd bad ]) in
      subst (λ (z : Grammar.Slot). Acceptable.IsProductive f (number_of (Slot z.symbol z.level))) same p

  by_rule : (k i : ℕ) (rule : WrittenRule) (slot : Grammar.Slot) → i < length w.rules → Grammar.rule_at w i ≡ rule → Fits rule slot → Analysis.EachNeeded (Analysis.IsProductiveIn k w) rule →
      ((child : Grammar.Slot) → Analysis.IsProductiveIn k w child → Told child) → Told slot
  by_rule k i (Plain r) slot lt is fits needed h = by_plain i r slot lt is fits (λ j less. (k, needed j less)) (λ j less. h (child_slot (Plain r) j) (needed j less))
  by_rule k i (Grammar.Sequence r) slot lt is fits needed h = by_sequence i r slot lt is fits (k, needed) (h (slot_of r.item) needed)

  slot_told : (k : ℕ) (slot : Grammar.Slot) → Analysis.IsProductiveIn k w slot → Told slot
  slot_told zero slot t = terminal_told slot t
  slot_told (suc k) slot (inl t) = terminal_told slot t
  slot_told (suc k) slot (inr (i, lt, fits, inl star)) = null_told slot (λ t. not_terminal i (Grammar.rule_at w i) slot lt refl fits t) (1, (i, lt, fits, inl star))
  slot_told (suc k) slot (inr (i, lt, fits, inr needed)) = by_rule k i (Grammar.rule_at w i) slot lt refl fits needed (slot_told k)

  symbol_productive : (s : FlatSymbol) → IsSymbolOf w s → Acceptable.IsProductive f (number_of s)
  symbol_productive (Terminal t) (ter, used) = terminal_told (slot_of t) ter used (Terminal t) (AsTerminal ter) (λ h. refl)
  symbol_productive (Slot s k) (other, used) = slot_told used.1.0 (record { symbol = s; level = k }) used.1.1 used (Slot s k) (AsSlot other) (λ t. absurd (other t))
  symbol_productive (Sequence i) (r, lt, is, live, used) =
      list_productive i r (r, lt, is, live, used) is (item_used w i r r is is lt live used) (slot_told live.0 (slot_of r.item) live.1)
  symbol_productive (Top k) lt =
      let start = slice_index w.starts k in
      let at = slice_get-get_or w.starts k _ lt in
      let used = start_used w c k start at in
      let s = Flatten.symbol_for w d (slot_of start) in
      let st = stand w d (slot_of start) in
      by_named (record { left = Top k; right = s ∷ []; source = OfStart k }) (OfTop k start s at st)
      (λ x m. elim m [ inl e ↦ subst (λ z. Acceptable.IsProductive f (number_of z)) e (slot_told used.1.0 (slot_of start) used.1.1 used s st (λ t. refl)) | inr bad ↦ absurd bad ])

  pub productive : (x : ℕ) → x < length f.symbols → Acceptable.IsProductive f x
  productive x lt =
      let at = slice_get-get_or f.symbols x (Top 0) lt in
      subst (Acceptable.IsProductive f) (at_number w d x (slice_index_or f.symbols x (Top 0)) at)
      (symbol_productive (slice_index_or f.symbols x (Top 0)) (symbol_of w d x (slice_index_or f.symbols x (Top 0)) at))

  -- ---- accessible

  accessible_productive : (k : ℕ) (slot : Grammar.Slot) → Analysis.IsAccessibleIn k w slot → IsProductive w slot
  accessible_productive zero slot (s, among, e) = subst (IsProductive w) (sym e) (c.starts_productive s among)
  accessible_productive (suc k) slot (above, acc, prod, rule) = prod

  top_accessible : (k : ℕ) → k < length w.starts → Invariant.IsAccessible f (number_of (Top k))
  top_accessible k lt = Outermost (told w d (Top k) lt)

  abbrev Reached : Grammar.Slot → Type 0
  Reached slot = (s : FlatSymbol) → Stands w slot s → Invariant.IsAccessible f (number_of s)

  start_reached : (start k : ℕ) → slice_get w.starts k ≡ Some start → k < length w.starts → Reached (slot_of start)
  start_reached start k at lt s st = below (record { left = Top k; right = s ∷ []; source = OfStart k }) (OfTop k start s at st) (top_accessible k lt) 0 s refl

  part_get : (rule : WrittenRule) (k n j : ℕ) → j < n → slice_get (Flatten.parts_from w d rule k n) j ≡ Some (Flatten.symbol_for w d (child_slot rule (k + j)))
  part_get rule k zero j lt = absurd (omega arith)
  part_get rule k (suc n) zero lt = let e : k ≡ k + 0 = omega arith in ap (λ z. Some (Flatten.symbol_for w d (child_slot rule z))) e
  part_get rule k (suc n) (suc j) lt = let e : suc k + j ≡ k + suc j = omega arith in part_get rule (suc k) n j (omega arith) ∙ ap (λ z. Some (Flatten.symbol_for w d (child_slot rule z))) e

  list_accessible : (i : ℕ) (r : SequenceRule) → IsSymbolOf w (Sequence i) → Grammar.rule_at w i ≡ Grammar.Sequence r → Invariant.IsAccessible f (number_of (Slot r.lhs 0)) → Invariant.IsAccessible f (number_of (Sequence i))
  list_accessible i r symbol is up = below (record { left = Slot r.lhs 0; right = Sequence i ∷ []; source = Written i }) (OfList i r symbol is) up 0 (Sequence i) refl

  sequence_child : (i j : ℕ) (r : SequenceRule) (slot : Grammar.Slot) (separator : Option ℕ) → r.separator ≡ separator → IsSymbolOf w (Sequence i) → Grammar.rule_at w i ≡ Grammar.Sequence r → Invariant.IsAccessible f (number_of (Sequence i)) →
      IsProductive w slot → j < suc (length (Rattle.std.specs.Prelude.option_to_list separator)) → slot_of (sequence_symbol r.item separator j) ≡ slot → Reached slot
  sequence_child i zero r slot separator sep symbol is up prod less e s st =
      let same : slot_of r.item ≡ slot = ap slot_of (sym (item_first r.item separator)) ∙ e in
      let st' : Stands w (slot_of r.item) s = subst (λ z. Stands w z s) (sym same) st in
      below (record { left = Sequence i; right = s ∷ []; source = Written i }) (OfItem i r s symbol is st') up 0 s refl
  sequence_child i (suc j) r slot None sep symbol is up prod less e s st = absurd (omega arith)
  sequence_child i (suc zero) r slot (Some b) sep symbol is up prod less e s st =
      let item = Flatten.symbol_for w d (slot_of r.item) in
      let st' : Stands w (slot_of b) s = subst (λ z. Stands w z s) (sym e) st in
      below (record { left = Sequence i; right = Sequence i ∷ s ∷ item ∷ []; source = Written i })
      (OfSeparated i b r item s symbol is sep (subst (IsProductive w) (sym e) prod) st' (stand w d (slot_of r.item))) up 1 s refl
  sequence_child i (suc (suc j)) r slot (Some b) sep symbol is up prod less e s st = absurd (omega arith)

  child_reached : (i : ℕ) (rule : WrittenRule) (above slot : Grammar.Slot) → i < length w.rules → Grammar.rule_at w i ≡ rule → Fits rule above → IsUsedSlot w above → IsProductive w slot → IsLive w rule → Grammar.IsChildSlot rule slot → Reached above → Reached slot
  child_reached i (Plain r) above slot lt is fits used prod live (j, less, e) h s st =
      let other : Grammar.IsTerminal w above.symbol → ⊥ = not_terminal i (Plain r) above lt is fits in
      let up = h (Slot above.symbol above.level) (AsSlot other) in
      let more : 0 < length r.rhs = omega arith in
      let get = part_get (Plain r) 0 (length r.rhs) j less in
      let z : 0 + j ≡ j = omega arith in
      let one : Flatten.symbol_for w d (child_slot (Plain r) (0 + j)) ≡ s = stand_one w (stand w d (child_slot (Plain r) (0 + j))) (subst (λ y. Stands w y s) (sym (ap (child_slot (Plain r)) z ∙ e)) st) in
      below (record { left = Slot above.symbol above.level; right = parts r; source = Written i }) (plain_named i above.symbol above.level r lt is fits live used more) up j s (get ∙ ap Some one)
  child_reached i (Grammar.Sequence r) above slot lt is fits used prod live (j, less, e) h s st =
      let same = flat_slot r above fits in
      let used' : IsUsedSlot w (slot_of r.lhs) = subst (IsUsedSlot w) (sym same) used in
      let other : Grammar.IsTerminal w r.lhs → ⊥ = not_terminal i (Grammar.Sequence r) (slot_of r.lhs) lt is (refl, lit≤ tt) in
      let h' : Reached (slot_of r.lhs) = subst Reached (sym same) h in
      let symbol = list_symbol i r lt is live used' in
      let list = list_accessible i r symbol is (h' (Slot r.lhs 0) (AsSlot other)) in
      sequence_child i j r slot r.separator refl symbol is list prod less e s st

  slot_reached : (k : ℕ) (slot : Grammar.Slot) → Analysis.IsAccessibleIn k w slot → Reached slot
  slot_reached zero slot (start, among, e) =
      let (k, at) = among_get w.starts start (among_from w.starts start among) in
      subst Reached (sym e) (start_reached start k at (get_index w.starts k 0 start at).0)
  slot_reached (suc k) slot (above, acc, prod, (i, lt, fits, (live, child))) =
      child_reached i (Grammar.rule_at w i) above slot lt refl fits ((k, acc), accessible_productive k above acc) prod live child (slot_reached k above acc)

  symbol_accessible : (s : FlatSymbol) → IsSymbolOf w s → Invariant.IsAccessible f (number_of s)
  symbol_accessible (Terminal t) (ter, used) = slot_reached used.0.0 (slot_of t) used.0.1 (Terminal t) (AsTerminal ter)
  symbol_accessible (Slot s k) (other, used) = slot_reached used.0.0 (record { symbol = s; level = k }) used.0.1 (Slot s k) (AsSlot other)
  symbol_accessible (Sequence i) (r, lt, is, live, used) =
      let other : Grammar.IsTerminal w r.lhs → ⊥ = not_terminal i (Grammar.Sequence r) (slot_of r.lhs) lt is (refl, lit≤ tt) in
      list_accessible i r (r, lt, is, live, used) is (slot_reached used.0.0 (slot_of r.lhs) used.0.1 (Slot r.lhs 0) (AsSlot other))
  symbol_accessible (Top k) lt = top_accessible k lt

  pub accessible : (x : ℕ) → x < length f.symbols → Invariant.IsAccessible f x
  accessible x lt =
      let at = slice_get-get_or f.symbols x (Top 0) lt in
      subst (Invariant.IsAccessible f) (at_number w d x (slice_index_or f.symbols x (Top 0)) at)
      (symbol_accessible (slice_index_or f.symbols x (Top 0)) (symbol_of w d x (slice_index_or f.symbols x (Top 0)) at))
