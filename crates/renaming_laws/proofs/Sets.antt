-- The items of sets, Leo items, the reduced sets and what they hide, under other names.
use Rattle.std.proofs.Common.{◌≡◌, ◌∙◌, ℕ, ◌<◌, length, Some, ap, sym, subst}
use Rattle.grammar_model.specs.Derives.{Edges}
use Rattle.recognizer_model.specs.declared.Item.{Item}
use Rattle.recognizer_model.specs.Flat.{FlatGrammar, IsRule, lhs_of}
use Rattle.recognizer_model.specs.Items.{after, advanced, InSet, Start, Predict, Skip, Scan, Complete}
use Rattle.recognizer_model.specs.Leo.{IsLeo, IsNotLeo, LeadsTo, Last, On, InReduced, InExpanded, Kept, Step, IsHidden}
use Rattle.renaming_laws.proofs.Renamed.{Names, Renamed, flip, renamed, named_again, part_there, whole_there, left_there}

-- ---- each item is of a rule

module _ (f : FlatGrammar) (E : Edges) (top : ℕ) (is_rule : IsRule f top) where
  pub in_set_rule : {j : ℕ} {item : Item} → InSet f E top j item → IsRule f item.rule
  in_set_rule Start = is_rule
  in_set_rule (Predict i a is l) = is
  in_set_rule (Skip i a n) = in_set_rule i
  in_set_rule (Scan i a e) = in_set_rule i
  in_set_rule (Complete w whole lt i a) = in_set_rule i

  pub leads_rule : {p x : ℕ} {item : Item} → LeadsTo f E top p x item → IsRule f item.rule
  leads_rule (Last leo none) = in_set_rule leo.inside
  leads_rule (On leo more) = leads_rule more

  pub reduced_rule : {j : ℕ} {item : Item} → InReduced f E top j item → IsRule f item.rule
  reduced_rule InReduced.Start = is_rule
  reduced_rule (InReduced.Predict i a is l) = is
  reduced_rule (InReduced.Skip i a n) = reduced_rule i
  reduced_rule (InReduced.Scan i a e) = reduced_rule i
  reduced_rule (InReduced.Complete w whole lt none i a) = reduced_rule i
  reduced_rule (InReduced.Leap w whole lt leads) = leads_rule leads

  pub expanded_rule : {j : ℕ} {item : Item} → InExpanded f E top j item → IsRule f item.rule
  expanded_rule (Kept k) = reduced_rule k
  expanded_rule (Step w whole lt leo) = in_set_rule leo.inside

-- ---- the sets

module _ {f g : FlatGrammar} {E F : Edges} {symbol rule : ℕ → ℕ} (names : Names f g E F symbol rule) (top : ℕ) (is_rule : IsRule f top) where
  pub in_set_there : {j : ℕ} {item : Item} → InSet f E top j item → InSet g F (rule top) j (renamed rule item)
  in_set_there Start = Start
  in_set_there (Predict {x = x} {r = r} {item = item} i a is l) =
      Predict (in_set_there i) (part_there names item.rule item.dot x (in_set_rule f E top is_rule i) a) (names.is_rule r is) (left_there names r x is l)
  in_set_there (Skip {x = x} {item = item} i a n) =
      Skip (in_set_there i) (part_there names item.rule item.dot x (in_set_rule f E top is_rule i) a) (names.marked x n)
  in_set_there (Scan {i = p} {j = j} {x = x} {item = item} i a e) =
      Scan (in_set_there i) (part_there names item.rule item.dot x (in_set_rule f E top is_rule i) a) (names.edge x p j e)
  in_set_there (Complete {whole = whole} {item = item} w is lt i a) =
      let of = in_set_rule f E top is_rule w in
      Complete (in_set_there w) (whole_there names whole of is) lt (in_set_there i)
      (part_there names item.rule item.dot (lhs_of f whole.rule) (in_set_rule f E top is_rule i) a ∙ ap (λ (y : ℕ). Some y) (sym (names.left whole.rule of)))

module _ {f g : FlatGrammar} {E F : Edges} (ren : Renamed f g E F) (top : ℕ) (is_rule : IsRule f top) where
  -- of an item with the other names
  pub in_set_back : {j : ℕ} {other : Item} → InSet g F (ren.rule top) j other → InSet f E top j (renamed ren.rule_back other)
  in_set_back {j} {other} i = subst (λ (t : ℕ). InSet f E t j (renamed ren.rule_back other)) (ren.same_rule top is_rule) (in_set_there ren.back (ren.rule top) (ren.there.is_rule top is_rule) i)

  pub again : (other : Item) → IsRule g other.rule → renamed ren.rule (renamed ren.rule_back other) ≡ other
  again other is = named_again other (ren.rule (ren.rule_back other.rule)) (ren.rule_again other.rule is)

  in_range : (item : Item) (x : ℕ) → IsRule f item.rule → after f item ≡ Some x → x < length f.symbols
  in_range item x is e = ren.flat.in_range.parts item.rule item.dot x is e

  pub leo_there : {p x : ℕ} {item : Item} → IsLeo f E top p x item → IsLeo g F (ren.rule top) p (ren.symbol x) (renamed ren.rule item)
  leo_there {p} {x} {item} leo =
      let is = in_set_rule f E top is_rule leo.inside in
      record {
        inside = in_set_there ren.there top is_rule leo.inside;
        waits = part_there ren.there item.rule item.dot x is leo.waits;
        last = whole_there ren.there (advanced item) is leo.last;
        only = only;
      }
    where
      only : (other : Item) → InSet g F (ren.rule top) p other → after g other ≡ Some (ren.symbol x) → other ≡ renamed ren.rule item
      only other i a =
          let of = in_set_rule g F (ren.rule top) (ren.there.is_rule top is_rule) i in
          let within = in_range item x (in_set_rule f E top is_rule leo.inside) leo.waits in
          let waits = part_there ren.back other.rule other.dot (ren.symbol x) of a ∙ ap (λ (y : ℕ). Some y) (ren.same_symbol x within) in
          let same = leo.only (renamed ren.rule_back other) (in_set_back i) waits in
          sym (again other of) ∙ ap (renamed ren.rule) same

module _ {f g : FlatGrammar} {E F : Edges} (ren : Renamed f g E F) (top : ℕ) (is_rule : IsRule f top) where
  pub leo_back : {p x : ℕ} {other : Item} → x < length f.symbols → IsLeo g F (ren.rule top) p (ren.symbol x) other → IsLeo f E top p x (renamed ren.rule_back other)
  leo_back {p} {x} {other} within leo =
      subst (λ (y : ℕ). IsLeo f E top p y (renamed ren.rule_back other)) (ren.same_symbol x within)
      (subst (λ (t : ℕ). IsLeo f E t p (ren.symbol_back (ren.symbol x)) (renamed ren.rule_back other)) (ren.same_rule top is_rule)
      (leo_there (flip ren) (ren.rule top) (ren.there.is_rule top is_rule) leo))

  pub not_leo_there : {p x : ℕ} → x < length f.symbols → IsNotLeo f E top p x → IsNotLeo g F (ren.rule top) p (ren.symbol x)
  not_leo_there within none other leo = none (renamed ren.rule_back other) (leo_back within leo)

  -- where completions of a rule's symbol lead, or that it has no Leo item
  pub none_there : {p : ℕ} (s : ℕ) → IsRule f s → IsNotLeo f E top p (lhs_of f s) → IsNotLeo g F (ren.rule top) p (lhs_of g (ren.rule s))
  none_there {p} s is none = subst (IsNotLeo g F (ren.rule top) p) (sym (ren.there.left s is)) (not_leo_there (ren.flat.in_range.left s is) none)

  pub leads_there : {p x : ℕ} {item : Item} → LeadsTo f E top p x item → LeadsTo g F (ren.rule top) p (ren.symbol x) (renamed ren.rule item)
  leads_there (Last {item = item} leo none) = Last (leo_there ren top is_rule leo) (none_there item.rule (in_set_rule f E top is_rule leo.inside) none)
  leads_there (On {item = item} {topmost = topmost} leo more) =
      let is = in_set_rule f E top is_rule leo.inside in
      On (leo_there ren top is_rule leo) (subst (λ (y : ℕ). LeadsTo g F (ren.rule top) item.origin y (renamed ren.rule topmost)) (sym (ren.there.left item.rule is)) (leads_there more))

  pub reduced_there : {j : ℕ} {item : Item} → InReduced f E top j item → InReduced g F (ren.rule top) j (renamed ren.rule item)
  reduced_there InReduced.Start = InReduced.Start
  reduced_there (InReduced.Predict {x = x} {r = s} {item = item} i a is l) =
      InReduced.Predict (reduced_there i) (part_there ren.there item.rule item.dot x (reduced_rule f E top is_rule i) a) (ren.there.is_rule s is) (left_there ren.there s x is l)
  reduced_there (InReduced.Skip {x = x} {item = item} i a n) =
      InReduced.Skip (reduced_there i) (part_there ren.there item.rule item.dot x (reduced_rule f E top is_rule i) a) (ren.there.marked x n)
  reduced_there (InReduced.Scan {i = p} {j = j} {x = x} {item = item} i a e) =
      InReduced.Scan (reduced_there i) (part_there ren.there item.rule item.dot x (reduced_rule f E top is_rule i) a) (ren.there.edge x p j e)
  reduced_there (InReduced.Complete {whole = whole} {item = item} w is lt none i a) =
      let of = reduced_rule f E top is_rule w in
      InReduced.Complete (reduced_there w) (whole_there ren.there whole of is) lt (none_there whole.rule of none) (reduced_there i)
      (part_there ren.there item.rule item.dot (lhs_of f whole.rule) (reduced_rule f E top is_rule i) a ∙ ap (λ (y : ℕ). Some y) (sym (ren.there.left whole.rule of)))
  reduced_there (InReduced.Leap {whole = whole} {topmost = topmost} w is lt leads) =
      let of = reduced_rule f E top is_rule w in
      InReduced.Leap (reduced_there w) (whole_there ren.there whole of is) lt
      (subst (λ (y : ℕ). LeadsTo g F (ren.rule top) whole.origin y (renamed ren.rule topmost)) (sym (ren.there.left whole.rule of)) (leads_there leads))

  pub expanded_there : {j : ℕ} {item : Item} → InExpanded f E top j item → InExpanded g F (ren.rule top) j (renamed ren.rule item)
  expanded_there (Kept k) = Kept (reduced_there k)
  expanded_there (Step {whole = whole} {item = item} w is lt leo) =
      let of = expanded_rule f E top is_rule w in
      Step (expanded_there w) (whole_there ren.there whole of is) lt
      (subst (λ (y : ℕ). IsLeo g F (ren.rule top) whole.origin y (renamed ren.rule item)) (sym (ren.there.left whole.rule of)) (leo_there ren top is_rule leo))

module _ {f g : FlatGrammar} {E F : Edges} (ren : Renamed f g E F) (top : ℕ) (is_rule : IsRule f top) where
  -- an item of the other's reduced set
  pub reduced_back : {j : ℕ} {item : Item} → IsRule f item.rule → InReduced g F (ren.rule top) j (renamed ren.rule item) → InReduced f E top j item
  reduced_back {j} {item} is k =
      subst (InReduced f E top j) (named_again item (ren.rule_back (ren.rule item.rule)) (ren.same_rule item.rule is))
      (subst (λ (t : ℕ). InReduced f E t j (renamed ren.rule_back (renamed ren.rule item))) (ren.same_rule top is_rule) (reduced_there (flip ren) (ren.rule top) (ren.there.is_rule top is_rule) k))

  pub hidden_there : {j : ℕ} {item : Item} → IsHidden f E top j item → IsHidden g F (ren.rule top) j (renamed ren.rule item)
  hidden_there (inside, none) = (expanded_there ren top is_rule inside, λ k. none (reduced_back (expanded_rule f E top is_rule inside) k))
