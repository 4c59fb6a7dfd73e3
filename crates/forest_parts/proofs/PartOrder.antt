-- The order of parts is total, and tells parts apart.
use Rattle.std.proofs.Common.{◌≡◌, Bool, true, false, ◌==◌, ◌&&◌, Some, None, Option, refl, sym, ◌∙◌, ap, subst}
use mathlib.Core.Bool.{beq}
use Rattle.std.specs.declared.cmp.Ordering.{Ordering}
use Rattle.std.specs.declared.cmp.Ordering.TheVariants.{Less, Equal, Greater}
use Rattle.std.specs.Ordering.{ordering_reverse, nat_cmp, int_cmp, int_eq, bool_cmp, eq_by_cmp, is_eq}
use Rattle.std.specs.Option.{option_cmp, option_eq}
use Rattle.std.specs.Cmp.{IsTotalOrder, IsEquivalence, unsigned_ties, both_tied, bool_cmp_total, eq_by_cmp_equiv}
use Rattle.std.specs.Cmp.Lexicographic.{options_total}
use Rattle.std.proofs.lemmas.Cmp.{then_total, on_total, back_total, nat_cmp_total, int_cmp_total}
use Rattle.std.proofs.lemmas.Bool.{and_parts, eqb-true}
use Rattle.std.proofs.lemmas.Bool.Decides.{Decides-int_eq}
use Rattle.forest_parts.specs.declared.parts.RuleKey.{RuleKey}
use Rattle.forest_parts.specs.declared.parts.Part.{Part}
use Rattle.forest_parts.specs.Parts.{key_cmp, part_cmp}

key_total : IsTotalOrder key_cmp
key_total =
    then_total (on_total (λ (k : RuleKey). (k.length).0) (back_total nat_cmp_total))
    (then_total (on_total (λ (k : RuleKey). (k.rank).0) (back_total int_cmp_total))
    (then_total (on_total (λ (k : RuleKey). k.source) nat_cmp_total)
    (then_total (on_total (λ (k : RuleKey). k.trailing) bool_cmp_total) (on_total (λ (k : RuleKey). k.rule) nat_cmp_total))))

pub part_total : IsTotalOrder part_cmp
part_total =
    then_total (on_total (λ (p : Part). p.end) nat_cmp_total)
    (then_total (on_total (λ (p : Part). p.symbol) nat_cmp_total)
    (then_total (on_total (λ (p : Part). p.length) nat_cmp_total) (on_total (λ (p : Part). p.whole) (options_total key_total))))

flipped : (o : Ordering) → is_eq (ordering_reverse o) ≡ is_eq o
flipped Less = refl
flipped Equal = refl
flipped Greater = refl

bool_ties : (a b : Bool) → beq a b ≡ is_eq (bool_cmp a b)
bool_ties true true = refl
bool_ties true false = refl
bool_ties false true = refl
bool_ties false false = refl

bool_same : (a b : Bool) → beq a b ≡ true → a ≡ b
bool_same true true h = refl
bool_same true false h = absurd (cc)
bool_same false true h = absurd (cc)
bool_same false false h = refl

abbrev pub same_key : RuleKey → RuleKey → Bool
same_key a b = ((a.length).0 == (b.length).0) && (int_eq (a.rank).0 (b.rank).0 && ((a.source == b.source) && (beq a.trailing b.trailing && (a.rule == b.rule))))

pub key_ties : (a b : RuleKey) → same_key a b ≡ eq_by_cmp key_cmp a b
key_ties a b =
    both_tied _ _ (nat_cmp (b.length).0 (a.length).0) _ (unsigned_ties (a.length).0 (b.length).0 ∙ ap is_eq (nat_cmp_total.antisymm (a.length).0 (b.length).0) ∙ flipped (nat_cmp (b.length).0 (a.length).0))
    (both_tied _ _ (int_cmp (b.rank).0 (a.rank).0) _ (ap is_eq (int_cmp_total.antisymm (a.rank).0 (b.rank).0) ∙ flipped (int_cmp (b.rank).0 (a.rank).0))
    (both_tied _ _ (nat_cmp a.source b.source) _ (unsigned_ties a.source b.source)
    (both_tied _ _ (bool_cmp a.trailing b.trailing) (nat_cmp a.rule b.rule) (bool_ties a.trailing b.trailing) (unsigned_ties a.rule b.rule))))

pub key_exact : (a b : RuleKey) → same_key a b ≡ true → a ≡ b
key_exact a b h =
    let (l, h1) = and_parts ((a.length).0 == (b.length).0) (int_eq (a.rank).0 (b.rank).0 && ((a.source == b.source) && (beq a.trailing b.trailing && (a.rule == b.rule)))) h in
    let (r, h2) = and_parts (int_eq (a.rank).0 (b.rank).0) ((a.source == b.source) && (beq a.trailing b.trailing && (a.rule == b.rule))) h1 in
    let (s, h3) = and_parts (a.source == b.source) (beq a.trailing b.trailing && (a.rule == b.rule)) h2 in
    let (t, u) = and_parts (beq a.trailing b.trailing) (a.rule == b.rule) h3 in
    let el = eqb-true (a.length).0 (b.length).0 l in
    let er = (Decides-int_eq (a.rank).0 (b.rank).0).0 r in
    let es = eqb-true a.source b.source s in
    let et = bool_same a.trailing b.trailing t in
    let eu = eqb-true a.rule b.rule u in
    λ i. record { length = record { 0 = el i }; rank = record { 0 = er i }; source = es i; trailing = et i; rule = eu i }

-- where keys are told apart by a test that agrees with their order, parts are
module _ (E : RuleKey → RuleKey → Bool) (agrees : (a b : RuleKey) → E a b ≡ eq_by_cmp key_cmp a b) (exact : (a b : RuleKey) → E a b ≡ true → a ≡ b) where
  maybe_ties : (a b : Option RuleKey) → option_eq E a b ≡ eq_by_cmp (option_cmp key_cmp) a b
  maybe_ties None None = refl
  maybe_ties None (Some b) = refl
  maybe_ties (Some a) None = refl
  maybe_ties (Some a) (Some b) = agrees a b

  abbrev pub same_part : Part → Part → Bool
  same_part x y = (x.end == y.end) && ((x.symbol == y.symbol) && ((x.length == y.length) && option_eq E x.whole y.whole))

  pub part_ties : (x y : Part) → same_part x y ≡ eq_by_cmp part_cmp x y
  part_ties x y =
      both_tied _ _ (nat_cmp x.end y.end) _ (unsigned_ties x.end y.end)
      (both_tied _ _ (nat_cmp x.symbol y.symbol) _ (unsigned_ties x.symbol y.symbol)
      (both_tied _ _ (nat_cmp x.length y.length) (option_cmp key_cmp x.whole y.whole) (unsigned_ties x.length y.length) (maybe_ties x.whole y.whole)))

  pub part_equiv : IsEquivalence same_part
  part_equiv = subst IsEquivalence (λ i x y. sym (part_ties x y) i) (eq_by_cmp_equiv part_total)

  maybe_exact : (a b : Option RuleKey) → option_eq E a b ≡ true → a ≡ b
  maybe_exact None None h = refl
  maybe_exact None (Some b) h = absurd (cc)
  maybe_exact (Some a) None h = absurd (cc)
  maybe_exact (Some a) (Some b) h = ap Some (exact a b h)

  pub part_exact : (x y : Part) → same_part x y ≡ true → x ≡ y
  part_exact x y h =
      let (a, h1) = and_parts (x.end == y.end) ((x.symbol == y.symbol) && ((x.length == y.length) && option_eq E x.whole y.whole)) h in
      let (b, h2) = and_parts (x.symbol == y.symbol) ((x.length == y.length) && option_eq E x.whole y.whole) h1 in
      let (c, d) = and_parts (x.length == y.length) (option_eq E x.whole y.whole) h2 in
      let ea = eqb-true x.end y.end a in
      let eb = eqb-true x.symbol y.symbol b in
      let ec = eqb-true x.length y.length c in
      let ed = maybe_exact x.whole y.whole d in
      λ i. record { end = ea i; symbol = eb i; length = ec i; whole = ed i }
