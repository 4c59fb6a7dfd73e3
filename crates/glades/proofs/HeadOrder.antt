-- The order of heads tells heads apart.
use Rattle.std.proofs.Common.{◌≡◌, Bool, true, ◌==◌, ◌&&◌, sym, subst}
use Rattle.std.specs.Ordering.{nat_cmp, eq_by_cmp}
use Rattle.std.specs.Cmp.{IsTotalOrder, IsEquivalence, nat_cmp_total, then_total, on_total, unsigned_ties, both_tied, eq_by_cmp_equiv}
use Rattle.std.proofs.lemmas.Bool.{and_parts, eqb-true}
use Rattle.glades.specs.declared.heads.Head.{Head}
use Rattle.glades.specs.Heads.{head_cmp}

pub heads_total : IsTotalOrder head_cmp
heads_total =
    then_total (on_total (λ (x : Head). x.from) nat_cmp_total)
    (then_total (on_total (λ (x : Head). x.back) nat_cmp_total)
    (then_total (on_total (λ (x : Head). x.symbol) nat_cmp_total) (then_total (on_total (λ (x : Head). x.level) nat_cmp_total) (on_total (λ (x : Head). x.node) nat_cmp_total))))

abbrev pub same_head : Head → Head → Bool
same_head a b = (a.from == b.from) && ((a.back == b.back) && ((a.symbol == b.symbol) && ((a.level == b.level) && (a.node == b.node))))

pub head_ties : (a b : Head) → same_head a b ≡ eq_by_cmp head_cmp a b
head_ties a b =
    both_tied _ _ (nat_cmp a.from b.from) _ (unsigned_ties a.from b.from)
    (both_tied _ _ (nat_cmp a.back b.back) _ (unsigned_ties a.back b.back)
    (both_tied _ _ (nat_cmp a.symbol b.symbol) _ (unsigned_ties a.symbol b.symbol)
    (both_tied _ _ (nat_cmp a.level b.level) (nat_cmp a.node b.node) (unsigned_ties a.level b.level) (unsigned_ties a.node b.node))))

pub head_equiv : IsEquivalence same_head
head_equiv = subst IsEquivalence (λ i x y. sym (head_ties x y) i) (eq_by_cmp_equiv heads_total)

pub head_exact : (a b : Head) → same_head a b ≡ true → a ≡ b
head_exact a b h =
    let (f, h1) = and_parts (a.from == b.from) ((a.back == b.back) && ((a.symbol == b.symbol) && ((a.level == b.level) && (a.node == b.node)))) h in
    let (k, h2) = and_parts (a.back == b.back) ((a.symbol == b.symbol) && ((a.level == b.level) && (a.node == b.node))) h1 in
    let (s, h3) = and_parts (a.symbol == b.symbol) ((a.level == b.level) && (a.node == b.node)) h2 in
    let (l, n) = and_parts (a.level == b.level) (a.node == b.node) h3 in
    let ef = eqb-true a.from b.from f in
    let ek = eqb-true a.back b.back k in
    let es = eqb-true a.symbol b.symbol s in
    let el = eqb-true a.level b.level l in
    let en = eqb-true a.node b.node n in
    λ i. record { from = ef i; back = ek i; symbol = es i; level = el i; node = en i }
