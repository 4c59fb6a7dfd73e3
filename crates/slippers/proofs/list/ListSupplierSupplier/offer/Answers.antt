use Rattle.std.proofs.Common.{rules, ◌≡◌, Contains, subst, refl}
use Rattle.reading_model.specs.First.{IsFirstWith, HasNone}
use Rattle.slippers.proofs.list.ListSupplierSupplier.offer.Goals as goal

pub returns-in_default-clause-ok : goal.returns-in_default-clause-ok
returns-in_default-clause-ok c = (
  subst (λ given. HasNone (λ s. Contains c.args.expected.now s × (Contains given s → ⊥)) c.args.self.now.names) c.given_at.ensures
      (let e : c.deref.result.now ≡ c.args.self.now.names = search rules in subst (λ names. HasNone (λ s. Contains c.args.expected.now s × (Contains c.given_at.result.now s → ⊥)) names) e (c.in_default.ensures.none refl)),
  c.move_to.ensures,
)

pub returns-clause-ok : goal.returns-clause-ok
returns-clause-ok c =
    (subst (λ given. IsFirstWith (λ s. Contains c.args.expected.now s × (Contains given s → ⊥)) c.args.self.now.names c.in-Some.symbol) c.given_at.ensures (search rules), search rules)
