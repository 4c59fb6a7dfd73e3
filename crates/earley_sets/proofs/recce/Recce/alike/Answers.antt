use Rattle.std.proofs.Common.{◌≡◌, ◌↔◌, ◌-◌, ◌∙◌, length, refl, sym, ap, subst, arith}
use Rattle.expected_terminals.specs.Expected.{place_told}
use Rattle.earley_sets.specs.Recognizer.{Recognizer, WaitsAt, IsExpected, earleme_of}
use Rattle.expected_terminals.proofs.Expecting.{place_there, place_waits}
use Rattle.earley_sets.proofs.Recognizing.{listed_expected}
use Rattle.earley_sets.proofs.recce.Recce.alike.Goals as goal

pub returns-clause-place : goal.returns-clause-place
returns-clause-place c =
    let told : c.place_alike-place.result ≡ place_told (length c.self.inside.rows.sets - 1) c.self.inside.expected.last = c.place_alike-place.ensures ∙ ap (λ n. place_told (n - 1) c.self.inside.expected.last) c.len-last.ensures in
    let there = place_there c.self.inside.flat.now c.self.inside.rows.sets c.self.inside.expected c.self.invariant.4 c.self.invariant.0.is.some c.self.inside.expected.last refl in
    let v = ap (λ (r : Recognizer). earleme_of r) c.self.view_is in
    omega arith

pub returns-clause-alike : goal.returns-clause-alike
returns-clause-alike c t =
    let told : c.place_alike-place.result ≡ place_told (length c.self.inside.rows.sets - 1) c.self.inside.expected.last = c.place_alike-place.ensures ∙ ap (λ n. place_told (n - 1) c.self.inside.expected.last) c.len-last.ensures in
    let waits = place_waits c.self.inside.flat.now c.self.inside.rows.sets c.self.inside.expected c.self.invariant.4 c.self.invariant.0.is.some c.self.inside.expected.last refl t in
    let law = listed_expected c.self.inside.flat.now c.self.inside.start c.self.inside.edges c.self.inside.rows.sets c.self.inside.top c.self.inside.memo c.self.invariant.0 t in
    subst (λ p. WaitsAt c.args.self.now p t ↔ IsExpected c.args.self.now t) (sym told)
    (subst (λ (r : Recognizer). WaitsAt r (place_told (length c.self.inside.rows.sets - 1) c.self.inside.expected.last) t ↔ IsExpected r t) c.self.view_is
    ((λ h. law.0 (waits.0 h)), (λ h. waits.1 (law.1 h))))
