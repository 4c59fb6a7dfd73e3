use Rattle.std.proofs.Common.{◌≡◌, ◌∙◌, sym, ap, refl, length, map, List, [], ◌∷◌, true, false, Some, None, arith, rules}
use Rattle.std.specs.Prelude.{if◌then◌else◌}
use Rattle.dsl_statement.specs.declared.statement.Element.{Element as HeldElement}
use Rattle.dsl_statement.specs.Statements.{element_of as element_seen}
use Rattle.language_model.specs.Description.{Element, Alternative, is_some}
use Rattle.dsl_reader.specs.Forms.{behind_some, some_elements, full_alternative_of}
use Rattle.dsl_reader.proofs.alternatives.read_full.Goals as goal

none_seen : (es : List HeldElement) (seen : List Element) → map element_seen es ≡ seen → length es ≡ 0 → is_some seen ≡ false
none_seen [] seen e h = ap is_some (sym e)
none_seen (x ∷ es) seen e h = absurd (omega arith)

some_seen : (es : List HeldElement) (seen : List Element) → map element_seen es ≡ seen → (length es ≡ 0 → ⊥) → is_some seen ≡ true
some_seen [] seen e h = absurd (h refl)
some_seen (x ∷ es) seen e h = ap is_some (sym e)

pub returns-in_default : goal.returns-in_default
unfolding full_alternative_of
returns-in_default c = ap (λ o. behind_some o some_elements) (sym c.in_default.is ∙ c.in_ok-alternative.ensures)

pub returns-then-len-eq0 : goal.returns-then-len-eq0
unfolding full_alternative_of
returns-then-len-eq0 c =
    let count : length c.alternative.inside.elements.items ≡ 0 = search rules in
    let none = none_seen c.alternative.inside.elements.items c.in-Some.alternative.elements (ap (λ (a : Alternative). a.elements) c.alternative.view_is) count in
    ap (λ b. if b then Some c.in-Some.alternative else None) (sym none) ∙ ap (λ o. behind_some o some_elements) (sym c.in-Some.is ∙ c.in_ok-alternative.ensures)

pub returns : goal.returns
unfolding full_alternative_of
returns c =
    let count : (length c.alternative.inside.elements.items ≡ 0 → ⊥) = λ h. c.if-len-eq0.false (c.len.ensures ∙ (let e = h in search rules)) in
    let some = some_seen c.alternative.inside.elements.items c.in-Some.alternative.elements (ap (λ (a : Alternative). a.elements) c.alternative.view_is) count in
    ap (λ b. if b then Some c.in-Some.alternative else None) (sym some) ∙ ap (λ o. behind_some o some_elements) (sym c.in-Some.is ∙ c.in_ok-alternative.ensures)
