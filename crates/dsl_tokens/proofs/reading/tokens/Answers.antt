use Rattle.std.proofs.Common.{◌≡◌, ◌∙◌, sym, ap, subst, refl, ◌+◌, ◌-◌, ◌<◌, length, drop, arith, false, Some, None}
use Rattle.std.proofs.lemmas.List.{length-drop}
use Rattle.language_model.specs.Tokens.{LeadTo}
use Rattle.language_model.specs.Layout.{layout_len}
use Rattle.dsl_tokens.specs.Scanning.{token_at}
use Rattle.dsl_tokens.proofs.LeadLemmas.{LeadTo-push, layout_skipped}
use Rattle.dsl_tokens.proofs.LongestLemmas.{IsLongest-found, none_found}
use Rattle.dsl_tokens.proofs.reading.tokens.Goals as goal

pub loop-at-preserved : goal.loop-at-preserved
loop-at-preserved c =
    let text = c.args.chars.now in
    let inside : c.loop-at.at < length text = omega arith in
    let found : token_at (drop c.loop-at.at text) ≡ Some (c.in-Some.kind, c.in-Some.len) = ap token_at (sym c.rest_of-in-loop-at.ensures) ∙ sym c.in-Some.ensures.value in
    let longest = IsLongest-found text c.loop-at.at c.in-Some.kind c.in-Some.len inside found in
    let skipped : c.layout_len.result ≡ layout_len (drop (c.loop-at.at + c.in-Some.len) text) false = c.layout_len.ensures.value ∙ ap (λ t. layout_len t false) c.rest_of-in-Some.ensures in
    let left : length c.rest_of-in-Some.result ≡ length text - (c.loop-at.at + c.in-Some.len) = ap length c.rest_of-in-Some.ensures ∙ length-drop (c.loop-at.at + c.in-Some.len) text in (
      omega (arith, longest.within, c.layout_len.ensures.within, left),
      subst (λ ts. LeadTo text 0 ts (c.loop-at.at + c.in-Some.len + c.layout_len.result)) (sym c.in_ok-push-in-Some.ensures.items)
          (LeadTo-push text 0 c.loop-at.items.items c.loop-at.at _ (c.loop-at.at + c.in-Some.len + c.layout_len.result) c.loop-at.invariant.1 refl longest (layout_skipped text (c.loop-at.at + c.in-Some.len) c.layout_len.result skipped)),
    )

pub returns-in-None : goal.returns-in-None
returns-in-None c =
    let inside : c.loop-at.at < length c.args.chars.now = omega arith in
    let none : token_at (drop c.loop-at.at c.args.chars.now) ≡ None = ap token_at (sym c.rest_of-in-loop-at.ensures) ∙ sym c.in-None.ensures.value in
    record {
      found = tt;
      refused = record { before = c.loop-at.items.items; lead = c.loop-at.invariant.1; within = inside; none = none_found c.args.chars.now c.loop-at.at inside none };
    }

pub returns : goal.returns
returns c =
    let at_end : c.loop-at.at ≡ length c.args.chars.now = omega (arith, c.loop-at.invariant.0) in
    let led : LeadTo c.args.chars.now 0 c.loop-at.items.items (length c.args.chars.now) = subst (LeadTo c.args.chars.now 0 c.loop-at.items.items) at_end c.loop-at.invariant.1 in
    record { found = subst (λ ts. LeadTo c.args.chars.now 0 ts (length c.args.chars.now)) (sym c.of.ensures) led; refused = tt }

pub loop-at-smaller : goal.loop-at-smaller
loop-at-smaller c =
    let text = c.args.chars.now in
    let inside : c.loop-at.at < length text = omega arith in
    let found : token_at (drop c.loop-at.at text) ≡ Some (c.in-Some.kind, c.in-Some.len) = ap token_at (sym c.rest_of-in-loop-at.ensures) ∙ sym c.in-Some.ensures.value in
    let longest = IsLongest-found text c.loop-at.at c.in-Some.kind c.in-Some.len inside found in
    omega (arith, longest.some)
