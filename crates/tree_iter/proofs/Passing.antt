-- Walks that are led past derivations.
use Rattle.std.proofs.Common.{◌≡◌, ℕ, List, [], ◌++◌, refl, sym, ap, ◌∙◌, append_assoc}
use Rattle.grammar_model.specs.Steps.{Step}
use Rattle.tree_iter.specs.declared.walk.Walk.{Walk}
use Rattle.tree_iter.specs.Walk.{StandsBefore, SkipsTo, Passes, ComesTo, GoesPast}
use Rattle.tree_iter.proofs.Walks.{reaches}

pub passes_none : (w : Walk) (rest : List (List Step)) → StandsBefore w rest → Passes w rest
passes_none w rest h = record { skipped = []; later = rest; rest_is = refl; stands = h }

pub passes_skip : (w : Walk) (rest : List (List Step)) (at : ℕ) → SkipsTo w rest at → Passes w rest
passes_skip w rest at s = record { skipped = s.skipped; later = s.later; rest_is = s.rest_is; stands = s.stands }

pub past_none : (w : Walk) → GoesPast w w
past_none w = passes_none w

pub past_then : (a b c : Walk) → GoesPast a b → GoesPast b c → GoesPast a c
past_then a b c g h = λ rest s.
    let p = g rest s in
    let q = h p.later p.stands in
    record {
      skipped = p.skipped ++ q.skipped;
      later = q.later;
      rest_is = p.rest_is ∙ ap (λ l. p.skipped ++ l) q.rest_is ∙ sym (append_assoc p.skipped q.skipped q.later);
      stands = q.stands;
    }

-- no goal is left
pub comes_to : (w : Walk) (rest : List (List Step)) → w.left ≡ 0 → Passes w rest → ComesTo w rest
comes_to w rest none p = record { skipped = p.skipped; later = p.later; rest_is = p.rest_is; reaches = reaches w p.later none p.stands }
