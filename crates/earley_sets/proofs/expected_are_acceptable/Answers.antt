use Rattle.std.proofs.lemmas.Option.{slice_get-get_or}
use Rattle.earley_sets.specs.Recognizer.{top_of, earleme_of}
use Rattle.earley_sets.proofs.expected_are_acceptable.Goals as goal

pub returns : goal.returns
returns c = λ w r start t checked made is at.
    let law = c.acceptable_are_flat.ensures r.flat w r.edges r.start start (top_of r) t (earleme_of r) is.flat made checked
    (λ s p q held. is.forward (record { symbol = s; from = p; to = q }) held) at (slice_get-get_or r.flat.tops r.start 0 is.start) in
    (law.1, law.0)
