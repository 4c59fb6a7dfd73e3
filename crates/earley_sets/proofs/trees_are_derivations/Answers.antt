use Rattle.std.proofs.lemmas.Option.{slice_get-get_or}
use Rattle.grammar_model.specs.Grammar.{slot_of}
use Rattle.grammar_model.specs.declared.Ranking.TheVariants.{None}
use Rattle.recognizer_model.specs.FlatForm.{tree_of}
use Rattle.earley_sets.specs.Recognizer.{top_of, start_symbol, earleme_of}
use Rattle.recognizer_model.proofs.Starts.{part_in_range, part_stands}
use Rattle.earley_sets.proofs.trees_are_derivations.Goals as goal

pub returns : goal.returns
returns c = λ w r start checked made is at.
    let form = c.flat_grammars_are_flat_forms.ensures r.flat w r.edges None is.flat made checked (λ s p q held. is.forward (record { symbol = s; from = p; to = q }) held) in
    let top = slice_get-get_or r.flat.tops r.start 0 is.start in
    let inside = part_in_range r.flat w is.flat made r.start start (top_of r) at top in
    let stands = part_stands r.flat w is.flat made r.start start (top_of r) at top in (
      (λ h. (tree_of w r.flat h.0, form.sound (start_symbol r) 0 (earleme_of r) (slot_of start) h.0 inside stands h.1)),
      (λ h. let (u, d, e) = form.whole (start_symbol r) 0 (earleme_of r) (slot_of start) h.0 inside stands h.1 in (u, d)),
    )
