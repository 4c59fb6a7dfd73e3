use Rattle.std.proofs.Common.{◌≡◌, ◌∙◌, true, false, sym, true≢false}
use Rattle.std.proofs.lemmas.Slice.Eq.{bytes_eq-Decides}
use Rattle.cursor_model.specs.Rest.{start_text}
use Rattle.tree_cursor.specs.declared.refusal.CursorRefusal.{CursorRefusal}
use Rattle.tree_cursor.specs.declared.refusal.CursorRefusal.TheVariants.{BadCursor}
use Rattle.tellings.specs.Places.{TellsNoPlace}
use Rattle.tellings.proofs.Stopping.{passed_on}
use Rattle.tellings.proofs.places.place_of.Goals as goal

pub returns-in_err-read_cursor-clause-bad : goal.returns-in_err-read_cursor-clause-bad
returns-in_err-read_cursor-clause-bad c =
    passed_on (λ (refusal : CursorRefusal). refusal ≡ BadCursor → TellsNoPlace c.args.text.now) c.from_residual.result c.in_err-read_cursor.field-0.0 c.from_residual.ensures.1
    (λ e. record {
      no_start = λ same. true≢false (sym ((bytes_eq-Decides c.args.text.now start_text).1 same) ∙ sym c.if-eq.ensures);
      no_tree = c.in_err-read_cursor.ensures.bad e;
    })
