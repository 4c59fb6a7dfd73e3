use Rattle.std.proofs.Common.{◌∙◌, sym, ap, List, Option, ℕ, slice_get}
use Rattle.item_rows.proofs.Ruled.{symbol_some, symbol_none}
use Rattle.item_rows.proofs.heads.symbol_of.Goals as goal

pub returns-in-Some-clause-some : goal.returns-in-Some-clause-some
returns-in-Some-clause-some c =
    symbol_some c.args.flat.now c.args.t c.in-Some.symbol (c.requires.symbols c.args.t c.in-Some.symbol (sym (c.in-Some.ensures ∙ (ap (λ (l : List (Option ℕ)). slice_get l c.t.inside.0) c.deref.ensures.value ∙ ap (slice_get c.args.heads.now.symbols.items) c.t.view_is))))

pub returns-in-Some-clause-none : goal.returns-in-Some-clause-none
returns-in-Some-clause-none c =
    symbol_none c.args.flat.now c.args.t c.in-Some.symbol (c.requires.symbols c.args.t c.in-Some.symbol (sym (c.in-Some.ensures ∙ (ap (λ (l : List (Option ℕ)). slice_get l c.t.inside.0) c.deref.ensures.value ∙ ap (slice_get c.args.heads.now.symbols.items) c.t.view_is))))
