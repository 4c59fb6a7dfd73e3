use Rattle.std.proofs.Common.{◌≡◌, ◌∙◌, sym, ap, subst, ◌<◌, ◌≤◌, length, drop, map, arith, true, false, codes, List}
use Rattle.std.proofs.lemmas.Result.{err_from_is_err_and}
use Rattle.dsl_statement.specs.Statements.{statement_of as statement_seen}
use Rattle.language_model.specs.Tokens.{Spelled, spelled_at}
use Rattle.language_model.specs.Description.{is_mark, Describes}
use Rattle.dsl_reader.specs.Pieces.{first_is, spelled_tokens}
use Rattle.dsl_reader.specs.Forms.{piece_begins}
use Rattle.dsl_reader.specs.Cutting.{IsAdded, IsNoStatement, Refuses}
use Rattle.dsl_reader.proofs.CuttingLemmas.{all_placed, read_semicolon, read_begin, read_on, read_end, refused_semicolon, refused_begin, refused_end}
use Rattle.dsl_reader.proofs.parsing.parse.Goals as goal
use Rattle.dsl_reader.proofs.parsing.parse.Goals.{then-is_mark+in_ok-add_statement, else-is_mark+then-begins_piece+in_ok-add_statement-2, else-is_mark+else-begins_piece}

pub piece_of-whole-requires : goal.piece_of-whole-requires
piece_of-whole-requires c = all_placed c.args.chars.now c.args.tokens.now c.as_slice.result.now c.as_slice.ensures c.requires

pub returns-in_err-add_statement-clause-refused : goal.returns-in_err-add_statement-clause-refused
unfolding spelled_tokens
returns-in_err-add_statement-clause-refused c =
    let ts = c.piece_of-whole.result in
    let whole : ts ≡ map (spelled_at c.args.chars.now) c.args.tokens.now = c.piece_of-whole.ensures ∙ ap (map (spelled_at c.args.chars.now)) c.as_slice.ensures in
    let inside : c.loop-at.at < length ts = omega arith in
    let ends : first_is (is_mark (codes ";")) (drop c.loop-at.at ts) ≡ true = sym c.is_mark.ensures ∙ c.if-is_mark.true in
    let bad = subst (λ (q : List Spelled). IsNoStatement q c.in_err-add_statement.field-0.0) c.part.ensures c.in_err-add_statement.ensures.refused in
    let refused = subst (λ (q : List Spelled). Refuses q c.in_err-add_statement.field-0.0) whole (refused_semicolon ts _ c.loop-at.from c.loop-at.at c.in_err-add_statement.field-0.0 c.loop-at.invariant inside ends bad) in
    let p = err_from_is_err_and c.from_residual.result c.from_residual.ensures.1 in
    rw (p.1, p.2) refused

pub returns-in_err-add_statement-2-clause-refused : goal.returns-in_err-add_statement-2-clause-refused
unfolding spelled_tokens
returns-in_err-add_statement-2-clause-refused c =
    let ts = c.piece_of-whole.result in
    let whole : ts ≡ map (spelled_at c.args.chars.now) c.args.tokens.now = c.piece_of-whole.ensures ∙ ap (map (spelled_at c.args.chars.now)) c.as_slice.ensures in
    let inside : c.loop-at.at < length ts = omega arith in
    let goes_on : first_is (is_mark (codes ";")) (drop c.loop-at.at ts) ≡ false = sym c.is_mark.ensures ∙ c.if-is_mark.false in
    let begins : piece_begins (drop c.loop-at.at ts) ≡ true = ap piece_begins (sym c.behind.ensures) ∙ sym c.begins_piece.ensures ∙ c.if-begins_piece.true in
    let bad = subst (λ (q : List Spelled). IsNoStatement q c.in_err-add_statement-2.field-0.0) c.part-then-begins_piece.ensures c.in_err-add_statement-2.ensures.refused in
    let refused = subst (λ (q : List Spelled). Refuses q c.in_err-add_statement-2.field-0.0) whole (refused_begin ts _ c.loop-at.from c.loop-at.at c.in_err-add_statement-2.field-0.0 c.loop-at.invariant inside goes_on begins bad) in
    let p = err_from_is_err_and c.from_residual-in_err-add_statement-2.result c.from_residual-in_err-add_statement-2.ensures.1 in
    rw (p.1, p.2) refused

pub loop-at-preserved : goal.loop-at-preserved
loop-at-preserved c =
    let ts = c.piece_of-whole.result in
    let old = map statement_seen c.loop-at.statements.items in
    let inside : c.loop-at.at < length ts = omega arith in
    elim c.if-is_mark.branch [
      | then-is_mark+in_ok-add_statement w ↦
          let ends : first_is (is_mark (codes ";")) (drop c.loop-at.at ts) ≡ true = sym c.is_mark.ensures ∙ w.if-is_mark.true in
          let new = map statement_seen w.add_statement.new.statements.items in
          let read = read_semicolon ts old new c.loop-at.from c.loop-at.at c.loop-at.invariant inside ends (subst (λ (q : List Spelled). IsAdded old q new) w.part.ensures w.in_ok-add_statement.ensures.added) in
          rw (w.statements-is, w.from-is) read
      | else-is_mark+then-begins_piece+in_ok-add_statement-2 w ↦
          let goes_on : first_is (is_mark (codes ";")) (drop c.loop-at.at ts) ≡ false = sym c.is_mark.ensures ∙ w.if-is_mark.false in
          let begins : piece_begins (drop c.loop-at.at ts) ≡ true = ap piece_begins (sym w.behind.ensures) ∙ sym w.begins_piece.ensures ∙ w.if-begins_piece.true in
          let new = map statement_seen w.add_statement-then-begins_piece.new.statements.items in
          let read = read_begin ts old new c.loop-at.from c.loop-at.at c.loop-at.invariant inside goes_on begins (subst (λ (q : List Spelled). IsAdded old q new) w.part-then-begins_piece.ensures w.in_ok-add_statement-2.ensures.added) in
          rw (w.statements-is, w.from-is) read
      | else-is_mark+else-begins_piece w ↦
          let goes_on : first_is (is_mark (codes ";")) (drop c.loop-at.at ts) ≡ false = sym c.is_mark.ensures ∙ w.if-is_mark.false in
          let begins : piece_begins (drop c.loop-at.at ts) ≡ false = ap piece_begins (sym w.behind.ensures) ∙ sym w.begins_piece.ensures ∙ w.if-begins_piece.false in
          let read = read_on ts old c.loop-at.from c.loop-at.at c.loop-at.invariant inside goes_on begins in
          rw (w.statements-is, w.from-is) read
    ]

pub returns-in_err-add_statement-3-clause-refused : goal.returns-in_err-add_statement-3-clause-refused
unfolding spelled_tokens
returns-in_err-add_statement-3-clause-refused c =
    let ts = c.piece_of-whole.result in
    let whole : ts ≡ map (spelled_at c.args.chars.now) c.args.tokens.now = c.piece_of-whole.ensures ∙ ap (map (spelled_at c.args.chars.now)) c.as_slice.ensures in
    let past : length ts ≤ c.loop-at.at = omega arith in
    let bad = subst (λ (q : List Spelled). IsNoStatement q c.in_err-add_statement-3.field-0.0) c.part-2.ensures c.in_err-add_statement-3.ensures.refused in
    let refused = subst (λ (q : List Spelled). Refuses q c.in_err-add_statement-3.field-0.0) whole (refused_end ts _ c.loop-at.from c.loop-at.at c.len.result c.in_err-add_statement-3.field-0.0 c.loop-at.invariant past c.len.ensures bad) in
    let p = err_from_is_err_and c.from_residual-in_err-add_statement-3.result c.from_residual-in_err-add_statement-3.ensures.1 in
    rw (p.1, p.2) refused

pub returns-clause-described : goal.returns-clause-described
unfolding spelled_tokens
returns-clause-described c =
    let ts = c.piece_of-whole.result in
    let old = map statement_seen c.loop-at.statements.items in
    let new = map statement_seen c.add_statement-2.new.statements.items in
    let past : length ts ≤ c.loop-at.at = omega arith in
    let whole : ts ≡ map (spelled_at c.args.chars.now) c.args.tokens.now = c.piece_of-whole.ensures ∙ ap (map (spelled_at c.args.chars.now)) c.as_slice.ensures in
    subst (Describes new) whole (read_end ts old new c.loop-at.from c.loop-at.at c.len.result c.loop-at.invariant past c.len.ensures (subst (λ (q : List Spelled). IsAdded old q new) c.part-2.ensures c.in_ok-add_statement-3.ensures.added))
