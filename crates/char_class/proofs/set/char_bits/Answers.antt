use Rattle.std.proofs.Common.{◌∙◌, ◌==◌, ◌||◌, sym, ap, arith, false, [], ◌∷◌, take, slice_index_or}
use Rattle.std.proofs.Math.Bool.{or-false, or_assoc}
use Rattle.std.proofs.lemmas.List.{take_all}
use Rattle.std.proofs.lemmas.List.Folds.{list_any_more}
use Rattle.std.proofs.lemmas.Nat.Bits.{bit_at-zero}
use Rattle.language_model.specs.declared.class.ClassItem.TheVariants.{Span}
use Rattle.language_model.specs.Classes.{some_item_has}
use Rattle.char_class.specs.Members.{bit_of, has_code}
use Rattle.char_class.proofs.MembersLemmas.{bit_more}
use Rattle.char_class.proofs.FoldLemmas.{only_itself}
use Rattle.char_class.proofs.set.char_bits.Goals as goal

pub loop-code-init : goal.loop-code-init
loop-code-init c = λ x lt.
    bit_more false (c.args.c == x) _ _ (bit_at-zero x) (c.with_bit-bits.ensures x lt)
    ∙ ap bit_of (sym (or-false (some_item_has (Span c.args.c c.args.c ∷ []) x) ∙ only_itself c.args.c x))

pub loop-code-preserved : goal.loop-code-preserved
loop-code-preserved c = λ x lt.
    let codes = c.args.codes.now in
    let i = c.loop-code.code-index in
    let itself = some_item_has (Span c.args.c c.args.c ∷ []) x in
    bit_more (itself || has_code (take i codes) x) (slice_index_or codes i 0 == x) _ _ (c.loop-code.invariant x lt) (c.with_bit-bits-in-loop-code.ensures x lt)
    ∙ ap bit_of (or_assoc itself (has_code (take i codes) x) (slice_index_or codes i 0 == x) ∙ ap (λ b. itself || b) (sym (list_any_more (λ y. y == x) codes i 0 c.loop-code-test.true)))

pub returns : goal.returns
returns c = λ x lt.
    c.loop-code.invariant x lt
    ∙ ap (λ codes. bit_of (some_item_has (Span c.args.c c.args.c ∷ []) x || has_code codes x)) (take_all c.loop-code.code-index c.args.codes.now c.loop-code-test.false)
