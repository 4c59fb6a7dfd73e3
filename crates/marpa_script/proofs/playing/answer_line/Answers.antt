use Rattle.std.proofs.Common.{◌≡◌, ◌∙◌, Some, None, nat_lt, length, sym, ap, false, true, Bor, List, ℕ}
use Rattle.std.specs.List.{list_all}
use Rattle.marpa_script.specs.Told.{told, texts}
use Rattle.marpa_script.specs.Machines.{building}
use Rattle.marpa_script.proofs.Answering.{if_ok, not_words, by_words, bad_line, is_command}
use Rattle.marpa_script.proofs.playing.answer_line.Goals as goal

pub returns-then-not-are_words-clause-replies : goal.returns-then-not-are_words-clause-replies
returns-then-not-are_words-clause-replies c =
    let no : c.are_words.result ≡ false = search in
    let none = not_words c.args.text.now c.deref.result.now c.are_words.result (ap texts c.deref.ensures.value ∙ c.in_ok-list_words.ensures) c.are_words.ensures no in
    bad_line (building c.args.w.now) c.args.text.now c.put.new.line.items none c.in_ok-put.ensures

pub returns-in-Some-clause-replies : goal.returns-in-Some-clause-replies
returns-in-Some-clause-replies c =
    let yes : c.are_words.result ≡ true = search in
    let same = ap (list_all (λ (w : Bor (List ℕ)). nat_lt 0 (length w.now))) (c.deref.ensures.value ∙ sym c.deref-2.ensures.value) in
    let found = by_words c.args.text.now c.deref-2.result.now c.are_words.result (ap texts c.deref-2.ensures.value ∙ c.in_ok-list_words.ensures) (c.are_words.ensures ∙ same) (Some (told c.in-Some.command)) yes c.in-Some.ensures in
    if_ok c.answer_command.result c.answer_command.ensures.replies (λ o replies. replies c.args.text.now (is_command c.args.text.now (told c.in-Some.command) found))

pub returns-in_ok-put-in-None-clause-replies : goal.returns-in_ok-put-in-None-clause-replies
returns-in_ok-put-in-None-clause-replies c =
    let yes : c.are_words.result ≡ true = search in
    let same = ap (list_all (λ (w : Bor (List ℕ)). nat_lt 0 (length w.now))) (c.deref.ensures.value ∙ sym c.deref-2.ensures.value) in
    let none = by_words c.args.text.now c.deref-2.result.now c.are_words.result (ap texts c.deref-2.ensures.value ∙ c.in_ok-list_words.ensures) (c.are_words.ensures ∙ same) None yes c.in-None.ensures in
    bad_line (building c.args.w.now) c.args.text.now c.put-in-None.new.line.items none c.in_ok-put-in-None.ensures
