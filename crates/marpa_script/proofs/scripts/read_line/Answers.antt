use Rattle.std.proofs.Common.{◌≡◌, ◌∙◌, Some, None, nat_lt, length, sym, ap, refl, false, true, Bor, List, ℕ}
use Rattle.std.specs.Prelude.{codes}
use Rattle.std.specs.List.{list_all}
use Rattle.std.proofs.lemmas.Result.{on_ok_weaker, on_err_weaker}
use Rattle.script_model.specs.Replies.{Replies}
use Rattle.marpa_script.specs.Told.{told, texts}
use Rattle.marpa_script.specs.Machines.{reading, LineReplies}
use Rattle.marpa_script.proofs.Answering.{not_words, by_words, bad_line, is_command}
use Rattle.marpa_script.proofs.Writing.{line_said, line_broken, none_said}
use Rattle.marpa_script.proofs.Whole.{replied_as, broken_as}
use Rattle.marpa_script.proofs.scripts.read_line.Goals as goal

pub returns-in_default-clause-breaks : goal.returns-in_default-clause-breaks
returns-in_default-clause-breaks g c = none_said (Replies (reading c.args.w.now c.args.recce.now) c.args.text.now) (g.K.Sink.contents c.args.out.now)

pub returns-then-not-are_words-clause-played : goal.returns-then-not-are_words-clause-played
returns-then-not-are_words-clause-played g c =
    let m = reading c.args.w.now c.args.recce.now in
    let no : c.are_words.result ≡ false = search in
    let none = not_words c.args.text.now c.deref.result.now c.are_words.result (ap texts c.deref.ensures.value ∙ c.in-Ok.ensures) c.are_words.ensures no in
    on_ok_weaker c.play_bad.result (line_said (Replies m c.args.text.now) m (codes "bad line") _ _ (bad_line m c.args.text.now (codes "bad line") none refl)) c.play_bad.ensures.ok

pub returns-then-not-are_words-clause-breaks : goal.returns-then-not-are_words-clause-breaks
returns-then-not-are_words-clause-breaks g c =
    let m = reading c.args.w.now c.args.recce.now in
    let no : c.are_words.result ≡ false = search in
    let none = not_words c.args.text.now c.deref.result.now c.are_words.result (ap texts c.deref.ensures.value ∙ c.in-Ok.ensures) c.are_words.ensures no in
    on_err_weaker c.play_bad.result (line_broken (Replies m c.args.text.now) m (codes "bad line") _ _ (bad_line m c.args.text.now (codes "bad line") none refl)) c.play_bad.ensures.err

pub returns-in-Some-clause-played : goal.returns-in-Some-clause-played
returns-in-Some-clause-played g c =
    let m = reading c.args.w.now c.args.recce.now in
    let yes : c.are_words.result ≡ true = search in
    let same = ap (list_all (λ (w : Bor (List ℕ)). nat_lt 0 (length w.now))) (c.deref.ensures.value ∙ sym c.deref-2.ensures.value) in
    let found = by_words c.args.text.now c.deref-2.result.now c.are_words.result (ap texts c.deref-2.ensures.value ∙ c.in-Ok.ensures) (c.are_words.ensures ∙ same) (Some (told c.in-Some.command)) yes c.in-Some.ensures in
    on_ok_weaker c.play_command.result
    (replied_as {P = LineReplies m (told c.in-Some.command)} (λ reply replies. replies c.args.text.now (is_command c.args.text.now (told c.in-Some.command) found)) (reading c.args.w.now c.play_command.new.recce) _ _)
    c.play_command.ensures.played

pub returns-in-Some-clause-breaks : goal.returns-in-Some-clause-breaks
returns-in-Some-clause-breaks g c =
    let m = reading c.args.w.now c.args.recce.now in
    let yes : c.are_words.result ≡ true = search in
    let same = ap (list_all (λ (w : Bor (List ℕ)). nat_lt 0 (length w.now))) (c.deref.ensures.value ∙ sym c.deref-2.ensures.value) in
    let found = by_words c.args.text.now c.deref-2.result.now c.are_words.result (ap texts c.deref-2.ensures.value ∙ c.in-Ok.ensures) (c.are_words.ensures ∙ same) (Some (told c.in-Some.command)) yes c.in-Some.ensures in
    on_err_weaker c.play_command.result
    (broken_as {P = LineReplies m (told c.in-Some.command)} (λ reply replies. replies c.args.text.now (is_command c.args.text.now (told c.in-Some.command) found)) m _ _)
    c.play_command.ensures.breaks

pub returns-in-None-clause-played : goal.returns-in-None-clause-played
returns-in-None-clause-played g c =
    let m = reading c.args.w.now c.args.recce.now in
    let yes : c.are_words.result ≡ true = search in
    let same = ap (list_all (λ (w : Bor (List ℕ)). nat_lt 0 (length w.now))) (c.deref.ensures.value ∙ sym c.deref-2.ensures.value) in
    let none = by_words c.args.text.now c.deref-2.result.now c.are_words.result (ap texts c.deref-2.ensures.value ∙ c.in-Ok.ensures) (c.are_words.ensures ∙ same) None yes c.in-None.ensures in
    on_ok_weaker c.play_bad-in-None.result (line_said (Replies m c.args.text.now) m (codes "bad line") _ _ (bad_line m c.args.text.now (codes "bad line") none refl)) c.play_bad-in-None.ensures.ok

pub returns-in-None-clause-breaks : goal.returns-in-None-clause-breaks
returns-in-None-clause-breaks g c =
    let m = reading c.args.w.now c.args.recce.now in
    let yes : c.are_words.result ≡ true = search in
    let same = ap (list_all (λ (w : Bor (List ℕ)). nat_lt 0 (length w.now))) (c.deref.ensures.value ∙ sym c.deref-2.ensures.value) in
    let none = by_words c.args.text.now c.deref-2.result.now c.are_words.result (ap texts c.deref-2.ensures.value ∙ c.in-Ok.ensures) (c.are_words.ensures ∙ same) None yes c.in-None.ensures in
    on_err_weaker c.play_bad-in-None.result (line_broken (Replies m c.args.text.now) m (codes "bad line") _ _ (bad_line m c.args.text.now (codes "bad line") none refl)) c.play_bad-in-None.ensures.err
