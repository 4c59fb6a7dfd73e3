use Rattle.std.proofs.Common.{◌≡◌, ◌∙◌, ap, subst, sym, map, true, false, true≢false, string_bytes, inl, inr}
use Rattle.clap.specs.Words.{IsAmong, kind_of, found_of, fault_of, is_simple, is_simple_and_free, matches_of}
use Rattle.command_line.proofs.Agreed.{refused, simple, simple_and_free, taken, texts_are_utf8}
use Rattle.command_line.proofs.words.read_words.Goals as goal

pub returns-in-Ok : goal.returns-in-Ok
returns-in-Ok c =
    let texts = map string_bytes c.args.words.now in
    let app = c.in_ok-command.ensures in
    c.job_given.ensures ∙ taken texts (found_of c.in-Ok.matches) (texts_are_utf8 c.args.words.now)
    (ap (λ a. fault_of a texts) (sym app) ∙ c.in-Ok.ensures.kinds (ap is_simple_and_free app ∙ simple_and_free))
    ((c.in-Ok.ensures.matches (ap is_simple app ∙ simple)).0 ∙ ap (λ a. matches_of a texts) app)

pub returns : goal.returns
returns c =
    let texts = map string_bytes c.args.words.now in
    let app = c.in_ok-command.ensures in
    let kinds = c.in-Err.ensures.kinds (ap is_simple_and_free app ∙ simple_and_free) in
    elim kinds [
      | inl memory ↦
          let bad : false ≡ true = rw (c.kind.ensures ∙ memory) at c.if-eq.ensures in
          absurd (true≢false (sym bad))
      | inr among ↦ sym (refused texts (kind_of c.in-Err.error) (texts_are_utf8 c.args.words.now) (subst (λ a. IsAmong (kind_of c.in-Err.error) (fault_of a texts)) app among))
    ]
