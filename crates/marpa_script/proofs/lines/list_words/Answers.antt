use Rattle.std.proofs.Common.{◌≡◌, ◌∙◌, sym, subst, ap, arith, ◌++◌, [], List, ℕ, Bor}
use Rattle.std.specs.Prelude.{OnOk}
use Rattle.std.specs.Str.Iter.{split_steps}
use Rattle.std.specs.Str.Pattern.{FindsChar}
use Rattle.std.proofs.lemmas.Iterator.{YieldsList}
use Rattle.std.proofs.lemmas.Iterator.Adapters.{fact_from_extend}
use Rattle.std.proofs.lemmas.Iterator.Splits.{YieldsList-from_str_split}
use Rattle.script_model.specs.Commands.{words_of}
use Rattle.marpa_script.specs.Told.{texts}
use Rattle.marpa_script.proofs.lines.list_words.Goals as goal

-- src/lines.rt:30:1
pub returns : goal.returns
returns c =
    subst (λ z. OnOk z (texts c.extend.new.self.items ≡ words_of c.args.line.now)) (c.in_ok-extend.was)
    (fact_from_extend {steps = split_steps FindsChar (λ a b. b ≡ a)} (λ (x : Bor (List ℕ)). x.now) c.extend.result c.extend.ensures.ran
    (λ it same. subst (λ s. YieldsList (split_steps FindsChar (λ a b. b ≡ a)) (λ (x : Bor (List ℕ)). x.now) s (words_of c.args.line.now)) (sym same)
    (YieldsList-from_str_split 32 c.args.line.now (omega arith) c.split.ensures.text c.split.ensures.has_more c.split.ensures.pattern))
    (λ xs mapped gives. let emptied : c.clear.new.self.items ≡ [] = search in let all : c.extend.new.self.items ≡ xs = gives.0 ∙ ap (λ l. l ++ xs) emptied in ap texts all ∙ mapped))
