-- The replies to lines with a command.
use Rattle.std.proofs.Common.{◌≡◌, ◌∙◌, ℕ, Bool, true, false, ◌&&◌, nat_lt, List, [], ◌∷◌, length, Option, Some, None, Result, Ok, Err, Bor, refl, sym, ap}
use Rattle.std.specs.Prelude.{OnOk, IfOk, if◌then◌else◌, codes}
use Rattle.std.specs.List.{list_all}
use Rattle.grammar_model.specs.Grammar.{Grammar}
use Rattle.script_model.specs.Commands.{Command, phase_of, words_of, IsCommand}
use Rattle.script_model.specs.Machine.{Machine}
use Rattle.script_model.specs.Parsing.{command_by, command_in}
use Rattle.script_model.proofs.Parsed.{commands_are_parsed}
use Rattle.marpa_script.specs.Told.{texts}
use Rattle.script_model.specs.Replies.{Reply, says, CommandReplies, Replies, BadLine, NotNow, Played}
use Rattle.marpa_script.specs.Machines.{building, LineReplies}
use Rattle.marpa_script.proofs.Replying.{on_ok}

pub played : {T E : Type 0} (m : Machine) (c : Command) (reply : Reply) (r : Result T E) → phase_of c ≡ m.phase → OnOk r (CommandReplies m c reply) → OnOk r (LineReplies m c reply)
played m c reply r now ok = on_ok r ok (λ is line command. Played c command now is)

pub not_now : {T E : Type 0} (m : Machine) (c : Command) (text : List ℕ) (r : Result T E) → (phase_of c ≡ m.phase → ⊥) → OnOk r (text ≡ codes "not now") → OnOk r (LineReplies m c (says m text))
not_now m c text r other ok = on_ok r ok (λ is line command. NotNow c command other (ap (says m) is))

-- ---- LINES

pub if_ok : {T E : Type 0} {P Q : T → Type 0} (r : Result T E) → IfOk r P → ((x : T) → P x → Q x) → IfOk r Q
if_ok (Ok x) p f = f x p
if_ok (Err y) p f = tt

-- what the words of a line spell is its command
all_texts : (words : List (Bor (List ℕ))) → list_all (λ w. nat_lt 0 (length w.now)) words ≡ list_all (λ w. nat_lt 0 (length w)) (texts words)
all_texts [] = refl
all_texts (w ∷ words) = ap (λ b. nat_lt 0 (length w.now) && b) (all_texts words)

module _ (line : List ℕ) (words : List (Bor (List ℕ))) (b : Bool) (are : texts words ≡ words_of line) (test : b ≡ list_all (λ w. nat_lt 0 (length w.now)) words) where
  found_by : command_in line ≡ (if b then command_by (texts words) else None)
  found_by =
      ap (λ l. if list_all (λ w. nat_lt 0 (length w)) l then command_by l else None) (sym are)
      ∙ ap (λ t. if t then command_by (texts words) else None) (sym (test ∙ all_texts words))

  pub not_words : b ≡ false → command_in line ≡ None
  not_words e = found_by ∙ ap (λ t. if t then command_by (texts words) else None) e

  pub by_words : (o : Option Command) → b ≡ true → o ≡ command_by (texts words) → command_in line ≡ o
  by_words o e is = found_by ∙ (ap (λ t. if t then command_by (texts words) else None) e ∙ sym is)

pub bad_line : (m : Machine) (line text : List ℕ) → command_in line ≡ None → text ≡ codes "bad line" → Replies m line (says m text)
bad_line m line text none is = BadLine (λ c command. (let never : None ≡ Some c = sym none ∙ (commands_are_parsed line c).1 command in cc never)) (ap (says m) is)

pub is_command : (line : List ℕ) (c : Command) → command_in line ≡ Some c → IsCommand line c
is_command line c e = (commands_are_parsed line c).0 e
