-- One line more, and where the writing broke off.
use Rattle.std.proofs.Common.{◌≡◌, ◌∙◌, ℕ, ◌+◌, ◌≤◌, ◌++◌, List, [], ◌∷◌, Option, None, Some, length, refl, sym, ap, subst, arith, append_assoc, append-nil}
use Rattle.std.specs.List.{concat}
use Rattle.std.specs.Io.KnownBytes.{Appends}
use Rattle.std.proofs.lemmas.List.Folds.{concat-append}
use Rattle.outside_model.specs.Told.{AppendsPrefix}
use Rattle.grammar_model.specs.Grammar.{Grammar}
use Rattle.script_model.specs.Commands.{lines_of}
use Rattle.script_model.specs.Machine.{Machine, blank}
use Rattle.script_model.specs.Replies.{Reply, as_line, says, Replies}
use Rattle.script_model.specs.Script.{Plays, Begins, GoesOn}
use Rattle.slif_base.proofs.Bytes.{appends_none, appends_twice}
use Rattle.script_laws.proofs.Exist.{ArePlayed, some_reply, sound_after, sound_played, played_on}
use Rattle.marpa_script.specs.Machines.{building}
use Rattle.marpa_script.specs.Written.{Replied, BreaksOff, Nothing, Within, HasPlayed, HasPlayedTo, BreaksOffIn}
use Rattle.marpa_script.proofs.Room.{HasRoom, room_begun, room_kept}

-- ---- A LINE THAT IS SAID

module _ (P : Reply → Type 0) (after : Machine) (text : List ℕ) (old new : Option (List ℕ)) (is : P (says after text)) where
  pub line_said : Appends old new (as_line text) → Replied P after old new
  line_said appends = record { reply = says after text; is = is; after_is = refl; appends = subst (Appends old new) (sym (append-nil (as_line text))) appends }

  pub line_broken : AppendsPrefix old new (as_line text) → BreaksOff P old new
  line_broken part = Within (says after text) is (subst (AppendsPrefix old new) (sym (append-nil (as_line text))) part)

pub none_said : (P : Reply → Type 0) (old : Option (List ℕ)) → BreaksOff P old old
none_said P old = Nothing (appends_none old)

-- ---- LINES

pub nothing_played : (old : Option (List ℕ)) → HasPlayed [] blank old old
nothing_played old = record { answers = []; plays = Begins; appends = appends_none old }

module _ (lines : List (List ℕ)) (m : Machine) (old mid : Option (List ℕ)) (played : HasPlayed lines m old mid) (line : List ℕ) where
  -- a line more
  line_played : (after : Machine) (new : Option (List ℕ)) → Replied (Replies m line) after mid new → HasPlayed (lines ++ line ∷ []) after old new
  line_played after new r = record {
    answers = played.answers ++ r.reply.lines;
    plays = subst (λ (k : Machine). Plays (lines ++ line ∷ []) k (played.answers ++ r.reply.lines)) r.after_is (GoesOn line r.reply played.plays r.is);
    appends = subst (Appends old new) (sym (concat-append played.answers r.reply.lines))
        (appends_twice old mid new (concat played.answers) (concat r.reply.lines) played.appends r.appends);
  }

  -- a prefix of the answers to these lines and to any after them was written
  record IsPartOf (more : List (List ℕ)) (new : Option (List ℕ)) : Type 0 where
    answers : List (List ℕ)
    after : Machine
    plays : Plays ((lines ++ line ∷ []) ++ more) after answers
    prefix : AppendsPrefix old new (concat answers)

  part_of : (more : List (List ℕ)) (reply : Reply) → Replies m line reply → (new : Option (List ℕ)) (bytes rest : List ℕ) → concat reply.lines ≡ bytes ++ rest → Appends mid new bytes → IsPartOf more new
  part_of more reply replies new bytes rest split appends =
      let sound = sound_played lines m played.answers played.plays in
      let here : ArePlayed (lines ++ line ∷ []) (played.answers ++ reply.lines) =
      record { machine = reply.after; plays = GoesOn line reply played.plays replies; sound = sound_after m sound line reply replies } in
      let (others, all) = played_on (lines ++ line ∷ []) more (played.answers ++ reply.lines) here in
      record {
        answers = (played.answers ++ reply.lines) ++ others;
        after = all.machine;
        plays = all.plays;
        prefix = record {
          bytes = concat played.answers ++ bytes;
          rest = rest ++ concat others;
          split = concat-append (played.answers ++ reply.lines) others ∙ ap (λ l. l ++ concat others) (concat-append played.answers reply.lines ∙ ap (λ l. concat played.answers ++ l) split)
              ∙ shuffle (concat played.answers) bytes rest (concat others);
          appends = appends_twice old mid new (concat played.answers) bytes played.appends appends;
        };
      }
    where
      shuffle : (a b c d : List ℕ) → (a ++ (b ++ c)) ++ d ≡ (a ++ b) ++ (c ++ d)
      shuffle a b c d = append_assoc a (b ++ c) d ∙ ap (λ l. a ++ l) (append_assoc b c d) ∙ sym (append_assoc a b (c ++ d))

  broken_off : (more : List (List ℕ)) (new : Option (List ℕ)) → BreaksOff (Replies m line) mid new → IsPartOf more new
  broken_off more new (Nothing appends) =
      let (reply, replies, s) = some_reply m (sound_played lines m played.answers played.plays) line in
      part_of more reply replies new [] (concat reply.lines) refl appends
  broken_off more new (Within reply replies prefix) = part_of more reply replies new prefix.bytes prefix.rest prefix.split prefix.appends

-- ---- A TEXT, LINE BY LINE

cut_more : (lines : List (List ℕ)) (line : List ℕ) (others whole rest : List (List ℕ)) → whole ≡ lines ++ rest → rest ≡ line ∷ others → whole ≡ (lines ++ line ∷ []) ++ others
cut_more lines line others whole rest cut first = cut ∙ ap (λ l. lines ++ l) first ∙ sym (append_assoc lines (line ∷ []) others)

module _ (text rest line others : List ℕ) (m : Machine) (old mid : Option (List ℕ)) (before : HasPlayedTo text rest m old mid) (first : lines_of rest ≡ line ∷ lines_of others) where
  pub played_next : (after : Machine) (new : Option (List ℕ)) → Replied (Replies m line) after mid new → HasPlayedTo text others after old new
  played_next after new r = record {
    lines = before.lines ++ line ∷ [];
    cut = cut_more before.lines line (lines_of others) (lines_of text) (lines_of rest) before.cut first;
    played = line_played before.lines m old mid before.played line after new r;
  }

  pub broken_next : (new : Option (List ℕ)) → BreaksOff (Replies m line) mid new → BreaksOffIn text old new
  broken_next new breaks =
      let part = broken_off before.lines m old mid before.played line (lines_of others) new breaks in
      let cut = cut_more before.lines line (lines_of others) (lines_of text) (lines_of rest) before.cut first in
      record {
        answers = part.answers;
        are = record { machine = part.after; plays = subst (λ (ls : List (List ℕ)). Plays ls part.after part.answers) (sym cut) part.plays };
        prefix = part.prefix;
      }

none_left : (rest : List ℕ) → length rest ≤ 0 → lines_of rest ≡ []
none_left [] none = refl
none_left (c ∷ rest) none = absurd (omega (arith, none))

pub all_played : (text rest : List ℕ) (m : Machine) (old new : Option (List ℕ)) → HasPlayedTo text rest m old new → length rest ≤ 0 → HasPlayed (lines_of text) m old new
all_played text rest m old new played none =
    let whole : lines_of text ≡ played.lines = played.cut ∙ ap (λ l. played.lines ++ l) (none_left rest none) ∙ append-nil played.lines in
    subst (λ (ls : List (List ℕ)). HasPlayed ls m old new) (sym whole) played.played

-- ---- BUILDING

-- the lines up to a rest were played, the grammar is still built, and there is room for what the rest may add
pub record IsBuilding (text rest : List ℕ) (g : Grammar) (old new : Option (List ℕ)) : Type 0 where
  pub played : HasPlayedTo text rest (building g) old new
  pub room : HasRoom g (length rest) (length text)

pub building_begun : (text : List ℕ) (g : Grammar) (old : Option (List ℕ)) → g ≡ blank.grammar → IsBuilding text text g old old
building_begun text g old none = record {
  played = subst (λ (k : Grammar). HasPlayedTo text text (building k) old old) (sym none) (record { lines = []; cut = refl; played = nothing_played old });
  room = room_begun g (length text) none;
}

pub built_on : (text rest line others : List ℕ) (g h : Grammar) (old mid new : Option (List ℕ)) → IsBuilding text rest g old mid → lines_of rest ≡ line ∷ lines_of others →
    length others + length line ≤ length rest → Replied (Replies (building g) line) (building h) mid new → IsBuilding text others h old new
built_on text rest line others g h old mid new before first less r = record {
  played = played_next text rest line others (building g) old mid before.played first (building h) new r;
  room = room_kept g h line (length rest) (length others) (length text) mid new before.room less r;
}
