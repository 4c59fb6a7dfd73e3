-- A script is played: its lines while the grammar is built, and those while it is read by.
use Rattle.std.proofs.Common.{◌≡◌, ◌∙◌, ℕ, zero, suc, ◌+◌, ◌*◌, ◌-◌, ◌<◌, ◌≤◌, ◌++◌, List, [], ◌∷◌, Option, None, Some, Result, Ok, Err, length, take, drop, refl, sym, ap, subst, arith, length-append}
use Rattle.std.specs.Prelude.{OnOk, OnErr, codes, slice_range, encode_utf8_all}
use Rattle.std.specs.List.{concat}
use Rattle.std.specs.Io.KnownBytes.{Appends}
use Rattle.std.proofs.Math.Utf8.{encode}
use Rattle.std.proofs.lemmas.Str.{length-encode, len_utf8_bounds}
use Rattle.std.proofs.lemmas.List.{take_all}
use Rattle.std.proofs.lemmas.List.Folds.{concat-append}
use Rattle.outside_model.specs.Told.{AppendsPrefix}
use Rattle.grammar_model.specs.declared.Edge.{Edge}
use Rattle.grammar_model.specs.Grammar.{Grammar}
use Rattle.grammar_model.specs.Checked.{IsChecked}
use Rattle.grammar_model.specs.declared.limits.TheConstants.{LONGEST_INPUT}
use Rattle.recognizer_model.specs.Flat.{FlatGrammar}
use Rattle.recognizer_model.specs.FlatForm.{IsFlatOf}
use Rattle.flat_model.specs.Flattened.{IsFlattened}
use Rattle.earley_sets.specs.Recognizer.{Recognizer, earleme_of}
use Rattle.script_model.specs.Commands as model
use Rattle.script_model.specs.Commands.{Reading, lines_of, phase_of, IsCommand}
use Rattle.script_model.specs.Machine.{Machine, blank, that_reads}
use Rattle.script_model.specs.Replies.{Reply, as_line, says, CommandReplies, Replies, ReportReplies, TreesReply, Played}
use Rattle.script_model.specs.Script.{Plays}
use Rattle.script_laws.proofs.Exist.{sound_played, played_on}
use Rattle.marpa_script.specs.declared.commands.Command.{Command}
use Rattle.marpa_script.specs.declared.commands.Command.TheVariants.{Symbol, Rule, Sequence, Start, Precompute, Alternative, Complete, Expected, Report, Trees}
use Rattle.marpa_script.specs.Told.{told}
use Rattle.marpa_script.specs.Machines.{building, reading, ReadsBy, LineReplies}
use Rattle.marpa_script.specs.Written.{Replied, BreaksOff, Nothing, Within, HasPlayed, HasPlayedTo, BreaksOffIn, Answered}
use Rattle.marpa_script.proofs.Writing.{played_next, broken_next, all_played}

-- ---- A REPLY OF ANOTHER KIND

module _ {P Q : Reply → Type 0} (weaker : (reply : Reply) → P reply → Q reply) (after : Machine) (old new : Option (List ℕ)) where
  pub replied_as : Replied P after old new → Replied Q after old new
  replied_as r = record { reply = r.reply; is = weaker r.reply r.is; after_is = r.after_is; appends = r.appends }

  pub broken_as : BreaksOff P old new → BreaksOff Q old new
  broken_as (Nothing none) = Nothing none
  broken_as (Within reply is part) = Within reply (weaker reply is) part

module _ (m : Machine) (reads : m.phase ≡ Reading) where
  pub report_line : (at : ℕ) (reply : Reply) → ReportReplies m at reply → LineReplies m (model.Report at) reply
  report_line at reply is line command = Played (model.Report at) command (sym reads) is

  pub trees_line : (count : ℕ) (reply : Reply) → TreesReply m count reply → LineReplies m (model.Trees count) reply
  trees_line count reply is line command = Played (model.Trees count) command (sym reads) is

pub report_told : (x : Command) (n : ℕ) → told x ≡ model.Report n → x ≡ Report n
report_told (Symbol name) n e = absurd (cc e)
report_told (Rule lhs rhs) n e = absurd (cc e)
report_told (Sequence lhs item plus separator proper) n e = absurd (cc e)
report_told (Start name) n e = absurd (cc e)
report_told Precompute n e = absurd (cc e)
report_told (Alternative name length) n e = absurd (cc e)
report_told Complete n e = absurd (cc e)
report_told Expected n e = absurd (cc e)
report_told (Report at) n e = let same : at ≡ n = cc e in ap Report same
report_told (Trees count) n e = absurd (cc e)

pub trees_told : (x : Command) (n : ℕ) → told x ≡ model.Trees n → x ≡ Trees n
trees_told (Symbol name) n e = absurd (cc e)
trees_told (Rule lhs rhs) n e = absurd (cc e)
trees_told (Sequence lhs item plus separator proper) n e = absurd (cc e)
trees_told (Start name) n e = absurd (cc e)
trees_told Precompute n e = absurd (cc e)
trees_told (Alternative name length) n e = absurd (cc e)
trees_told Complete n e = absurd (cc e)
trees_told Expected n e = absurd (cc e)
trees_told (Report at) n e = absurd (cc e)
trees_told (Trees count) n e = let same : count ≡ n = cc e in ap Trees same

-- ---- READING BEGINS

-- nothing is read yet
module _ (g : Grammar) (flat : FlatGrammar) (r : Recognizer) (is_flat : IsFlattened g flat) (of : r.flat ≡ flat) (start : r.start ≡ 0) (edges : r.edges ≡ []) (sets : length r.sets ≡ 1) where
  at_first : earleme_of r ≡ 0
  at_first = omega (arith, sets)

  pub reads_first : that_reads (building g) ≡ reading g r
  reads_first = λ i. record { grammar = g; phase = Reading; edges = sym edges i; place = sym at_first i }

  pub reads_by : IsChecked g → ReadsBy g r
  reads_by checked = record {
    checked = checked;
    flat = subst (λ (f : FlatGrammar). IsFlatOf f g) (sym of) is_flat.made;
    start = start;
    within = (let first = at_first in omega (arith, first));
  }

  pub played_so : (whole rest : List ℕ) (old new : Option (List ℕ)) → HasPlayedTo whole rest (that_reads (building g)) old new → HasPlayedTo whole rest (reading g r) old new
  played_so whole rest old new played = subst (λ (m : Machine). HasPlayedTo whole rest m old new) reads_first played

-- who reads has a grammar that passes the check
pub checked_by : (whole rest : List ℕ) (g : Grammar) (old new : Option (List ℕ)) → HasPlayedTo whole rest (that_reads (building g)) old new → IsChecked g
checked_by whole rest g old new played = (sound_played played.lines (that_reads (building g)) played.played.answers played.played.plays).checked refl

pub some_top : (g : Grammar) (flat : FlatGrammar) → IsFlattened g flat → IsChecked g → 0 < length flat.tops
some_top g flat is checked = let all = is.made.tops_all in let some = checked.some_start in omega (arith, all, some)

-- ---- WHERE IT ENDS

pub all_answered : (whole rest : List ℕ) (m : Machine) (old new : Option (List ℕ)) → HasPlayedTo whole rest m old new → length rest ≤ 0 → Answered whole old new
all_answered whole rest m old new played none =
    let all = all_played whole rest m old new played none in
    record { answers = all.answers; are = record { machine = m; plays = all.plays }; appends = all.appends }

pub answered_by : (text : List ℕ) (m : Machine) (old new : Option (List ℕ)) → HasPlayed (lines_of text) m old new → Answered text old new
answered_by text m old new all = record { answers = all.answers; are = record { machine = m; plays = all.plays }; appends = all.appends }

-- a prefix of the answers was written, and no more
pub stopped_at : (whole rest : List ℕ) (m : Machine) (old new : Option (List ℕ)) → HasPlayedTo whole rest m old new → BreaksOffIn whole old new
stopped_at whole rest m old new played =
    let (others, all) = played_on played.lines (lines_of rest) played.played.answers
    (record { machine = m; plays = played.played.plays; sound = sound_played played.lines m played.played.answers played.played.plays }) in
    record {
      answers = played.played.answers ++ others;
      are = record { machine = all.machine; plays = subst (λ (ls : List (List ℕ)). Plays ls all.machine (played.played.answers ++ others)) (sym played.cut) all.plays };
      prefix = record {
        bytes = concat played.played.answers;
        rest = concat others;
        split = concat-append played.played.answers others;
        appends = played.played.appends;
      };
    }

-- ---- THE TEXT

pub whole_text : (chars : List ℕ) (n : ℕ) → n ≡ length chars → slice_range chars 0 n ≡ chars
whole_text chars n is = take_all (n - 0) chars (omega (arith, is))

four_bytes : (chars : List ℕ) → length (encode_utf8_all chars) ≤ 4 * length chars
four_bytes [] = omega arith
four_bytes (c ∷ cs) = let rest = four_bytes cs in omega (arith, rest, length-append (encode c) (encode_utf8_all cs), length-encode c, (len_utf8_bounds c).1)

pub few_bytes : (chars text : List ℕ) → text ≡ encode_utf8_all chars → length chars ≤ LONGEST_INPUT → length text ≤ 67108864
few_bytes chars text is few = let four = four_bytes chars in let long = ap length is in omega (arith, four, long, few)
