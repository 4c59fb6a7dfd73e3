-- A script has a list of answers.
use Rattle.std.proofs.Common.{◌≡◌, ◌∙◌, ℕ, suc, ◌<◌, ◌≤◌, ◌++◌, Bool, true, false, nat_lt, List, [], ◌∷◌, Option, Some, None, ◌⊎◌, length, map, take, inl, inr, refl, sym, ap, subst, arith, append_assoc, append-nil}
use Rattle.std.specs.Prelude.{codes, decimal, Contains, ◌↔◌, if◌then◌else◌, option_to_list}
use Rattle.std.specs.List.{list_all}
use Rattle.std.specs.Ordering.{nat_cmp}
use Rattle.std.proofs.lemmas.Bool.{cases_lt}
use Rattle.std.proofs.lemmas.Bool.Decides.{nat_tests}
use Rattle.finite_sets.specs.Decided.{IsDecided}
use Rattle.finite_sets.proofs.Deciding.{both, moved, equal, negated, one_of, less}
use Rattle.finite_sets.proofs.Members.{Among, among_from, contains_from, member, among_values, among_values_from, among_either, values}
use Rattle.finite_sets.proofs.Lists.{get_index, get_pushed}
use Rattle.finite_sets.proofs.Sorting.{sorted_listed}
use Rattle.finite_sets.proofs.Clauses.{nat_cmp-less}
use Rattle.std.specs.declared.cmp.Ordering.TheVariants.{Less}
use Rattle.std.proofs.lemmas.Cmp.{nat_cmp_total}
use Rattle.std.proofs.lemmas.Option.{slice_get-get_or}
use Rattle.grammar_model.specs.declared.Edge.{Edge}
use Rattle.grammar_model.specs.Grammar.{WrittenRule, PlainRule, Plain, Grammar, no_rule}
use Rattle.grammar_model.specs.Derives.{Held}
use Rattle.grammar_model.specs.Checked.{IsChecked}
use Rattle.grammar_model.specs.Values.{name_of}
use Rattle.recognizer_model.specs.View.{plain_rule}
use Rattle.recognizer_model.specs.FewRules.{HasFewRules}
use Rattle.grammar_model.specs.Growth.{has_name, number_of, with_rule, with_start, with_name}
use Rattle.grammar_model.specs.Refusals.{listed, refusal_text}
use Rattle.report_model.specs.Lines.{report_line}
use Rattle.script_model.specs.Commands.{Command, Symbol, Rule, Sequence, Start, Precompute, Alternative, Complete, Expected, Report, Trees, Phase, Building, Reading, IsCommand, phase_of, lines_of}
use Rattle.script_model.specs.Parsing.{command_in}
use Rattle.script_model.specs.Machine.{Machine, blank, start_of, with_grammar, that_reads, with_edge, edge_from, IsExpected}
use Rattle.script_model.specs.Replies.{Reply, Case, says, tells, if_known, longest_rule, tree_line, adds_rule, symbol_reply, rule_reply, sequence_reply, sequence_rule, start_reply, complete_reply, PrecomputeReplies, Refused, TooManyRules, Ready, AlternativeReplies, ExpectedReplies, ReportReplies, TreesReply, CommandReplies, Replies, BadLine, NotNow, Played}
use Rattle.script_model.specs.Script.{Plays, Begins, GoesOn}
use Rattle.script_laws.specs.Laws.{AnswersExist, AnswersGoOn, MachinesAreSound}
use Rattle.script_laws.proofs.One.{one_reply}
use Rattle.grammar_model.specs.declared.Ranking.TheVariants.{Rule as RuleRanks}
use Rattle.grammar_model.specs.declared.limits.TheConstants.{LONGEST_EDGE, MOST_FLAT_RULES}
use Rattle.recognizer_model.specs.declared.ReportLine.{ReportLine}
use Rattle.report_model.specs.Report.{IsReport}
use Rattle.grammar_laws.specs.Laws.{GoForward}
use Rattle.grammar_laws.specs.Lists.{HasShortRules}
use Rattle.grammar_laws.proofs.Checks.{checks_decide}
use Rattle.grammar_laws.proofs.Flats.{rules_are_counted}
use Rattle.grammar_laws.proofs.Acceptance.{acceptable_are_decided}
use Rattle.grammar_laws.proofs.Lists.{flat_form_exists, starts_listed}
use Rattle.report_laws.proofs.Existing.{reports_exist}
use Rattle.script_model.proofs.Parsed.{commands_are_parsed}

-- ---- WHAT IS ALWAYS SO OF THE MACHINE

pub record IsSound (m : Machine) : Type 0 where
  pub short : HasShortRules m.grammar
  pub forward : (e : Edge) → Contains m.edges e → e.from < e.to
  pub checked : m.phase ≡ Reading → IsChecked m.grammar
  pub few : m.phase ≡ Reading → HasFewRules m.grammar

-- some reply, after which the machine is sound
abbrev SomeOf : (Reply → Type 0) → Type 0
SomeOf P = (reply : Reply) × P reply × IsSound reply.after

some_case : {P : Type 0} {A B : Reply → Type 0} → IsDecided P → (P → SomeOf A) → ((P → ⊥) → SomeOf B) → SomeOf (λ r. Case P (A r) (B r))
some_case (inl p) there not = let (r, a, s) = there p in (r, inl (p, a), s)
some_case (inr n) there not = let (r, b, s) = not n in (r, inr (n, b), s)

never_built : (m : Machine) → m.phase ≡ Building → m.phase ≡ Reading → ⊥
never_built m b r = let e : Building ≡ Reading = sym b ∙ r in cc e

pub blank_sound : IsSound blank
blank_sound = record {
  short = λ i rule lt is. absurd (omega (arith, lt));
  forward = λ e c. absurd (among_from [] e c);
  checked = λ e. absurd (cc e);
  few = λ e. absurd (cc e);
}

-- ---- BUILDING

short_more : (g : Grammar) (rule : WrittenRule) → HasShortRules g → ((r : PlainRule) → rule ≡ Plain r → length r.rhs ≤ 1000) → HasShortRules (with_rule g rule)
short_more g rule short one i r lt is = elim (get_pushed g.rules rule i (Plain r) (slice_get-get_or (g.rules ++ rule ∷ []) i no_rule lt ∙ ap Some is)) [
  | inl old ↦ (let (below, at) = get_index g.rules i no_rule (Plain r) old in short i r below at)
  | inr (last, same) ↦ one r same
]

module _ (m : Machine) (sound : IsSound m) where
  unchanged : (text : List ℕ) → SomeOf (λ r. r ≡ says m text)
  unchanged text = (says m text, refl, sound)

  building : m.phase ≡ Building → (g : Grammar) → HasShortRules g → IsSound (with_grammar m g)
  building b g short = record { short = short; forward = sound.forward; checked = λ r. absurd (never_built m b r); few = λ r. absurd (never_built m b r) }

  if_sound : (b : Bool) (x y : Reply) → (b ≡ true → IsSound x.after) → (b ≡ false → IsSound y.after) → IsSound (if b then x else y).after
  if_sound true x y p q = p refl
  if_sound false x y p q = q refl

  known_sound : (names : List (List ℕ)) (x : Reply) → IsSound x.after → IsSound (if_known m names x).after
  known_sound names x s = if_sound (list_all (has_name m.grammar) names) x (says m (codes "bad name")) (λ e. s) (λ e. sound)

  rule_sound : m.phase ≡ Building → (lhs : List ℕ) (rhs : List (List ℕ)) → IsSound (rule_reply m lhs rhs).after
  rule_sound b lhs rhs =
      known_sound (lhs ∷ rhs) _
      (if_sound (nat_lt longest_rule (length rhs)) (says m (codes "too long")) _ (λ e. sound)
      (λ e. building b _ (short_more m.grammar (plain_rule (number_of m.grammar lhs) (map (number_of m.grammar) rhs)) sound.short (λ r is. few_parts e r is))))
    where
      few_parts : nat_lt 1000 (length rhs) ≡ false → (r : PlainRule) → plain_rule (number_of m.grammar lhs) (map (number_of m.grammar) rhs) ≡ Plain r → length r.rhs ≤ 1000
      few_parts e r is =
          let le : length rhs ≤ 1000 = grind (arith, nat_tests, e) in
          let parts : map (number_of m.grammar) rhs ≡ r.rhs = rhs_same is in
          let same = length_of parts in
          omega (arith, le, same)
        where
          rhs_same : plain_rule (number_of m.grammar lhs) (map (number_of m.grammar) rhs) ≡ Plain r → map (number_of m.grammar) rhs ≡ r.rhs
          rhs_same is = ap rhs_in is
            where
              rhs_in : WrittenRule → List ℕ
              rhs_in (Plain r) = r.rhs
              rhs_in _ = []

          length_of : map (number_of m.grammar) rhs ≡ r.rhs → length rhs ≡ length r.rhs
          length_of e = sym (map_length rhs) ∙ ap length e
            where
              map_length : (xs : List (List ℕ)) → length (map (number_of m.grammar) xs) ≡ length xs
              map_length [] = refl
              map_length (x ∷ xs) = ap suc (map_length xs)

  sequence_sound : m.phase ≡ Building → (lhs item : List ℕ) (plus : Bool) (separator : Option (List ℕ)) (proper : Bool) → IsSound (sequence_reply m lhs item plus separator proper).after
  sequence_sound b lhs item plus separator proper =
      let rule = sequence_rule m.grammar lhs item plus separator proper in
      known_sound (lhs ∷ item ∷ option_to_list separator) (adds_rule m rule) (building b (with_rule m.grammar rule) (short_more m.grammar rule sound.short (λ r is. absurd (cc is))))

  start_sound : m.phase ≡ Building → (name : List ℕ) → IsSound (start_reply m name).after
  start_sound b name =
      known_sound (name ∷ []) _
      (if_sound (nat_lt 0 (length m.grammar.starts)) (says m (codes "second start")) _ (λ e. sound) (λ e. building b (with_start m.grammar (number_of m.grammar name)) sound.short))

  complete_sound : IsSound (complete_reply m).after
  complete_sound =
      if_sound _ (says m (codes "last place")) _ (λ e. sound) (λ e. record { short = sound.short; forward = sound.forward; checked = sound.checked; few = sound.few })

nat_three : (x y : ℕ) → (nat_cmp x y ≡ Less) ⊎ ((x ≡ y) ⊎ (nat_cmp y x ≡ Less))
nat_three x y = elim (cases_lt x y) [
  | inl lt ↦ inl (nat_cmp-less x y lt)
  | inr le ↦ elim (cases_lt y x) [ inl gt ↦ inr (inr (nat_cmp-less y x gt)) | inr ge ↦ inr (inl (omega (arith, le, ge))) ]
]

-- ---- READING

same_edge : (x y : Edge) → IsDecided (x ≡ y)
same_edge x y =
    moved (λ h. edges_same h.0 h.1.0 h.1.1) (λ e. (ap (λ (z : Edge). z.symbol) e, (ap (λ (z : Edge). z.from) e, ap (λ (z : Edge). z.to) e)))
    (both (equal x.symbol y.symbol) (both (equal x.from y.from) (equal x.to y.to)))
  where
    edges_same : x.symbol ≡ y.symbol → x.from ≡ y.from → x.to ≡ y.to → x ≡ y
    edges_same a b c = λ i. record { symbol = a i; from = b i; to = c i }

held_decided : (edges : List Edge) (e : Edge) → IsDecided (Contains edges e)
held_decided edges e = moved (contains_from edges e) (among_from edges e) (member same_edge e edges)

-- each place has a report
report_exists : (g : Grammar) (edges : List Edge) (at : ℕ) → IsChecked g → HasFewRules g → HasShortRules g → GoForward (Held edges) → (lines : List ReportLine) × IsReport g edges 0 at lines
report_exists g edges at checked few short forward =
    let (flat, is_flat, form) = flat_form_exists g checked few short in
    reports_exist g flat edges 0 at is_flat form checked forward checked.some_start

module _ (m : Machine) (sound : IsSound m) where
  forward : GoForward (Held m.edges)
  forward symbol from to held = sound.forward (record { symbol = symbol; from = from; to = to }) held

  some_precompute : m.phase ≡ Building → SomeOf (PrecomputeReplies m)
  some_precompute b = elim (checks_decide m.grammar) [
    | inr refused ↦ (says m (refusal_text m.grammar refused.0), Refused refused.0 refused.1 refl, sound)
    | inl checked ↦ by_rules checked
  ]
    where
      by_rules : IsChecked m.grammar → SomeOf (PrecomputeReplies m)
      by_rules checked =
          let (n, counted) = rules_are_counted m.grammar in
          elim (cases_lt MOST_FLAT_RULES n) [
            | inl many ↦ (says m (codes "more than 65536 flat rules"), TooManyRules checked (record { count = n; counted = counted; many = many }) refl, sound)
            | inr few ↦ ready checked (record { count = n; counted = counted; few = few })
          ]
        where
          ready : IsChecked m.grammar → HasFewRules m.grammar → SomeOf (PrecomputeReplies m)
          ready checked few =
              (says (that_reads m) (codes "ready"), Ready checked few refl, record { short = sound.short; forward = sound.forward; checked = λ e. checked; few = λ e. few })

  module _ (now : m.phase ≡ Reading) where
    expected_decided : (s : ℕ) → IsDecided (IsExpected m s)
    expected_decided s = acceptable_are_decided m.grammar m.edges (start_of m) s m.place (sound.checked now) forward

    some_alternative : (name : List ℕ) (n : ℕ) → SomeOf (AlternativeReplies m name n)
    some_alternative name n =
        some_case (moved (λ e. e) (λ e. e) (false_or (has_name m.grammar name))) (λ p. unchanged m sound (codes "bad name"))
        (λ known. some_case (negated (expected_decided symbol)) (λ p. unchanged m sound (codes "unexpected"))
        (λ expected. some_case (held_decided m.edges edge) (λ p. unchanged m sound (codes "duplicate"))
        (λ new. some_case (one_of (equal n 0) (less LONGEST_EDGE n)) (λ p. unchanged m sound (codes "bad length"))
        (λ fits. taken fits))))
      where
        symbol : ℕ
        symbol = number_of m.grammar name

        edge : Edge
        edge = edge_from m symbol n

        false_or : (b : Bool) → IsDecided (b ≡ false)
        false_or true = inr (λ e. cc e)
        false_or false = inl refl

        taken : ((n ≡ 0) ⊎ (LONGEST_EDGE < n) → ⊥) → SomeOf (λ r. r ≡ says (with_edge m edge) (codes "taken"))
        taken fits = (says (with_edge m edge) (codes "taken"), refl, record { short = sound.short; forward = more; checked = sound.checked; few = sound.few })
          where
            some : 0 < n
            some = elim (cases_lt 0 n) [ inl lt ↦ lt | inr le ↦ absurd (fits (inl (omega (arith, le)))) ]

            more : (e : Edge) → Contains (m.edges ++ edge ∷ []) e → e.from < e.to
            more e c = elim (pushed (among_from (m.edges ++ edge ∷ []) e c)) [
              | inl old ↦ sound.forward e (contains_from m.edges e old)
              | inr same ↦ subst (λ (z : Edge). z.from < z.to) same (let lt = some in omega (arith, lt))
            ]
              where
                pushed : Among e (m.edges ++ edge ∷ []) → Among e m.edges ⊎ (edge ≡ e)
                pushed a = elim (among_either e m.edges (edge ∷ []) a) [ inl x ↦ inl x | inr y ↦ elim y [ inl z ↦ inr z | inr z ↦ absurd z ] ]

    some_expected : SomeOf (ExpectedReplies m)
    some_expected =
        let (ys, (s, is, all)) = sorted_listed nat_cmp (λ x. Unit {0}) (λ x y a b. nat_three x y) nat_cmp_total.trans (λ s. IsExpected m s)
        (values (λ k. k) (length m.grammar.names)) (λ x a. tt) (λ x a. expected_decided x) in
        (says m (listed (map (name_of m.grammar) ys)), record { symbols = ys; order = s; exact = exact ys is all; is = refl }, sound)
      where
        exact : (ys : List ℕ) → ((x : ℕ) → Among x ys → Among x (values (λ k. k) (length m.grammar.names)) × IsExpected m x) →
            ((x : ℕ) → Among x (values (λ k. k) (length m.grammar.names)) → IsExpected m x → Among x ys) → (s : ℕ) → Contains ys s ↔ ((s < length m.grammar.names) × IsExpected m s)
        exact ys is all s = (
          λ c. (let (known, expected) = is s (among_from ys s c) in let (k, lt, e) = among_values_from (λ k. k) (length m.grammar.names) s known in (subst (λ n. n < length m.grammar.names) e lt, expected)),
          λ (lt, expected). contains_from ys s (all s (among_values (λ k. k) (length m.grammar.names) s lt) expected),
        )

    some_report : (at : ℕ) → SomeOf (ReportReplies m at)
    some_report at =
        some_case (less m.place at) (λ p. unchanged m sound (codes "no set " ++ decimal at))
        (λ within. let (lines, are) = report_exists m.grammar m.edges at (sound.checked now) (sound.few now) sound.short forward in
        (tells m (map (report_line m.grammar at) lines) (codes "reported " ++ decimal (length lines)), record { lines = lines; are = are; is = refl }, sound))

    some_trees : (count : ℕ) → SomeOf (TreesReply m count)
    some_trees count =
        let (trees, all) = starts_listed m.grammar RuleRanks m.edges 0 m.place (sound.checked now) (sound.few now) sound.short forward in
        (tells m (map (tree_line m.grammar) (take count trees)) (codes "trees " ++ decimal (length (take count trees))), record { trees = trees; all = all; is = refl }, sound)

    some_reading : (c : Command) → phase_of c ≡ Reading → SomeOf (CommandReplies m c)
    some_reading (Symbol name) e = absurd (cc e)
    some_reading (Rule lhs rhs) e = absurd (cc e)
    some_reading (Sequence lhs item plus separator proper) e = absurd (cc e)
    some_reading (Start name) e = absurd (cc e)
    some_reading Precompute e = absurd (cc e)
    some_reading (Alternative name n) e = some_alternative name n
    some_reading Complete e = (complete_reply m, refl, complete_sound m sound)
    some_reading Expected e = some_expected
    some_reading (Report at) e = some_report at
    some_reading (Trees count) e = some_trees count

  module _ (now : m.phase ≡ Building) where
    some_building : (c : Command) → phase_of c ≡ Building → SomeOf (CommandReplies m c)
    some_building (Symbol name) e = (symbol_reply m name, refl, building m sound now (with_name m.grammar name) sound.short)
    some_building (Rule lhs rhs) e = (rule_reply m lhs rhs, refl, rule_sound m sound now lhs rhs)
    some_building (Sequence lhs item plus separator proper) e = (sequence_reply m lhs item plus separator proper, refl, sequence_sound m sound now lhs item plus separator proper)
    some_building (Start name) e = (start_reply m name, refl, start_sound m sound now name)
    some_building Precompute e = some_precompute now
    some_building (Alternative name n) e = absurd (cc e)
    some_building Complete e = absurd (cc e)
    some_building Expected e = absurd (cc e)
    some_building (Report at) e = absurd (cc e)
    some_building (Trees count) e = absurd (cc e)

  some_now : (c : Command) (p : Phase) → phase_of c ≡ p → m.phase ≡ p → SomeOf (CommandReplies m c)
  some_now c Building e now = some_building now c e
  some_now c Reading e now = some_reading now c e

  same_phase : (p q : Phase) → IsDecided (p ≡ q)
  same_phase Building Building = inl refl
  same_phase Building Reading = inr (λ e. cc e)
  same_phase Reading Building = inr (λ e. cc e)
  same_phase Reading Reading = inl refl

  pub some_reply : (line : List ℕ) → SomeOf (Replies m line)
  some_reply line = by (command_in line) refl
    where
      of_command : (c : Command) → IsCommand line c → SomeOf (Replies m line)
      of_command c is = elim (same_phase (phase_of c) m.phase) [
        | inl now ↦ (let (r, replies, s) = some_now c m.phase now refl in (r, Played c is now replies, s))
        | inr later ↦ (says m (codes "not now"), NotNow c is later refl, sound)
      ]

      by : (o : Option Command) → command_in line ≡ o → SomeOf (Replies m line)
      by None e = (says m (codes "bad line"), BadLine (λ c is. let never : None ≡ Some c = sym e ∙ (commands_are_parsed line c).1 is in absurd (cc never)) refl, sound)
      by (Some c) e = of_command c ((commands_are_parsed line c).0 e)

-- ---- RUNS

-- the lines were played, with these answers, and the machine is sound
pub record ArePlayed (lines answers : List (List ℕ)) : Type 0 where
  pub machine : Machine
  pub plays : Plays lines machine answers
  pub sound : IsSound machine

pub none_played : ArePlayed [] []
none_played = record { machine = blank; plays = Begins; sound = blank_sound }

-- whatever lines follow those that were played, they are answered, and those before as they were
pub played_on : (lines more answers : List (List ℕ)) → ArePlayed lines answers → (rest : List (List ℕ)) × ArePlayed (lines ++ more) (answers ++ rest)
played_on lines [] answers p = ([], subst (λ ls. ArePlayed ls (answers ++ [])) (sym (append-nil lines)) (subst (ArePlayed lines) (sym (append-nil answers)) p))
played_on lines (line ∷ more) answers p =
    let (reply, replies, s) = some_reply p.machine p.sound line in
    let next : ArePlayed (lines ++ line ∷ []) (answers ++ reply.lines) = record { machine = reply.after; plays = GoesOn line reply p.plays replies; sound = s } in
    let (rest, all) = played_on (lines ++ line ∷ []) more (answers ++ reply.lines) next in (
      reply.lines ++ rest,
      subst (λ ls. ArePlayed ls (answers ++ (reply.lines ++ rest))) (append_assoc lines (line ∷ []) more)
          (subst (ArePlayed ((lines ++ line ∷ []) ++ more)) (append_assoc answers reply.lines rest) all),
    )

pub answers_exist : AnswersExist
answers_exist text =
    let (answers, all) = played_on [] (lines_of text) [] none_played in
    (answers, record { machine = all.machine; plays = all.plays })

-- ---- WHAT IS SO OF EACH MACHINE THAT PLAYS

-- whatever a sound machine replies, it is sound after it
pub sound_after : (m : Machine) → IsSound m → (line : List ℕ) (reply : Reply) → Replies m line reply → IsSound reply.after
sound_after m sound line reply replies =
    let (other, is, s) = some_reply m sound line in
    subst (λ (r : Reply). IsSound r.after) (one_reply m line other reply is replies) s

pub sound_played : (lines : List (List ℕ)) (m : Machine) (answers : List (List ℕ)) → Plays lines m answers → IsSound m
sound_played _ _ _ Begins = blank_sound
sound_played _ _ _ (GoesOn {lines = lines} {m = m} {answers = answers} line reply before replies) = sound_after m (sound_played lines m answers before) line reply replies

pub machines_are_sound : MachinesAreSound
machines_are_sound lines m answers plays reads = let s = sound_played lines m answers plays in (s.checked reads, s.few reads)

pub answers_go_on : AnswersGoOn
answers_go_on lines more m answers plays =
    let (rest, all) = played_on lines more answers (record { machine = m; plays = plays; sound = sound_played lines m answers plays }) in
    (rest, (all.machine, all.plays))
