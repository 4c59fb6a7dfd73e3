-- A script has one list of answers at most.
use Rattle.std.proofs.Common.{◌≡◌, ◌∙◌, ℕ, ◌<◌, ◌++◌, List, [], ◌∷◌, Some, length, map, take, inl, inr, refl, sym, ap, subst, arith}
use Rattle.std.specs.Prelude.{codes, decimal}
use Rattle.std.specs.Ordering.{nat_cmp}
use Rattle.std.specs.declared.cmp.Ordering.TheVariants.{Less}
use Rattle.finite_sets.proofs.Members.{among_from, contains_from}
use Rattle.grammar_model.proofs.Lists.{one_sorted}
use Rattle.grammar_model.proofs.ChosenOnce.{chosen_unique}
use Rattle.grammar_model.specs.Grammar.{Grammar, slot_of}
use Rattle.grammar_model.specs.Checked.{Refusal}
use Rattle.grammar_model.specs.Trees.{Tree}
use Rattle.grammar_model.specs.Derives.{Held}
use Rattle.grammar_model.specs.Values.{name_of}
use Rattle.grammar_model.specs.declared.Ranking.TheVariants.{Rule as RuleRanks}
use Rattle.recognizer_model.specs.declared.ReportLine.{ReportLine}
use Rattle.recognizer_model.proofs.Counting.{one_count}
use Rattle.recognizer_model.specs.FlatForm.{IsRuleOf}
use Rattle.recognizer_model.specs.FewRules.{HasFewRules, HasTooManyRules}
use Rattle.grammar_model.specs.Refusals.{listed, refusal_text}
use Rattle.report_model.specs.Lines.{report_line}
use Rattle.script_model.specs.Commands.{Command, Symbol, Rule, Sequence, Start, Precompute, Alternative, Complete, Expected, Report, Trees, IsCommand, phase_of}
use Rattle.script_model.specs.Machine.{Machine, start_of}
use Rattle.script_model.specs.Replies.{Reply, Case, says, tells, tree_line, PrecomputeReplies, Refused, TooManyRules, Ready, AlternativeReplies, ExpectedReplies, ReportReplies, TreesReply, CommandReplies, Replies, BadLine, NotNow, Played}
use Rattle.script_model.specs.Script.{Plays, Begins, GoesOn}
use Rattle.script_laws.specs.Laws.{AnswersAreOne}
use Rattle.grammar_check.proofs.Uniqueness.{not_refused, one_refusal}
use Rattle.report_laws.proofs.One.{report_is_one}
use Rattle.script_model.proofs.Parsed.{commands_are_parsed}

pub command_is_one : (line : List ℕ) (c d : Command) → IsCommand line c → IsCommand line d → c ≡ d
command_is_one line c d p q =
    let same : Some c ≡ Some d = sym ((commands_are_parsed line c).1 p) ∙ (commands_are_parsed line d).1 q in cc same

one_case : {P A B C D E : Type 0} → (A → C → E) → (B → D → E) → Case P A B → Case P C D → E
one_case f g (inl p) (inl q) = f p.1 q.1
one_case f g (inl p) (inr q) = absurd (q.0 p.0)
one_case f g (inr p) (inl q) = absurd (p.0 q.0)
one_case f g (inr p) (inr q) = g p.1 q.1

few_or_many : (g : Grammar) → HasFewRules g → HasTooManyRules g → ⊥
few_or_many g few many = let same = one_count (IsRuleOf g) few.count many.count few.counted many.counted in omega (arith, same, few.few, many.many)

never_both : (x y : ℕ) → nat_cmp x y ≡ Less → nat_cmp y x ≡ Less → ⊥
never_both x y a b = absurd (omega (arith, less x y a, less y x b))
  where
    less : (x y : ℕ) → nat_cmp x y ≡ Less → x < y
    less x y e = grind (arith, e)

module _ (m : Machine) where
  both_are : (z x y : Reply) → x ≡ z → y ≡ z → x ≡ y
  both_are z x y p q = p ∙ sym q

  one_precompute : (x y : Reply) → PrecomputeReplies m x → PrecomputeReplies m y → x ≡ y
  one_precompute x y (Refused r f is) (Refused s g is') = is ∙ ap (λ (t : Refusal). says m (refusal_text m.grammar t)) (one_refusal m.grammar r s f g) ∙ sym is'
  one_precompute x y (Refused r f is) (TooManyRules checked many is') = absurd (not_refused m.grammar r checked f)
  one_precompute x y (Refused r f is) (Ready checked few is') = absurd (not_refused m.grammar r checked f)
  one_precompute x y (TooManyRules checked many is) (Refused s g is') = absurd (not_refused m.grammar s checked g)
  one_precompute x y (TooManyRules checked many is) (TooManyRules checked' many' is') = is ∙ sym is'
  one_precompute x y (TooManyRules checked many is) (Ready checked' few is') = absurd (few_or_many m.grammar few many)
  one_precompute x y (Ready checked few is) (Refused s g is') = absurd (not_refused m.grammar s checked g)
  one_precompute x y (Ready checked few is) (TooManyRules checked' many is') = absurd (few_or_many m.grammar few many)
  one_precompute x y (Ready checked few is) (Ready checked' few' is') = is ∙ sym is'

  one_alternative : (name : List ℕ) (n : ℕ) (x y : Reply) → AlternativeReplies m name n x → AlternativeReplies m name n y → x ≡ y
  one_alternative name n x y p q =
      one_case (both_are _ x y) (one_case (both_are _ x y) (one_case (both_are _ x y) (one_case (both_are _ x y) (both_are _ x y)))) p q

  one_expected : (x y : Reply) → ExpectedReplies m x → ExpectedReplies m y → x ≡ y
  one_expected x y p q =
      let same : p.symbols ≡ q.symbols = one_sorted nat_cmp never_both p.symbols q.symbols p.order q.order
      (λ s a. among_from q.symbols s ((q.exact s).1 ((p.exact s).0 (contains_from p.symbols s a))))
      (λ s a. among_from p.symbols s ((p.exact s).1 ((q.exact s).0 (contains_from q.symbols s a)))) in
      p.is ∙ ap (λ (ss : List ℕ). says m (listed (map (name_of m.grammar) ss))) same ∙ sym q.is

  one_report : (at : ℕ) (x y : Reply) → ReportReplies m at x → ReportReplies m at y → x ≡ y
  one_report at x y p q =
      one_case (both_are _ x y) (λ a b. a.is ∙ ap (λ (ls : List ReportLine). tells m (map (report_line m.grammar at) ls) (codes "reported " ++ decimal (length ls)))
      (report_is_one m.grammar m.edges 0 at a.lines b.lines a.are b.are) ∙ sym b.is) p q

  one_trees : (count : ℕ) (x y : Reply) → TreesReply m count x → TreesReply m count y → x ≡ y
  one_trees count x y p q =
      p.is ∙ ap (λ (ts : List Tree). tells m (map (tree_line m.grammar) (take count ts)) (codes "trees " ++ decimal (length (take count ts))))
      (chosen_unique m.grammar (Held m.edges) RuleRanks (slot_of (start_of m)) 0 m.place p.trees q.trees p.all q.all) ∙ sym q.is

  one_of_command : (c : Command) (x y : Reply) → CommandReplies m c x → CommandReplies m c y → x ≡ y
  one_of_command (Symbol name) x y p q = p ∙ sym q
  one_of_command (Rule lhs rhs) x y p q = p ∙ sym q
  one_of_command (Sequence lhs item plus separator proper) x y p q = p ∙ sym q
  one_of_command (Start name) x y p q = p ∙ sym q
  one_of_command Precompute x y p q = one_precompute x y p q
  one_of_command (Alternative name n) x y p q = one_alternative name n x y p q
  one_of_command Complete x y p q = p ∙ sym q
  one_of_command Expected x y p q = one_expected x y p q
  one_of_command (Report at) x y p q = one_report at x y p q
  one_of_command (Trees count) x y p q = one_trees count x y p q

  pub one_reply : (line : List ℕ) (x y : Reply) → Replies m line x → Replies m line y → x ≡ y
  one_reply line x y (BadLine none is) (BadLine none' is') = is ∙ sym is'
  one_reply line x y (BadLine none is) (NotNow c command later is') = absurd (none c command)
  one_reply line x y (BadLine none is) (Played c command now is') = absurd (none c command)
  one_reply line x y (NotNow c command later is) (BadLine none is') = absurd (none c command)
  one_reply line x y (NotNow c command later is) (NotNow d command' later' is') = is ∙ sym is'
  one_reply line x y (NotNow c command later is) (Played d command' now is') =
      absurd (later (subst (λ (e : Command). phase_of e ≡ m.phase) (command_is_one line d c command' command) now))
  one_reply line x y (Played c command now is) (BadLine none is') = absurd (none c command)
  one_reply line x y (Played c command now is) (NotNow d command' later is') =
      absurd (later (subst (λ (e : Command). phase_of e ≡ m.phase) (command_is_one line c d command command') now))
  one_reply line x y (Played c command now is) (Played d command' now' is') =
      one_of_command c x y is (subst (λ (e : Command). CommandReplies m e y) (command_is_one line d c command' command) is')

-- ---- RUNS

snoc_none : (xs : List (List ℕ)) (x : List ℕ) → xs ++ x ∷ [] ≡ [] → ⊥
snoc_none [] x e = cc e
snoc_none (y ∷ xs) x e = cc e

snoc_same : (xs ys : List (List ℕ)) (x y : List ℕ) → xs ++ x ∷ [] ≡ ys ++ y ∷ [] → (xs ≡ ys) × (x ≡ y)
snoc_same [] [] x y e = (refl, cc e)
snoc_same [] (b ∷ ys) x y e = let none : [] ≡ ys ++ y ∷ [] = cc e in absurd (snoc_none ys y (sym none))
snoc_same (a ∷ xs) [] x y e = let none : xs ++ x ∷ [] ≡ [] = cc e in absurd (snoc_none xs x none)
snoc_same (a ∷ xs) (b ∷ ys) x y e =
    let first : a ≡ b = cc e in
    let rest : xs ++ x ∷ [] ≡ ys ++ y ∷ [] = cc e in
    let r = snoc_same xs ys x y rest in
    let l = r.0 in
    (cc (first, l), r.1)

one_run : (xs ys : List (List ℕ)) (m n : Machine) (us vs : List (List ℕ)) → Plays xs m us → Plays ys n vs → xs ≡ ys → (m ≡ n) × (us ≡ vs)
one_run _ _ _ _ _ _ Begins Begins e = (refl, refl)
one_run _ _ _ _ _ _ Begins (GoesOn {lines = ys} line reply before replies) e = absurd (snoc_none ys line (sym e))
one_run _ _ _ _ _ _ (GoesOn {lines = xs} line reply before replies) Begins e = absurd (snoc_none xs line e)
one_run _ _ _ _ _ _ (GoesOn {lines = xs} {m = m} {answers = us} line reply before replies) (GoesOn {lines = ys} {m = n} {answers = vs} line' reply' before' replies') e =
    let (lines, same_line) = snoc_same xs ys line line' e in
    let (machine, answers) = one_run xs ys m n us vs before before' lines in
    let there : Replies m line reply' = subst (λ (k : Machine). Replies k line reply') (sym machine) (subst (λ (l : List ℕ). Replies n l reply') (sym same_line) replies') in
    let same : reply ≡ reply' = one_reply m line reply reply' replies there in
    (ap (λ (r : Reply). r.after) same, ap (λ (zs : List (List ℕ)). zs ++ reply.lines) answers ∙ ap (λ (r : Reply). vs ++ r.lines) same)

pub answers_are_one : AnswersAreOne
answers_are_one text xs ys p q = (one_run _ _ p.machine q.machine xs ys p.plays q.plays refl).1
