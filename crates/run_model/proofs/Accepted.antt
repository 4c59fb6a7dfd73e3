-- Bytes are accepted or refused, in one way, also for a job that is given names.
use Rattle.std.proofs.Common.{◌≡◌, ℕ, List, ◌⊎◌, inl, inr, refl, sym, ap, subst, ◌∙◌, chars, [], ◌∷◌, ◌++◌, codes, arith}
use Rattle.language_model.specs.Description.{Statement}
use Rattle.language_model.specs.Building.{Built, BuildFault, faults_of, built_of}
use Rattle.language_model.specs.Texts.{HasDescription, IsBuiltOf}
use Rattle.reading_model.specs.Accepted.{IsAccepted, GrammarFault, HasGrammarFault}
use Rattle.reading_model.proofs.Accepting.{no_fault, one_fault, accepted_or_fault}
use Rattle.run_model.specs.Texts.{fault_text}
use Rattle.run_model.specs.Refused.{Accepted, IsRefused, ByText, ByDescription, ByGrammars, build_text, grammar_text}
use Rattle.reading_model.specs.First.{IsFirstWith}
use Rattle.reading_model.proofs.One.{one_first, contains_first}
use Rattle.run_model.specs.Given.{NamesLexeme, NamesNoLexeme, AcceptedFor, IsRefusedFor, ForGrammar, ForName, unnamed_text}
use Rattle.run_model.specs.Laws.{NoNamesAskNothing}
use Rattle.run_model.proofs.Given.{all_or_first, all_at, all_none}
use Rattle.run_model.proofs.Texts.{GrammarLaws}

-- ONE OF EACH

module _ (laws : GrammarLaws) (bytes : List ℕ) where
  same_built : (d e : List Statement) (a b : Built) → HasDescription bytes d → HasDescription bytes e → IsBuiltOf d a → IsBuiltOf e b → a ≡ b
  same_built d e a b has_d has_e p q = p.is ∙ ap built_of (laws.texts.one_description bytes d e has_d has_e) ∙ sym q.is

  pub one_built : (a b : Built) → Accepted bytes a → Accepted bytes b → a ≡ b
  one_built a b p q = same_built p.description q.description a b p.has q.has p.built q.built

  one_of_grammars : (a b : Built) (x y : GrammarFault) → a ≡ b → HasGrammarFault a x → HasGrammarFault b y → grammar_text a x ≡ grammar_text b y
  one_of_grammars a b x y same p q =
      let here : HasGrammarFault a y = subst (λ (c : Built). HasGrammarFault c y) (sym same) q in
      ap (grammar_text a) (one_fault laws.checks a x y p here) ∙ ap (λ (c : Built). grammar_text c y) same

  pub one_refused : (t u : List ℕ) → IsRefused bytes t → IsRefused bytes u → t ≡ u
  one_refused t u (ByText f has is) (ByText f' has' is') = is ∙ ap (fault_text bytes) (laws.texts.one_fault bytes f f' has has') ∙ sym is'
  one_refused t u (ByText f has is) (ByDescription d has' fault others faults is') = absurd (laws.texts.not_both bytes d f has' has)
  one_refused t u (ByText f has is) (ByGrammars d has' b built fault faulty is') = absurd (laws.texts.not_both bytes d f has' has)
  one_refused t u (ByDescription d has fault others faults is) (ByText f has' is') = absurd (laws.texts.not_both bytes d f has has')
  one_refused t u (ByGrammars d has b built fault faulty is) (ByText f has' is') = absurd (laws.texts.not_both bytes d f has has')
  one_refused t u (ByDescription d has fault others faults is) (ByDescription d' has' fault' others' faults' is') =
      let same : fault ∷ others ≡ fault' ∷ others' = sym faults ∙ ap faults_of (laws.texts.one_description bytes d d' has has') ∙ faults' in
      let first : fault ≡ fault' = cc same in
      is ∙ ap (λ (f : BuildFault). codes "grammar: " ++ build_text (chars bytes) f) first ∙ sym is'
  one_refused t u (ByDescription d has fault others faults is) (ByGrammars d' has' b built fault' faulty is') =
      let none : fault ∷ others ≡ [] = sym faults ∙ ap faults_of (laws.texts.one_description bytes d d' has has') ∙ built.faultless in absurd (cc none)
  one_refused t u (ByGrammars d has b built fault faulty is) (ByDescription d' has' fault' others faults is') =
      let none : fault' ∷ others ≡ [] = sym faults ∙ ap faults_of (laws.texts.one_description bytes d' d has' has) ∙ built.faultless in absurd (cc none)
  one_refused t u (ByGrammars d has b built fault faulty is) (ByGrammars d' has' b' built' fault' faulty' is') =
      is ∙ one_of_grammars b b' fault fault' (same_built d d' b b' has has' built built') faulty faulty' ∙ sym is'

  pub not_refused : (b : Built) (t : List ℕ) → Accepted bytes b → IsRefused bytes t → ⊥
  not_refused b t accepted (ByText f has is) = laws.texts.not_both bytes accepted.description f accepted.has has
  not_refused b t accepted (ByDescription d has fault others faults is) =
      let none : fault ∷ others ≡ [] = sym faults ∙ ap faults_of (laws.texts.one_description bytes d accepted.description has accepted.has) ∙ accepted.built.faultless in absurd (cc none)
  not_refused b t accepted (ByGrammars d has c built fault faulty is) =
      let same = same_built accepted.description d b c accepted.has has accepted.built built in
      no_fault laws.checks c fault (subst IsAccepted same accepted.accepted) faulty

  -- SOME OF ALL

  abbrev Judged : Type 0
  Judged = ((b : Built) × Accepted bytes b) ⊎ ((t : List ℕ) × IsRefused bytes t)

  of_faults : (d : List Statement) → HasDescription bytes d → (faults : List BuildFault) → faults_of d ≡ faults → Judged
  of_faults d has (fault ∷ others) e = inr (codes "grammar: " ++ build_text (chars bytes) fault, ByDescription d has fault others e refl)
  of_faults d has [] e =
      let built : IsBuiltOf d (built_of d) = record { described = (bytes, has); faultless = e; is = refl } in
      elim (accepted_or_fault laws.checks (built_of d)) [
        | inl accepted ↦ inl (built_of d, record { description = d; has = has; built = built; accepted = accepted })
        | inr fault ↦ inr (grammar_text (built_of d) fault.0, ByGrammars d has (built_of d) built fault.0 fault.1 refl)
      ]

  pub judged : Judged
  judged = elim (laws.texts.read bytes) [
    | inl some ↦ of_faults some.0 some.1 (faults_of some.0) refl
    | inr fault ↦ inr (fault_text bytes fault.0, ByText fault.0 fault.1 refl)
  ]

  -- FOR A JOB THAT IS GIVEN NAMES

  module _ (names : List (List ℕ)) where
    pub one_built_for : (a b : Built) → AcceptedFor names bytes a → AcceptedFor names bytes b → a ≡ b
    one_built_for a b p q = one_built a b p.accepted q.accepted

    pub one_refused_for : (t u : List ℕ) → IsRefusedFor names bytes t → IsRefusedFor names bytes u → t ≡ u
    one_refused_for t u (ForGrammar p) (ForGrammar q) = one_refused t u p q
    one_refused_for t u (ForGrammar p) (ForName b accepted name first is) = absurd (not_refused b t accepted p)
    one_refused_for t u (ForName b accepted name first is) (ForGrammar q) = absurd (not_refused b u accepted q)
    one_refused_for t u (ForName a accepted name first is) (ForName b accepted' name' first' is') =
        let here = subst (λ (c : Built). IsFirstWith (NamesNoLexeme c) names name') (sym (one_built a b accepted accepted')) first' in
        is ∙ ap unnamed_text (one_first (NamesNoLexeme a) names name name' first here) ∙ sym is'

    pub not_refused_for : (b : Built) (t : List ℕ) → AcceptedFor names bytes b → IsRefusedFor names bytes t → ⊥
    not_refused_for b t p (ForGrammar q) = not_refused b t p.accepted q
    not_refused_for b t p (ForName c accepted name first is) =
        let here = subst (λ (k : Built). IsFirstWith (NamesNoLexeme k) names name) (sym (one_built b c p.accepted accepted)) first in
        here.has (all_at (NamesLexeme b) names name p.lexemes (contains_first here))

    abbrev JudgedFor : Type 0
    JudgedFor = ((b : Built) × AcceptedFor names bytes b) ⊎ ((t : List ℕ) × IsRefusedFor names bytes t)

    of_accepted : (b : Built) → Accepted bytes b → JudgedFor
    of_accepted b accepted = elim (all_or_first b names) [
      | inl all ↦ inl (b, record { accepted = accepted; lexemes = all })
      | inr (name, first) ↦ inr (unnamed_text name, ForName b accepted name first refl)
    ]

    pub judged_for : JudgedFor
    judged_for = elim judged [ inl (b, accepted) ↦ of_accepted b accepted | inr (t, is) ↦ inr (t, ForGrammar is) ]

-- WITH NO NAMES

pub for_none : (bytes : List ℕ) (b : Built) → Accepted bytes b → AcceptedFor [] bytes b
for_none bytes b accepted = record { accepted = accepted; lexemes = all_none (NamesLexeme b) }

refused_by_itself : (bytes text : List ℕ) → IsRefusedFor [] bytes text → IsRefused bytes text
refused_by_itself bytes text (ForGrammar is) = is
refused_by_itself bytes text (ForName b accepted name first is) = let (k, lt, e) = contains_first first in absurd (omega (arith, lt))

pub no_names_ask_nothing : NoNamesAskNothing
no_names_ask_nothing = record {
  accepted = λ bytes b. (λ p. p.accepted, for_none bytes b);
  refused = λ bytes text. (refused_by_itself bytes text, λ p. ForGrammar p);
}
