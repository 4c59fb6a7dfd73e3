-- What is told of a refused grammar is the text of the definition, with the place of its fault.
use Rattle.std.proofs.Common.{◌≡◌, ◌∙◌, ℕ, ◌≤◌, ◌<◌, Bool, List, [], ◌∷◌, ◌++◌, Option, Result, Ok, Err, length, Some, None, IfSome, refl, sym, ap, subst, map, option_map, chars, codes}
use Rattle.std.specs.Prelude.{IfErr}
use Rattle.grammar_model.specs.Grammar.{Grammar}
use Rattle.grammar_model.specs.declared.limits.TheConstants.{LONGEST_GRAMMAR}
use Rattle.grammar_check.specs.declared.refusal.GrammarRefusal.{GrammarRefusal}
use Rattle.prepared_grammars.specs.Faults.{IsSaid}
use Rattle.grammar_check.specs.Message as check
use Rattle.grammar_check.proofs.Saying.{refusal_told}
use Rattle.dsl_faults.specs.Found.{first_of, refused_fault}
use Rattle.dsl_faults.specs.declared.refusal.BuildRefusal.{BuildRefusal}
use Rattle.language_model.specs.Description.{Statement}
use Rattle.language_model.specs.Building.{Built, BuildFault, faults_of}
use Rattle.language_model.specs.Texts.{IsText, HasDescription}
use Rattle.reading_model.specs.Accepted.{Structural, Lexical, TooManyRules, HasGrammarFault}
use Rattle.run_model.specs.Texts.{BadToken, BadStatement, NotUtf8, TooLong, place_text, fault_text}
use Rattle.text_reading.specs.declared.refusal.Place.{Place}
use Rattle.text_reading.specs.declared.refusal.Refusal.{Refusal}
use Rattle.text_reading.specs.declared.refusal.Refusal.TheVariants as told
use Rattle.text_reading.specs.Refusals.{TellsGrammar, IsRefusedAt, place_in, fault_at}
use Rattle.language_model.specs.declared.token.Token.{Token}
use Rattle.language_model.specs.Tokens.{AreTokens, spelled_at}
use Rattle.slif_base.specs.Characters.{RefusesText}
use Rattle.slif_base.specs.declared.chars.TextRefusal.{TextRefusal}
use Rattle.slif_base.specs.declared.chars.TextRefusal.TheVariants.{NotUtf8 as BrokenText}
use Rattle.dsl_tokens.specs.Answer.{Refused as RefusesTokens}
use Rattle.dsl_tokens.specs.declared.reading.TokenRefusal.{TokenRefusal}
use Rattle.dsl_tokens.specs.declared.reading.TokenRefusal.TheVariants.{BadToken as BadSpelling}
use Rattle.dsl_reader.specs.Cutting.{Refuses as RefusesStatements}
use Rattle.dsl_reader.specs.declared.refusal.StatementRefusal.{StatementRefusal}
use Rattle.dsl_reader.specs.declared.refusal.StatementRefusal.TheVariants.{BadStatement as BadPiece}
use Rattle.run_model.specs.Refused.{ByText, ByDescription, ByGrammars, grammar_text}
use Rattle.text_reading.specs.Parts.{IsFaultText, IsBadText, OfTokens, OfStatements, IsBadDescription, OfBuilding, OfGrammars, IsGrammarText}

-- A CHECK

pub structural_text : (b : Built) (w : Grammar) (r : GrammarRefusal) → w ≡ b.g1 → IsSaid b.g1 r (λ m. HasGrammarFault b (Structural m)) → (text : List ℕ)
    → text ≡ codes "grammar: " ++ check.refusal_text w r → IsGrammarText b text
structural_text b w r same said text is = record {
  fault = Structural said.told;
  has = said.fault;
  told = is ∙ ap (λ (g : Grammar). codes "grammar: " ++ check.refusal_text g r) same ∙ ap (λ t. codes "grammar: " ++ t) (refusal_told b.g1 r said.told said.says);
}

pub lexical_text : (b : Built) (w : Grammar) (r : GrammarRefusal) → w ≡ b.l0 → IsSaid b.l0 r (λ m. HasGrammarFault b (Lexical m)) → (text : List ℕ)
    → text ≡ codes "lexical grammar: " ++ check.refusal_text w r → IsGrammarText b text
lexical_text b w r same said text is = record {
  fault = Lexical said.told;
  has = said.fault;
  told = is ∙ ap (λ (g : Grammar). codes "lexical grammar: " ++ check.refusal_text g r) same ∙ ap (λ t. codes "lexical grammar: " ++ t) (refusal_told b.l0 r said.told said.says);
}

pub rules_text : (b : Built) (lexical : Bool) → HasGrammarFault b (TooManyRules lexical) → (text : List ℕ) → text ≡ grammar_text b (TooManyRules lexical) → IsGrammarText b text
rules_text b lexical has text is = record { fault = TooManyRules lexical; has = has; told = is }

-- A DESCRIPTION

cons_of : (faults : List BuildFault) (f : BuildFault) → first_of faults ≡ Some f → (others : List BuildFault) × (faults ≡ f ∷ others)
cons_of [] f e = absurd (cc e)
cons_of (x ∷ xs) f e = (xs, cc e)

module _ (cs : List ℕ) (d : List Statement) (text : List ℕ) (place : Option Place) where
  of_fault : (o : Option BuildFault) → IfSome o (λ f. first_of (faults_of d) ≡ Some f) → IsFaultText cs o text → place ≡ option_map (λ f. place_in cs (fault_at f)) o → IsBadDescription cs d text place
  of_fault None first is at = absurd is
  of_fault (Some f) first is at = let (others, e) = cons_of (faults_of d) f first in OfBuilding f others e is at

  pub bad_description : (r : BuildRefusal) → IfSome (refused_fault r) (λ f. first_of (faults_of d) ≡ Some f) → IsFaultText cs (refused_fault r) text →
      place ≡ option_map (λ f. place_in cs (fault_at f)) (refused_fault r) → IsBadDescription cs d text place
  bad_description r first is at = of_fault (refused_fault r) first is at

-- BYTES

module _ (bytes text : List ℕ) (place : Option Place) where
  pub refused_text : IsText bytes → IsBadText (chars bytes) text place → IsRefusedAt bytes text place
  refused_text is_text (OfTokens at bad is where_is) = record { refused = ByText (BadToken at) (record { text = is_text; bad = bad }) is; place_is = where_is }
  refused_text is_text (OfStatements at tokens are bad is where_is) =
      record { refused = ByText (BadStatement at) (record { tokens = tokens; has = record { text = is_text; are = are }; bad = bad }) is; place_is = where_is }

  pub refused_description : (d : List Statement) → HasDescription bytes d → IsBadDescription (chars bytes) d text place → IsRefusedAt bytes text place
  refused_description d has (OfBuilding fault others e is where_is) = record { refused = ByDescription d has fault others e is; place_is = where_is }
  refused_description d has (OfGrammars b built told where_is) = record { refused = ByGrammars d has b built told.fault told.has told.told; place_is = where_is }

pub tells_weaker : (P Q : List ℕ → Option Place → Type 0) → ((t : List ℕ) (p : Option Place) → P t p → Q t p) → (r : Refusal) → TellsGrammar P r → TellsGrammar Q r
tells_weaker P Q f (told.Grammar text place) tells = f text.items place tells
tells_weaker P Q f (told.Input text place expected) tells = tells
tells_weaker P Q f told.NoMemory tells = tells

pub if_refused : {T : Type 0} (P Q : List ℕ → Option Place → Type 0) → ((t : List ℕ) (p : Option Place) → P t p → Q t p) → (r : Result T Refusal) → IfErr r (TellsGrammar P) → IfErr r (TellsGrammar Q)
if_refused P Q f (Ok x) tells = tells
if_refused P Q f (Err refusal) tells = tells_weaker P Q f refusal tells

-- STEPS

pub refused_bytes : (bytes text : List ℕ) (e : TextRefusal) (at : ℕ) → length bytes ≤ LONGEST_GRAMMAR → e ≡ BrokenText at → RefusesText bytes e → text ≡ fault_text bytes (NotUtf8 at) → IsRefusedAt bytes text None
refused_bytes bytes text e at within is refuses told =
    let broken = subst (RefusesText bytes) is refuses in
    record { refused = ByText (NotUtf8 at) (record { within = within; broken = broken.0; prefix = broken.1 }) told; place_is = refl }

pub bad_token : (cs text : List ℕ) (e : TokenRefusal) (at : ℕ) → e ≡ BadSpelling at → RefusesTokens cs e → text ≡ codes "grammar: bad token at " ++ place_text cs at → IsBadText cs text (Some (place_in cs at))
bad_token cs text e at is refuses told = OfTokens at (subst (RefusesTokens cs) is refuses) told refl

pub bad_statement : (cs : List ℕ) (ts : List Token) (text : List ℕ) (e : StatementRefusal) (at : ℕ) → AreTokens cs ts → e ≡ BadPiece at → RefusesStatements (map (spelled_at cs) ts) e
    → text ≡ codes "grammar: bad statement at " ++ place_text cs at → IsBadText cs text (Some (place_in cs at))
bad_statement cs ts text e at are is refuses told = OfStatements at ts are (subst (RefusesStatements (map (spelled_at cs) ts)) is refuses) told refl

pub too_long : (bytes text : List ℕ) → LONGEST_GRAMMAR < length bytes → text ≡ fault_text bytes TooLong → IsRefusedAt bytes text None
too_long bytes text long told = record { refused = ByText TooLong long told; place_is = refl }
