-- The first rules that null their symbols, as they are found.
use Rattle.std.proofs.Common.{◌≡◌, ◌≢◌, ℕ, ◌+◌, ◌<◌, Bool, true, false, ◌&&◌, Option, Some, None, List, length, get_or, set, ◌⊎◌, inl, inr, sym, ap, ◌∙◌, subst, arith, replicate}
use Rattle.std.proofs.lemmas.Bool.{eq-eqb, ne_eqb, cases_eq}
use Rattle.std.proofs.lemmas.List.{get_or-set_same, get_or-set_other, get_or-replicate, length-replicate, length-set, get_or_default}
use borrow.Author.Count.{below_more}
use Rattle.grammar_model.specs.Grammar.{Grammar, WrittenRule, lhs_of, rule_at}
use Rattle.grammar_model.specs.Values.{is_nulling, nulled_action}
use Rattle.value_text.specs.declared.meaning.Meaning.{Meaning as MeaningCode}
use Rattle.value_text.specs.declared.meaning.RuleMeaning.{RuleMeaning as RuleMeaningCode}
use Rattle.value_text.specs.Meaning.{meaning_of, action_of}
use Rattle.valuator.specs.Nulling.{nulls_symbol, IsFirst, AreFirst, first_with}
use Rattle.valuator.proofs.Played.{nulled_found, nulled_none}

-- a rule that does not null the symbol
first_past : (g : Grammar) (s n : ℕ) (o : Option ℕ) → nulls_symbol s (rule_at g n) ≡ false → IsFirst g s n o → IsFirst g s (n + 1) o
first_past g s n None other f = below_more (λ j. nulls_symbol s (rule_at g j) ≡ false) n f other
first_past g s n (Some i) other f = (omega (arith, f.0), f.1, f.2)

first_own : (g : Grammar) (s n : ℕ) (o : Option ℕ) (b : Bool) → lhs_of (rule_at g n) ≡ s → is_nulling (rule_at g n) ≡ b → IsFirst g s n o → IsFirst g s (n + 1) (first_with o b n)
first_own g s n (Some i) b l e f = (omega (arith, f.0), f.1, f.2)
first_own g s n None true l e f = (omega arith, f, (λ i. eq-eqb (lhs_of (rule_at g n)) s l i && e i))
first_own g s n None false l e f = first_past g s n None ((λ i. eq-eqb (lhs_of (rule_at g n)) s l i && e i)) f

first_other : (g : Grammar) (s n : ℕ) → s ≢ lhs_of (rule_at g n) → nulls_symbol s (rule_at g n) ≡ false
first_other g s n ne = ap (λ b. b && is_nulling (rule_at g n)) (ne_eqb (lhs_of (rule_at g n)) s (λ e. ne (sym e)))

pub none_first : (g : Grammar) (n : ℕ) → n ≡ length g.names → AreFirst g 0 (replicate n None)
none_first g n e = (length-replicate n None ∙ e, λ s b. subst (IsFirst g s 0) (sym (get_or-replicate n s None None (omega (arith, e, b)))) (λ j l. absurd (omega arith)))

pub more_first : (g : Grammar) (n symbol : ℕ) (rule : WrittenRule) (rules : List (Option ℕ)) (known : Option ℕ) → rule ≡ rule_at g n → symbol ≡ lhs_of (rule_at g n) → symbol < length rules →
    known ≡ get_or rules symbol known → AreFirst g n rules → AreFirst g (n + 1) (set rules symbol (first_with known (is_nulling rule) n))
more_first g n symbol rule rules known read l inside at f = (length-set rules symbol entry ∙ f.0, each)
  where
    entry : Option ℕ
    entry = first_with known (is_nulling rule) n

    same : rule_at g n ≡ rule
    same = sym read

    each : (s : ℕ) → s < length g.names → IsFirst g s (n + 1) (get_or (set rules symbol entry) s None)
    each s b = pick (cases_eq s symbol)
      where
        pick : (s ≡ symbol) ⊎ (s ≡ symbol → ⊥) → IsFirst g s (n + 1) (get_or (set rules symbol entry) s None)
        pick (inl e) =
            let own : lhs_of (rule_at g n) ≡ s = sym l ∙ sym e in
            let held : get_or rules s None ≡ known = ap (λ k. get_or rules k None) e ∙ get_or_default rules symbol None known inside ∙ sym at in
            subst (IsFirst g s (n + 1)) (sym (ap (λ k. get_or (set rules symbol entry) k None) e ∙ get_or-set_same rules symbol entry None inside))
            (first_own g s n known (is_nulling rule) own (ap is_nulling same) (subst (IsFirst g s n) held (f.1 s b)))
        pick (inr ne) =
            subst (IsFirst g s (n + 1)) (sym (get_or-set_other rules symbol s entry None ne))
            (first_past g s n _ (first_other g s n (λ e. ne (e ∙ sym l))) (f.1 s b))

-- the action of a nulled symbol, by the first rules
pub first_inside : (g : Grammar) (rules : List (Option ℕ)) (at symbol : ℕ) (o d : Option ℕ) → AreFirst g (length g.rules) rules → symbol < length g.names → at ≡ symbol → d ≡ get_or rules at d → d ≡ o →
    IsFirst g symbol (length g.rules) o
first_inside g rules at symbol o d f b same is e =
    subst (IsFirst g symbol (length g.rules)) (get_or_default rules symbol None d (omega (arith, f.0, b)) ∙ ap (λ k. get_or rules k d) (sym same) ∙ sym is ∙ e) (f.1 symbol b)

pub action_found : (g : Grammar) (m : MeaningCode) (symbol i : ℕ) (item d : RuleMeaningCode) → length (meaning_of m).rules ≡ length g.rules → IsFirst g symbol (length g.rules) (Some i) → item ≡ get_or m.rules i d →
    Some (action_of item.action) ≡ nulled_action g (meaning_of m) symbol
action_found g m symbol i item d count f at = nulled_found g m symbol i item d count f.0 f.1 f.2 at

pub action_none : (g : Grammar) (m : MeaningCode) (symbol : ℕ) → IsFirst g symbol (length g.rules) None → None ≡ nulled_action g (meaning_of m) symbol
action_none g m symbol f = nulled_none g (meaning_of m) symbol (length g.rules) (omega arith) f
