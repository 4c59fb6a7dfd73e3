use Rattle.std.proofs.Common.{◌≡◌, ◌∙◌, ap, map, sym, [], ◌++◌, List, ℕ, subst}
use Rattle.std.specs.Prelude.{flat_map, filter, not}
use Rattle.language_model.specs.Tokens.{Spelled}
use Rattle.language_model.specs.Building.{new_texts, new_tokens, is_one_of, symbols_g1, lexemes, discarded, start_texts, placed_tokens, texts_l0}
use Rattle.language_model.specs.Description.{Statement}
use Rattle.dsl_build.specs.Lexical.{placed_part}
use Rattle.dsl_faults.specs.Uses.{Used, used_of, uses_of, texts_asked}
use Rattle.dsl_faults.specs.declared.uses.Use.{Use}
use Rattle.dsl_faults.specs.declared.uses.Which.TheVariants.{StructuralLeft, Structural, Discarded}
use Rattle.dsl_faults.specs.Texts.{AllNew}
use Rattle.dsl_build.proofs.Differing.{new_all, filter_new}
use Rattle.dsl_faults.proofs.Bridges.{symbols_are}
use Rattle.dsl_build.proofs.TextLemmas.{lexemes_are, discards_are, placed_are}
use Rattle.dsl_build.proofs.texts.texts_of.Goals as goal

pub starts_of-requires : goal.starts_of-requires
starts_of-requires c = subst (λ (ns : List (List ℕ)). AllNew [] ns) (sym c.requires.symbols) (new_all [] _)

pub placed_of-requires : goal.placed_of-requires
placed_of-requires c =
    subst (λ (ns : List (List ℕ)). AllNew [] ns) (sym c.in_ok-starts.ensures.lexemes) (filter_new _ [] c.args.named.now.symbols (subst (λ (ns : List (List ℕ)). AllNew [] ns) (sym c.requires.symbols) (new_all [] _)))

pub returns : goal.returns
returns c = λ (d : List Statement) used.
    let named = c.args.named.now in
    let starts = c.in_ok-starts.starts in
    let seen : map used_of c.deref.result.now ≡ flat_map uses_of d = ap (λ (xs : List Use). map used_of xs) c.deref.ensures.value ∙ used in
    let again : map used_of c.deref-2.result.now ≡ flat_map uses_of d = ap (λ (xs : List Use). map used_of xs) c.deref-2.ensures.value ∙ used in
    let symbols : named.symbols ≡ symbols_g1 d = c.requires.symbols ∙ ap (λ (us : List Used). new_texts [] (flat_map (texts_asked Structural) us)) used ∙ sym (symbols_are d) in
    let left = c.requires.structural ∙ ap (λ (us : List Used). new_texts [] (flat_map (texts_asked StructuralLeft) us)) used in
    let lexical : starts.lexemes ≡ lexemes d = c.in_ok-starts.ensures.lexemes ∙ lexemes_are d named.symbols named.structural symbols left in
    let discards : starts.discards ≡ discarded d = c.in_ok-starts.ensures.discards ∙ ap (λ (us : List Used). new_texts [] (flat_map (texts_asked Discarded) us)) seen ∙ discards_are d in
    let texts : starts.texts ≡ start_texts d =
    c.in_ok-starts.ensures.texts ∙ ap (λ (ns : List (List ℕ)). ns ++ filter (λ t. not (is_one_of ns t)) starts.discards) lexical
    ∙ ap (λ (ns : List (List ℕ)). lexemes d ++ filter (λ t. not (is_one_of (lexemes d) t)) ns) discards in
    let placed : new_tokens [] (flat_map placed_part (map used_of c.deref-2.result.now)) ≡ placed_tokens d = ap (λ (us : List Used). new_tokens [] (flat_map placed_part us)) again ∙ placed_are d in
    record {
      uses = used;
      symbols = symbols;
      lexemes = lexical;
      discards = discards;
      starts = texts;
      tokens = c.in_ok-placed.ensures.tokens ∙ placed;
      named = c.in_ok-placed.ensures.names ∙ ap (λ (ts : List Spelled). map (λ t. t.content) ts ++ filter (λ t. not (is_one_of (map (λ u. u.content) ts) t)) starts.lexemes) placed
          ∙ ap (λ (ns : List (List ℕ)). texts_l0 d ++ filter (λ t. not (is_one_of (texts_l0 d) t)) ns) lexical;
    }
