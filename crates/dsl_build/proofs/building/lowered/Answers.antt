use Rattle.std.proofs.Common.{◌≡◌, ◌∙◌, ap, map, subst, sym, List, ℕ, length, arith, Bor, append-nil}
use Rattle.std.specs.Prelude.{flat_map, filter, true}
use Rattle.std.specs.List.{AllByRecursion}
use Rattle.std.proofs.lemmas.List.{length-map}
use Rattle.grammar_model.specs.Grammar.{Grammar, WrittenRule}
use Rattle.grammar_model.specs.Values.{Meaning}
use Rattle.language_model.specs.Tokens.{Spelled}
use Rattle.language_model.specs.Classes.{Class}
use Rattle.language_model.specs.Description.{Statement}
use Rattle.language_model.specs.Building.{Built, LexemeRow, rules_of, is_of_level, grammar_g1, grammar_l0, named_l0, placed_tokens, sets_of, sets_l0, numbered_from, symbols_g1, built_of}
use Rattle.grammar_core.specs.Written.{rule_of}
use Rattle.dsl_statement.specs.Statements.{statement_of}
use Rattle.dsl_build.specs.Lexical.{lexical_with}
use Rattle.dsl_build.specs.Ready.{IsReadable, IsWritable}
use Rattle.dsl_build.specs.Rules.{grammar_with}
use Rattle.dsl_build.proofs.Faultless.{faultless}
use Rattle.dsl_build.proofs.Granting.{held_all}
use Rattle.dsl_build.proofs.Ranging.{texts_long}
use Rattle.dsl_build.proofs.Sizes.{modest}
use Rattle.dsl_build.proofs.Readying.{placed_readable, l0_writable, g1_writable}
use Rattle.dsl_build.proofs.building.lowered.Goals as goal

abbrev now : Bor Spelled → Spelled
now t = t.now

same_g1 : (d : List Statement) (names : List (List ℕ)) (rules : List WrittenRule) (starts : List ℕ) → names ≡ symbols_g1 d → rules ≡ (grammar_g1 d).rules → starts ≡ (grammar_g1 d).starts → grammar_with names 0 rules starts ≡ grammar_g1 d
same_g1 d names rules starts n r s =
    ap (λ (ns : List (List ℕ)). record { names = ns; rules = rules; starts = starts }) (append-nil names ∙ n)
    ∙ ap (λ (rs : List WrittenRule). record { names = symbols_g1 d; rules = rs; starts = starts }) r
    ∙ ap (λ (ss : List ℕ). record { names = symbols_g1 d; rules = (grammar_g1 d).rules; starts = ss }) s

same_l0 : (d : List Statement) (names : List (List ℕ)) (rules : List WrittenRule) (tokens : List Spelled) (starts : List ℕ) → names ≡ named_l0 d → rules ≡ flat_map (rules_of (named_l0 d)) (filter (is_of_level true) d) → tokens ≡ placed_tokens d → starts ≡ (grammar_l0 d).starts →
    lexical_with names rules tokens starts ≡ grammar_l0 d
same_l0 d names rules tokens starts n r t s =
    ap (λ (ns : List (List ℕ)). lexical_with ns rules tokens starts) n
    ∙ ap (λ (rs : List WrittenRule). lexical_with (named_l0 d) rs tokens starts) r
    ∙ ap (λ (ts : List Spelled). lexical_with (named_l0 d) (flat_map (rules_of (named_l0 d)) (filter (is_of_level true) d)) ts starts) t
    ∙ ap (λ (ss : List ℕ). lexical_with (named_l0 d) (flat_map (rules_of (named_l0 d)) (filter (is_of_level true) d)) (placed_tokens d) ss) s

pub grammars_of-requires-clause-readable : goal.grammars_of-requires-clause-readable
grammars_of-requires-clause-readable c =
    let d = map statement_of c.args.statements.now in
    let tokens : map now c.deref.result.now ≡ placed_tokens d = ap (map now) c.deref.ensures.value ∙ c.requires.texts.tokens in
    held_all IsReadable now c.deref.result.now (subst (λ (ts : List Spelled). AllByRecursion IsReadable ts) (sym tokens) (placed_readable d (faultless d c.requires.faultless) c.requires.described))

pub grammars_of-requires-clause-placed : goal.grammars_of-requires-clause-placed
grammars_of-requires-clause-placed c =
    let d = map statement_of c.args.statements.now in
    let tokens : map now c.deref.result.now ≡ placed_tokens d = ap (map now) c.deref.ensures.value ∙ c.requires.texts.tokens in
    let long = length-map c.deref.result.now now in
    let same : length (map now c.deref.result.now) ≡ length (placed_tokens d) = ap (λ (ts : List Spelled). length ts) tokens in
    let names : length c.args.texts.now.placed.names ≡ length (named_l0 d) = ap (λ (ns : List (List ℕ)). length ns) c.requires.texts.named in
    let few = texts_long d in
    omega (arith, long, same, names, few)

pub grammars_of-requires-clause-room : goal.grammars_of-requires-clause-room
grammars_of-requires-clause-room c =
    let d = map statement_of c.args.statements.now in
    let tokens : map now c.deref.result.now ≡ placed_tokens d = ap (map now) c.deref.ensures.value ∙ c.requires.texts.tokens in
    let sets : length (flat_map sets_of (map now c.deref.result.now)) ≡ length (sets_l0 d) = ap (λ (ts : List Spelled). length (flat_map sets_of ts)) tokens in
    let names : length c.args.texts.now.placed.names ≡ length (named_l0 d) = ap (λ (ns : List (List ℕ)). length ns) c.requires.texts.named in
    let few = (modest d c.requires.described).named in
    omega (arith, sets, names, few)

pub grammars_of-requires-clause-structural : goal.grammars_of-requires-clause-structural
grammars_of-requires-clause-structural c =
    let d = map statement_of c.args.statements.now in
    let r = c.args.resolved in
    let starts = c.deref-2.ensures.value ∙ c.requires.resolved.start in
    subst IsWritable (sym (same_g1 d c.args.named.now.symbols (map rule_of r.rules.structural.items) c.deref-2.result.now c.requires.texts.symbols c.requires.resolved.structural starts))
    (g1_writable d (faultless d c.requires.faultless) c.requires.described)

pub grammars_of-requires-clause-lexical : goal.grammars_of-requires-clause-lexical
grammars_of-requires-clause-lexical c =
    let d = map statement_of c.args.statements.now in
    let r = c.args.resolved in
    let tokens : map now c.deref.result.now ≡ placed_tokens d = ap (map now) c.deref.ensures.value ∙ c.requires.texts.tokens in
    let starts = c.deref-3.ensures.value ∙ c.requires.resolved.starts in
    subst IsWritable (sym (same_l0 d c.args.texts.now.placed.names (map rule_of r.rules.lexical.items) (map now c.deref.result.now) c.deref-3.result.now c.requires.texts.named c.requires.resolved.lexical tokens starts))
    (l0_writable d (faultless d c.requires.faultless) c.requires.described)

abbrev built_with : Grammar → Grammar → List (ℕ × Class) → List LexemeRow → List ℕ → Meaning → Built
built_with g1 l0 sets lexemes discards meaning = record { g1 = g1; l0 = l0; sets = sets; lexemes = lexemes; discards = discards; meaning = meaning }

same_built : (g1 l0 : Grammar) (sets : List (ℕ × Class)) (lexemes : List LexemeRow) (discards : List ℕ) (meaning : Meaning) (b : Built) →
    g1 ≡ b.g1 → l0 ≡ b.l0 → sets ≡ b.sets → lexemes ≡ b.lexemes → discards ≡ b.discards → meaning ≡ b.meaning → built_with g1 l0 sets lexemes discards meaning ≡ b
same_built g1 l0 sets lexemes discards meaning b e f s l k m =
    ap (λ (g : Grammar). built_with g l0 sets lexemes discards meaning) e ∙ ap (λ (g : Grammar). built_with b.g1 g sets lexemes discards meaning) f
    ∙ ap (λ (cs : List (ℕ × Class)). built_with b.g1 b.l0 cs lexemes discards meaning) s ∙ ap (λ (rs : List LexemeRow). built_with b.g1 b.l0 b.sets rs discards meaning) l
    ∙ ap (λ (ks : List ℕ). built_with b.g1 b.l0 b.sets b.lexemes ks meaning) k ∙ ap (λ (n : Meaning). built_with b.g1 b.l0 b.sets b.lexemes b.discards n) m

pub returns-in-Ok : goal.returns-in-Ok
returns-in-Ok c =
    let d = map statement_of c.args.statements.now in
    let r = c.args.resolved in
    let b = built_of d in
    let names = c.args.texts.now.placed.names in
    let tokens : map now c.deref.result.now ≡ placed_tokens d = ap (map now) c.deref.ensures.value ∙ c.requires.texts.tokens in
    let start = c.deref-2.ensures.value ∙ c.requires.resolved.start in
    let starts = c.deref-3.ensures.value ∙ c.requires.resolved.starts in
    let g1 = c.in_ok-grammars.ensures.structural ∙ same_g1 d c.args.named.now.symbols (map rule_of r.rules.structural.items) c.deref-2.result.now c.requires.texts.symbols c.requires.resolved.structural start in
    let l0 = c.in_ok-grammars.ensures.lexical ∙ same_l0 d names (map rule_of r.rules.lexical.items) (map now c.deref.result.now) c.deref-3.result.now c.requires.texts.named c.requires.resolved.lexical tokens starts in
    let sets = c.in_ok-grammars.ensures.sets ∙ ap (λ (ns : List (List ℕ)). numbered_from (length ns) (flat_map sets_of (map now c.deref.result.now))) c.requires.texts.named
    ∙ ap (λ (ts : List Spelled). numbered_from (length (named_l0 d)) (flat_map sets_of ts)) tokens in
    same_built _ _ _ _ _ _ b g1 l0 sets c.requires.resolved.lexemes c.requires.resolved.discards c.in-Ok.ensures
