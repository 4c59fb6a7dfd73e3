use Rattle.std.proofs.Common.{◌≡◌, ◌++◌, ◌∷◌, [], ℕ, List, Vec, Global, map, ap}
use Rattle.std.proofs.lemmas.Result.{IfOk-weaker}
use Rattle.grammar_model.specs.Values.{name_of}
use Rattle.words_model.specs.Words.Telling.{Expected}
use Rattle.run_model.specs.Telling.{done}
use Rattle.text_reading.proofs.InputLemmas.{expected_known, known_in}
use Rattle.tellings.specs.Telling.{TellsReading}
use Rattle.tellings.proofs.NameLines.{names_as}
use Rattle.tellings.proofs.expecting.expected_lines.Goals as goal

pub name_lines-requires : goal.name_lines-requires
name_lines-requires c =
    let b = c.args.prepared.now in
    let read = c.requires.1 in
    known_in b c.known.ensures.ranges c.written.result.now c.deref.result.now c.in_ok-symbols.symbols.items c.written.ensures c.deref.ensures.value
    (expected_known b c.known.ensures.ranges read.pieces c.in_ok-symbols.symbols.items (c.in_ok-symbols.ensures read.pieces read.holds))

pub returns : goal.returns
returns c given is_read =
    let b = c.args.prepared.now in
    let read = is_read in
    let items : Vec ℕ Global → List ℕ = λ l. l.items in
    IfOk-weaker c.name_lines.result
    (λ (lines : Vec (Vec ℕ Global) Global). map items lines.items ≡ map (λ s. name_of c.written.result.now s ++ 10 ∷ []) c.deref.result.now)
    (λ (lines : Vec (Vec ℕ Global) Global). TellsReading Expected b given c.args.chars.now (done (map items lines.items)))
    (λ lines told. record {
      pieces = read.pieces;
      reading = read.is_reading;
      tells = record {
        expected = c.in_ok-symbols.symbols.items;
        are = c.in_ok-symbols.ensures read.pieces read.holds;
        is = ap done (names_as b c.written.result.now c.deref.result.now c.in_ok-symbols.symbols.items _ c.written.ensures c.deref.ensures.value told);
      };
    }) c.name_lines.ensures
