use Rattle.std.proofs.Common.{◌≡◌, map, take}
use Rattle.std.specs.Prelude.{string_bytes}
use Rattle.run_scenes.specs.Scenes.{texts_of}
use Rattle.run_scenes.proofs.words_of.Given as goal

abbrev pub invariant-loop-text : goal.invariant-loop-text
invariant-loop-text l = map string_bytes l.words.items ≡ texts_of (take l.text-index l.texts)
